-- The first difference of two sides in a list of fields.

use Rattle.std.proofs.Common.{◌≡◌, ◌≢◌, ◌↔◌, ℕ, zero, suc, ◌+◌, ◌<◌, ◌≤◌, List, [], ◌∷◌, ◌++◌, All, Option, Some, None, ◌⊎◌, inl, inr, refl, sym, ap, ◌∙◌, subst, arith, add-one, length}
use Rattle.std.specs.Option.{option_or}
use Rattle.std.proofs.lemmas.Bool.{cases_lt}
use Rattle.std.proofs.lemmas.List.{append-nil}
use Rattle.std.proofs.lemmas.List.Elements.{All-nil, All-cons, All-head, All-tail}
use Rattle.gap_verify.specs.declared.field.Field.{Field}
use Rattle.gap_verify.specs.declared.field.Field.TheVariants as field
use Rattle.gap_verify.specs.declared.said.Said.{Said}
use Rattle.gap_verify.specs.declared.difference.Difference.{Difference}
use Rattle.gap_verify.specs.Sides.{Side, said_of, groups_below, first_fields, asset_fields, row_fields, weight_fields, fields_of}
use Rattle.gap_verify.specs.Differences.{AgreeOn, IsToldOf, difference_at, first_in, difference_of}
use Rattle.gap_verify.proofs.SaidSame.{IsCompared, agrees, differs, compared_is, none_of_agree}

-- ---- the first of two
pub option_or-none : {X : Type 0} (o : Option X) → option_or o None ≡ o
option_or-none None = refl
option_or-none (Some x) = refl

pub option_or-assoc : {X : Type 0} (o p q : Option X) → option_or (option_or o p) q ≡ option_or o (option_or p q)
option_or-assoc None p q = refl
option_or-assoc (Some x) p q = refl

pub none_first : {X : Type 0} (o p : Option X) → option_or o p ≡ None → o ≡ None
none_first None p h = refl
none_first (Some x) p h = cc

pub none_second : {X : Type 0} (o p : Option X) → option_or o p ≡ None → p ≡ None
none_second None p h = h
none_second (Some x) p h = cc

pub some_first : {X : Type 0} (o p : Option X) (x : X) → o ≡ Some x → option_or o p ≡ Some x
some_first {X = X} o p x e = ap (λ (r : Option X). option_or r p) e

pub none_then : {X : Type 0} (o p : Option X) → o ≡ None → option_or o p ≡ p
none_then {X = X} o p e = ap (λ (r : Option X). option_or r p) e

-- ---- lists of fields
pub first_in-nil : (a b : Side) → first_in a b [] ≡ None
unfolding first_in
first_in-nil a b = refl

pub first_in-cons : (a b : Side) (f : Field) (fields : List Field) → first_in a b (f ∷ fields) ≡ option_or (difference_at a b f) (first_in a b fields)
unfolding first_in
first_in-cons a b f fields = refl

pub first_in-one : (a b : Side) (f : Field) → first_in a b (f ∷ []) ≡ difference_at a b f
unfolding first_in
first_in-one a b f = option_or-none (difference_at a b f)

pub first_in-append : (a b : Side) (xs ys : List Field) → first_in a b (xs ++ ys) ≡ option_or (first_in a b xs) (first_in a b ys)
unfolding first_in
first_in-append a b [] ys = refl
first_in-append a b (f ∷ xs) ys =
    ap (λ (r : Option Difference). option_or (difference_at a b f) r) (first_in-append a b xs ys)
    ∙ sym (option_or-assoc (difference_at a b f) (first_in a b xs) (first_in a b ys))

-- ---- what is told
longer : (a b : Side) (f : Field) (fields : List Field) (r : Option Difference) → AgreeOn a b f → IsToldOf a b fields r → IsToldOf a b (f ∷ fields) r
longer a b f fields None e h = All-cons (AgreeOn a b) f fields e h
longer a b f fields (Some d) e h = record {
  before = f ∷ h.before;
  after = h.after;
  stands = ap (λ (xs : List Field). f ∷ xs) h.stands;
  agree = All-cons (AgreeOn a b) f h.before e h.agree;
  found_is = h.found_is;
  wanted_is = h.wanted_is;
  differ = h.differ;
}

pub told_of : (a b : Side) (fields : List Field) → IsToldOf a b fields (first_in a b fields)
unfolding first_in
told_of a b [] = All-nil (AgreeOn a b)
told_of a b (f ∷ fields) = each (told_of a b fields) (compared_is f (said_of a f) (said_of b f))
  where
    each : IsToldOf a b fields (first_in a b fields) → IsCompared f (said_of a f) (said_of b f) → IsToldOf a b (f ∷ fields) (option_or (difference_at a b f) (first_in a b fields))
    each behind (agrees e n) = subst (λ (r : Option Difference). IsToldOf a b (f ∷ fields) r) (sym (none_then (difference_at a b f) (first_in a b fields) n)) (longer a b f fields (first_in a b fields) e behind)
    each behind (differs ne s) =
        subst (λ (r : Option Difference). IsToldOf a b (f ∷ fields) r) (sym (some_first (difference_at a b f) (first_in a b fields) (record { field = f; found = said_of a f; wanted = said_of b f }) s))
        (record { before = []; after = fields; stands = refl; agree = All-nil (AgreeOn a b); found_is = refl; wanted_is = refl; differ = ne })

-- fields that agree are passed over
skipped : (a b : Side) (before fields : List Field) → All (AgreeOn a b) before → first_in a b (before ++ fields) ≡ first_in a b fields
unfolding first_in
skipped a b [] fields h = refl
skipped a b (f ∷ before) fields h =
    none_then (difference_at a b f) (first_in a b (before ++ fields)) (none_of_agree f (said_of a f) (said_of b f) (All-head (AgreeOn a b) f before h))
    ∙ skipped a b before fields (All-tail (AgreeOn a b) f before h)

made : Field → Said → Said → Difference
made f x y = record { field = f; found = x; wanted = y }

made_same : (f : Field) (x x' y y' : Said) → x ≡ x' → y ≡ y' → made f x y ≡ made f x' y'
made_same f x x' y y' p q = ap (λ (z : Said). made f z y) p ∙ ap (λ (z : Said). made f x' z) q

found_first : (a b : Side) (f : Field) (after : List Field) → said_of a f ≢ said_of b f → first_in a b (f ∷ after) ≡ Some (made f (said_of a f) (said_of b f))
unfolding first_in made
found_first a b f after ne = each (compared_is f (said_of a f) (said_of b f))
  where
    each : IsCompared f (said_of a f) (said_of b f) → option_or (difference_at a b f) (first_in a b after) ≡ Some (made f (said_of a f) (said_of b f))
    each (agrees e n) = absurd (ne e)
    each (differs nq s) = some_first (difference_at a b f) (first_in a b after) (made f (said_of a f) (said_of b f)) s

pub told_once : (a b : Side) (fields : List Field) (r : Option Difference) → IsToldOf a b fields r → r ≡ first_in a b fields
unfolding made
told_once a b fields None h = sym (ap (first_in a b) (sym (append-nil fields)) ∙ skipped a b fields [] h ∙ first_in-nil a b)
told_once a b fields (Some d) h =
    sym
    (ap (first_in a b) h.stands ∙ skipped a b h.before (d.field ∷ h.after) h.agree
    ∙ found_first a b d.field h.after (λ e. h.differ (h.found_is ∙ e ∙ sym h.wanted_is))
    ∙ ap Some (made_same d.field (said_of a d.field) d.found (said_of b d.field) d.wanted (sym h.found_is) (sym h.wanted_is)))

pub none_told : (a b : Side) (fields : List Field) → (first_in a b fields ≡ None) ↔ All (AgreeOn a b) fields
none_told a b fields =
    (λ e. subst (λ (r : Option Difference). IsToldOf a b fields r) e (told_of a b fields), λ h. sym (told_once a b fields None h))

-- ---- groups of fields
pub groups_none : (a b : Side) (group : ℕ → List Field) → first_in a b (groups_below group 0) ≡ None
unfolding groups_below first_in
groups_none a b group = refl

pub groups_more : (a b : Side) (group : ℕ → List Field) (i : ℕ) → first_in a b (groups_below group i) ≡ None → first_in a b (group i) ≡ None → first_in a b (groups_below group (i + 1)) ≡ None
unfolding groups_below
groups_more a b group i h k = rw add-one (more a b group i h k)
  where
    more : (a b : Side) (group : ℕ → List Field) (i : ℕ) → first_in a b (groups_below group i) ≡ None → first_in a b (group i) ≡ None → first_in a b (groups_below group (suc i)) ≡ None
    more a b group i h k = first_in-append a b (groups_below group i) (group i) ∙ none_then (first_in a b (groups_below group i)) (first_in a b (group i)) h ∙ k

groups_step : (a b : Side) (group : ℕ → List Field) (n i : ℕ) (d : Difference) → i < suc n → first_in a b (groups_below group i) ≡ None → first_in a b (group i) ≡ Some d → (i < n → first_in a b (groups_below group n) ≡ Some d) → (i < n) ⊎ (n ≤ i) → first_in a b (groups_below group (suc n)) ≡ Some d
unfolding groups_below
groups_step a b group n i d l none some before (inl lt) =
    first_in-append a b (groups_below group n) (group n) ∙ some_first (first_in a b (groups_below group n)) (first_in a b (group n)) d (before lt)
groups_step a b group n i d l none some before (inr ge) =
    let e : n ≡ i = omega arith in
    rw e (first_in-append a b (groups_below group i) (group i) ∙ none_then (first_in a b (groups_below group i)) (first_in a b (group i)) none ∙ some)

-- the difference of a group is the first of all where the groups before it have none
pub groups_found : (a b : Side) (group : ℕ → List Field) (n i : ℕ) (d : Difference) → i < n → first_in a b (groups_below group i) ≡ None → first_in a b (group i) ≡ Some d → first_in a b (groups_below group n) ≡ Some d
groups_found a b group zero i d l none some = absurd (omega arith)
groups_found a b group (suc n) i d l none some = groups_step a b group n i d l none some (λ lt. groups_found a b group n i d lt none some) (cases_lt i n)

groups_at : (a b : Side) (group : ℕ → List Field) (n i : ℕ) → i < suc n → (first_in a b (groups_below group n) ≡ None → i < n → first_in a b (group i) ≡ None) → first_in a b (groups_below group (suc n)) ≡ None → (i < n) ⊎ (n ≤ i) → first_in a b (group i) ≡ None
unfolding groups_below
groups_at a b group n i l before h (inl lt) =
    let both = sym (first_in-append a b (groups_below group n) (group n)) ∙ h in
    before (none_first (first_in a b (groups_below group n)) (first_in a b (group n)) both) lt
groups_at a b group n i l before h (inr ge) =
    let e : i ≡ n = omega arith in
    let both = sym (first_in-append a b (groups_below group n) (group n)) ∙ h in
    rw e (none_second (first_in a b (groups_below group n)) (first_in a b (group n)) both)

-- no group has a difference where all together have none
pub group_none : (a b : Side) (group : ℕ → List Field) (n i : ℕ) → i < n → first_in a b (groups_below group n) ≡ None → first_in a b (group i) ≡ None
group_none a b group zero i l h = absurd (omega arith)
group_none a b group (suc n) i l h = groups_at a b group n i l (λ none lt. group_none a b group n i lt none) h (cases_lt i n)

-- all groups together have none where none has
pub groups_all : (a b : Side) (group : ℕ → List Field) (n : ℕ) → ((i : ℕ) → i < n → first_in a b (group i) ≡ None) → first_in a b (groups_below group n) ≡ None
unfolding groups_below
groups_all a b group zero h = first_in-nil a b
groups_all a b group (suc n) h =
    first_in-append a b (groups_below group n) (group n)
    ∙ none_then (first_in a b (groups_below group n)) (first_in a b (group n)) (groups_all a b group n (λ i l. h i (omega arith))) ∙ h n (omega arith)

-- ---- as the code has them
-- five fields, one after another
pub five : (a b : Side) (f1 f2 f3 f4 f5 : Field) (d1 d2 d3 d4 d5 o2 o3 o4 r : Option Difference)
    → d1 ≡ difference_at a b f1 → d2 ≡ difference_at a b f2 → d3 ≡ difference_at a b f3 → d4 ≡ difference_at a b f4 → d5 ≡ difference_at a b f5
    → o4 ≡ option_or d4 d5 → o3 ≡ option_or d3 o4 → o2 ≡ option_or d2 o3 → r ≡ option_or d1 o2
    → r ≡ first_in a b (f1 ∷ f2 ∷ f3 ∷ f4 ∷ f5 ∷ [])
unfolding first_in
five a b f1 f2 f3 f4 f5 d1 d2 d3 d4 d5 o2 o3 o4 r e1 e2 e3 e4 e5 p4 p3 p2 p1 = let z = option_or-none (difference_at a b f5) in cc

-- a group of one field
pub one_found : (a b : Side) (f : Field) (r : Option Difference) → r ≡ difference_at a b f → first_in a b (f ∷ []) ≡ r
one_found a b f r e = first_in-one a b f ∙ sym e

-- ---- all fields
pub front_found : (a b : Side) (xs ys : List Field) (d : Difference) → first_in a b xs ≡ Some d → first_in a b (xs ++ ys) ≡ Some d
front_found a b xs ys d e = first_in-append a b xs ys ∙ some_first (first_in a b xs) (first_in a b ys) d e

pub back_found : (a b : Side) (xs ys : List Field) → first_in a b xs ≡ None → first_in a b (xs ++ ys) ≡ first_in a b ys
back_found a b xs ys e = first_in-append a b xs ys ∙ none_then (first_in a b xs) (first_in a b ys) e

abbrev counted : Side → List Field
counted b = field.Weights ∷ groups_below weight_fields (length b.weights)

abbrev paired : Side → List Field
paired b = groups_below (row_fields b.instance.market.assets) b.instance.market.assets

abbrev listed : Side → List Field
listed b = groups_below asset_fields b.instance.market.assets

pub all_first : (a b : Side) (d : Difference) → first_in a b first_fields ≡ Some d → difference_of a b ≡ Some d
unfolding difference_of fields_of
all_first a b d e = front_found a b first_fields (listed b ++ (paired b ++ counted b)) d e

pub all_assets : (a b : Side) (d : Difference) → first_in a b first_fields ≡ None → first_in a b (groups_below asset_fields b.instance.market.assets) ≡ Some d → difference_of a b ≡ Some d
unfolding difference_of fields_of
all_assets a b d h e = back_found a b first_fields (listed b ++ (paired b ++ counted b)) h ∙ front_found a b (listed b) (paired b ++ counted b) d e

pub all_pairs : (a b : Side) (d : Difference) → first_in a b first_fields ≡ None → first_in a b (groups_below asset_fields b.instance.market.assets) ≡ None
    → first_in a b (groups_below (row_fields b.instance.market.assets) b.instance.market.assets) ≡ Some d → difference_of a b ≡ Some d
unfolding difference_of fields_of
all_pairs a b d h k e =
    back_found a b first_fields (listed b ++ (paired b ++ counted b)) h ∙ back_found a b (listed b) (paired b ++ counted b) k ∙ front_found a b (paired b) (counted b) d e

-- what is left of all fields where the singles, the assets and the pairs agree
rest_of : (a b : Side) → first_in a b first_fields ≡ None → first_in a b (groups_below asset_fields b.instance.market.assets) ≡ None
    → first_in a b (groups_below (row_fields b.instance.market.assets) b.instance.market.assets) ≡ None → difference_of a b ≡ first_in a b (field.Weights ∷ groups_below weight_fields (length b.weights))
unfolding difference_of fields_of
rest_of a b h k l =
    back_found a b first_fields (listed b ++ (paired b ++ counted b)) h ∙ back_found a b (listed b) (paired b ++ counted b) k ∙ back_found a b (paired b) (counted b) l

pub all_count : (a b : Side) (d : Difference) → first_in a b first_fields ≡ None → first_in a b (groups_below asset_fields b.instance.market.assets) ≡ None
    → first_in a b (groups_below (row_fields b.instance.market.assets) b.instance.market.assets) ≡ None → difference_at a b field.Weights ≡ Some d → difference_of a b ≡ Some d
all_count a b d h k l e =
    rest_of a b h k l ∙ first_in-cons a b field.Weights (groups_below weight_fields (length b.weights)) ∙ some_first (difference_at a b field.Weights) (first_in a b (groups_below weight_fields (length b.weights))) d e

pub all_weights : (a b : Side) → first_in a b first_fields ≡ None → first_in a b (groups_below asset_fields b.instance.market.assets) ≡ None
    → first_in a b (groups_below (row_fields b.instance.market.assets) b.instance.market.assets) ≡ None → difference_at a b field.Weights ≡ None
    → difference_of a b ≡ first_in a b (groups_below weight_fields (length b.weights))
all_weights a b h k l e =
    rest_of a b h k l ∙ first_in-cons a b field.Weights (groups_below weight_fields (length b.weights)) ∙ none_then (difference_at a b field.Weights) (first_in a b (groups_below weight_fields (length b.weights))) e
