-- A priced bound keeps the laws of bounds: below, narrower, exact and empty are proved here once, for every Lagrangian.

use Rattle.std.proofs.Common.{◌≡◌, ℕ, ◌≤◌, Bool, true, false, cond, List, Option, Some, None, ◌⊎◌, inl, inr, ℤ, pos, negsuc, ◌*ℤ◌, ◌≤ℤ◌, ◌<ℤ◌, int_lt, refl, sym, ap, ◌∙◌, arith}
use Rattle.std.proofs.lemmas.Int.{ints}
use Rattle.std.proofs.lemmas.Bool.{false≢true}
use Rattle.gap_box.specs.declared.cell.Cell.{Cell}
use Rattle.gap_box.specs.Cells.{AreCells}
use Rattle.gap_box.specs.Parts.{in_part, can_meet, IsPick, IsSingle, IsWithin}
use Rattle.gap_box.specs.Splits.{child_cells}
use Rattle.gap_box.proofs.CountLaws.{pick_meets, meets_pick}
use Rattle.gap_box.proofs.SplitLaws.{child_within, child_are}
use Rattle.gap_model.specs.declared.leaf.Leaf.{Leaf}
use Rattle.gap_model.specs.declared.leaf.Leaf.TheVariants.{Count, Void, Tangent}
use Rattle.gap_model.specs.declared.shown.Shown.{Shown}
use Rattle.gap_model.specs.declared.shown.Shown.TheVariants.{Nothing, AtLeast, Empty}
use Rattle.gap_model.specs.Theta.{picks, least_value, IsLeastPick}
use Rattle.gap_model.specs.Order.{ShownLe}
use Rattle.gap_model.specs.Leaves.{sixty_fourth, count_shows, void_shows, tangent_shows}
use Rattle.gap_model.specs.Problems.{IsTangentAt, ShowsEmpty, ShowsExactly, IsBound}
use Rattle.gap_model.specs.Priced.{PricedProblem, priced_shows, problem_of, Charges, IsPriced}
use Rattle.gap_model.proofs.ThetaLaws.{pick_least, least_none, none_least, least_is}
use Rattle.gap_model.proofs.LeafLaws.{sixty_fourth_least, sixty_fourth_grows, sixty_fourth_of}

-- ---- narrower: on a part with only some of the lists each kind of leaf shows no less
void_grows : (t u : ℤ) → t ≤ℤ u → ShownLe (void_shows (Some t)) (void_shows (Some u))
void_grows t u h = grows_by (int_lt (pos 0) t) (int_lt (pos 0) u) refl refl
  where
    grows_by : (a b : Bool) → int_lt (pos 0) t ≡ a → int_lt (pos 0) u ≡ b → ShownLe (cond a Empty Nothing) (cond b Empty Nothing)
    grows_by false b p q = tt
    grows_by true true p q = tt
    grows_by true false p q = grind (arith, ints)

narrow_none : (f : List ℕ → ℤ) (cells smaller : List Cell) (fewest most : ℕ) → ((x : List ℕ) → IsPick smaller fewest most x → IsPick cells fewest most x) → least_value f (picks cells fewest most) ≡ None → least_value f (picks smaller fewest most) ≡ None
narrow_none f cells smaller fewest most h e = none_least f smaller fewest most (λ x p. least_none f cells fewest most e x (h x p))

narrow_le : (f : List ℕ → ℤ) (cells smaller : List Cell) (fewest most : ℕ) (t u : ℤ) → ((x : List ℕ) → IsPick smaller fewest most x → IsPick cells fewest most x) → least_value f (picks cells fewest most) ≡ Some t → least_value f (picks smaller fewest most) ≡ Some u → t ≤ℤ u
narrow_le f cells smaller fewest most t u h a b = let p = pick_least f cells fewest most t a in let q = pick_least f smaller fewest most u b in let r = q.reached in let g = p.below r.0 (h r.0 r.1) in let e = r.2 in omega (arith, ints)

void_narrow : (f : List ℕ → ℤ) (cells smaller : List Cell) (fewest most : ℕ) → ((x : List ℕ) → IsPick smaller fewest most x → IsPick cells fewest most x) → ShownLe (void_shows (least_value f (picks cells fewest most))) (void_shows (least_value f (picks smaller fewest most)))
void_narrow f cells smaller fewest most h = narrow_by (least_value f (picks cells fewest most)) (least_value f (picks smaller fewest most)) refl refl
  where
    none_by : (o : Option ℤ) → o ≡ None → ShownLe Empty (void_shows o)
    none_by None e = tt
    none_by (Some u) e = cc

    empty_top : (t : ℤ) → ShownLe (void_shows (Some t)) Empty
    empty_top t = top_by (int_lt (pos 0) t)
      where
        top_by : (b : Bool) → ShownLe (cond b Empty Nothing) Empty
        top_by true = tt
        top_by false = tt

    narrow_by : (o r : Option ℤ) → least_value f (picks cells fewest most) ≡ o → least_value f (picks smaller fewest most) ≡ r → ShownLe (void_shows o) (void_shows r)
    narrow_by None r a b = none_by r (sym b ∙ narrow_none f cells smaller fewest most h a)
    narrow_by (Some t) None a b = empty_top t
    narrow_by (Some t) (Some u) a b = void_grows t u (narrow_le f cells smaller fewest most t u h a b)

tangent_narrow : (f : List ℕ → ℤ) (cells smaller : List Cell) (fewest most : ℕ) → ((x : List ℕ) → IsPick smaller fewest most x → IsPick cells fewest most x) → ShownLe (tangent_shows (least_value f (picks cells fewest most))) (tangent_shows (least_value f (picks smaller fewest most)))
tangent_narrow f cells smaller fewest most h = narrow_by (least_value f (picks cells fewest most)) (least_value f (picks smaller fewest most)) refl refl
  where
    none_by : (o : Option ℤ) → o ≡ None → ShownLe Empty (tangent_shows o)
    none_by None e = tt
    none_by (Some u) e = cc

    narrow_by : (o r : Option ℤ) → least_value f (picks cells fewest most) ≡ o → least_value f (picks smaller fewest most) ≡ r → ShownLe (tangent_shows o) (tangent_shows r)
    narrow_by None r a b = none_by r (sym b ∙ narrow_none f cells smaller fewest most h a)
    narrow_by (Some t) None a b = tt
    narrow_by (Some t) (Some u) a b = sixty_fourth_grows t u (narrow_le f cells smaller fewest most t u h a b)

count_narrow : (cells smaller : List Cell) (fewest most : ℕ) → fewest ≤ most → AreCells cells → AreCells smaller → ((x : List ℕ) → IsPick smaller fewest most x → IsPick cells fewest most x) → ShownLe (count_shows (can_meet cells fewest most)) (count_shows (can_meet smaller fewest most))
count_narrow cells smaller fewest most le h g sub = count_by (can_meet cells fewest most) (can_meet smaller fewest most) refl refl
  where
    count_by : (a b : Bool) → can_meet cells fewest most ≡ a → can_meet smaller fewest most ≡ b → ShownLe (count_shows a) (count_shows b)
    count_by true b p q = tt
    count_by false false p q = tt
    count_by false true p q = let w = meets_pick smaller fewest most g le q in absurd (false≢true (sym p ∙ pick_meets cells fewest most w.0 h (sub w.0 w.1)))

cond_le : (b : Bool) (x y : Shown) → ShownLe x y → ShownLe (cond b x Nothing) (cond b y Nothing)
cond_le true x y h = h
cond_le false x y h = tt

priced_narrower : (p : PricedProblem) (cells smaller : List Cell) (leaf : Leaf) → p.fewest ≤ p.most → AreCells cells → AreCells smaller → ((x : List ℕ) → in_part smaller x ≡ true → in_part cells x ≡ true) → ShownLe (priced_shows p cells leaf) (priced_shows p smaller leaf)
unfolding priced_shows
priced_narrower p cells smaller Count le h g sub = count_narrow cells smaller p.fewest p.most le h g (λ x q. record { inside = sub x q.inside; few = q.few; many = q.many })
priced_narrower p cells smaller (Void alpha tau third) le h g sub = cond_le (p.says (Void alpha tau third)) _ _ (void_narrow (p.price (Void alpha tau third)) cells smaller p.fewest p.most (λ x q. record { inside = sub x q.inside; few = q.few; many = q.many }))
priced_narrower p cells smaller (Tangent y alpha tau third) le h g sub = cond_le (p.says (Tangent y alpha tau third)) _ _ (tangent_narrow (p.price (Tangent y alpha tau third)) cells smaller p.fewest p.most (λ x q. record { inside = sub x q.inside; few = q.few; many = q.many }))

-- ---- below
count_below : (b : Bool) (c : ℤ) → b ≡ true → ShownLe (count_shows b) (AtLeast c)
count_below true c e = tt
count_below false c e = cc

void_below : (f : List ℕ → ℤ) (cells : List Cell) (fewest most : ℕ) (x : List ℕ) (c : ℤ) → IsPick cells fewest most x → f x ≤ℤ pos 0 → ShownLe (void_shows (least_value f (picks cells fewest most))) (AtLeast c)
void_below f cells fewest most x c p h = below_by (least_value f (picks cells fewest most)) refl
  where
    nothing_by : (b : Bool) → b ≡ false → ShownLe (cond b Empty Nothing) (AtLeast c)
    nothing_by true e = cc
    nothing_by false e = tt

    below_by : (o : Option ℤ) → least_value f (picks cells fewest most) ≡ o → ShownLe (void_shows o) (AtLeast c)
    below_by None e = absurd (least_none f cells fewest most e x p)
    below_by (Some t) e = let l = (pick_least f cells fewest most t e).below x p in nothing_by (int_lt (pos 0) t) (grind (arith, ints))

tangent_below_by : (f : List ℕ → ℤ) (cells : List Cell) (fewest most : ℕ) (x : List ℕ) (c : ℤ) → IsPick cells fewest most x → f x ≤ℤ (pos 64 *ℤ c) → ShownLe (tangent_shows (least_value f (picks cells fewest most))) (AtLeast c)
tangent_below_by f cells fewest most x c p h = below_by (least_value f (picks cells fewest most)) refl
  where
    below_by : (o : Option ℤ) → least_value f (picks cells fewest most) ≡ o → ShownLe (tangent_shows o) (AtLeast c)
    below_by None e = absurd (least_none f cells fewest most e x p)
    below_by (Some t) e = let l = (pick_least f cells fewest most t e).below x p in sixty_fourth_least t c (omega (arith, ints))

-- a leaf that says nothing shows Nothing
said_or_not : (b : Bool) (x : Shown) (c : ℤ) → (b ≡ true → ShownLe x (AtLeast c)) → ShownLe (cond b x Nothing) (AtLeast c)
said_or_not true x c h = h refl
said_or_not false x c h = tt

priced_below : (p : PricedProblem) (part : List Cell) (leaf : Leaf) (x : List ℕ) → IsPriced p → AreCells part → p.in_range leaf ≡ true → in_part part x ≡ true → p.meets x ≡ true → ShownLe (priced_shows p part leaf) (AtLeast (p.cost x))
unfolding priced_shows
priced_below p part Count x is h r i m = let k = is.picked x m in count_below (can_meet part p.fewest p.most) (p.cost x) (pick_meets part p.fewest p.most x h (record { inside = i; few = k.few; many = k.many }))
priced_below p part (Void alpha tau third) x is h r i m = let k = is.picked x m in said_or_not (p.says (Void alpha tau third)) _ (p.cost x) (λ e. void_below (p.price (Void alpha tau third)) part p.fewest p.most x (p.cost x) (record { inside = i; few = k.few; many = k.many }) (is.paid (Void alpha tau third) x refl (record { in_range = r; says = e }) m))
priced_below p part (Tangent y alpha tau third) x is h r i m = let k = is.picked x m in said_or_not (p.says (Tangent y alpha tau third)) _ (p.cost x) (λ e. tangent_below_by (p.price (Tangent y alpha tau third)) part p.fewest p.most x (p.cost x) (record { inside = i; few = k.few; many = k.many }) (is.below (Tangent y alpha tau third) x refl (record { in_range = r; says = e }) m))

-- ---- single parts
single_least : (f : List ℕ → ℤ) (part : List Cell) (fewest most : ℕ) (x : List ℕ) → IsSingle part fewest most x → IsLeastPick f part fewest most (f x)
single_least f part fewest most x h = record { reached = (x, h.pick, refl); below = λ z p. let e = ap f (h.only z p) in omega (arith, ints) }

said : (b : Bool) (x y : Shown) → b ≡ true → cond b x y ≡ x
said true x y e = refl
said false x y e = cc

priced_exact : (p : PricedProblem) (part : List Cell) (leaf : Leaf) (x : List ℕ) → IsPriced p → IsSingle part p.fewest p.most x → p.meets x ≡ true → IsTangentAt x leaf → ShowsExactly (problem_of p) part leaf (p.cost x)
unfolding priced_shows
priced_exact p part Count x is h m t = absurd t
priced_exact p part (Void alpha tau third) x is h m t = absurd t
priced_exact p part (Tangent y alpha tau third) x is h m t =
    let w = is.exact (Tangent y alpha tau third) x m t in
    let f = p.price (Tangent y alpha tau third) in
    let a = least_is f part p.fewest p.most (f x) (single_least f part p.fewest p.most x h) in
    record {
      in_range = w.said.in_range;
      exact = said (p.says (Tangent y alpha tau third)) _ Nothing w.said.says ∙ ap tangent_shows a ∙ ap AtLeast (ap sixty_fourth w.exact ∙ sixty_fourth_of (p.cost x));
    }

priced_void : (p : PricedProblem) (part : List Cell) (alpha tau third : ℤ) (x : List ℕ) → IsSingle part p.fewest p.most x → Charges p x (Void alpha tau third) → ShowsEmpty (problem_of p) part (Void alpha tau third)
unfolding priced_shows
priced_void p part alpha tau third x h w =
    let f = p.price (Void alpha tau third) in
    record {
      in_range = w.said.in_range;
      empty = said (p.says (Void alpha tau third)) _ Nothing w.said.says ∙ ap void_shows (least_is f part p.fewest p.most (f x) (single_least f part p.fewest p.most x h)) ∙ positive_empty (f x) w.positive;
    }
  where
    positive_empty : (t : ℤ) → pos 0 <ℤ t → void_shows (Some t) ≡ Empty
    positive_empty t h = empty_by (int_lt (pos 0) t) (grind (arith, ints))
      where
        empty_by : (b : Bool) → b ≡ true → cond b Empty Nothing ≡ Empty
        empty_by true e = refl
        empty_by false e = cc

priced_empty : (p : PricedProblem) (part : List Cell) (x : List ℕ) → IsPriced p → IsWithin part p.whole → IsSingle part p.fewest p.most x → p.meets x ≡ false → (third : ℤ) × (ShowsEmpty (problem_of p) part (Void (pos 1) (pos 0) third) ⊎ ShowsEmpty (problem_of p) part (Void (negsuc 0) (pos 0) third) ⊎ ShowsEmpty (problem_of p) part (Void (pos 0) (pos 1) third))
priced_empty p part x is w h m =
    let r = is.charged x (record { inside = w.inside x h.pick.inside; few = h.pick.few; many = h.pick.many }) m in
    (r.0, each r.0 r.1)
  where
    each : (third : ℤ) → Charges p x (Void (pos 1) (pos 0) third) ⊎ Charges p x (Void (negsuc 0) (pos 0) third) ⊎ Charges p x (Void (pos 0) (pos 1) third) → ShowsEmpty (problem_of p) part (Void (pos 1) (pos 0) third) ⊎ ShowsEmpty (problem_of p) part (Void (negsuc 0) (pos 0) third) ⊎ ShowsEmpty (problem_of p) part (Void (pos 0) (pos 1) third)
    each third (inl c) = inl (priced_void p part (pos 1) (pos 0) third x h c)
    each third (inr (inl c)) = inr (inl (priced_void p part (negsuc 0) (pos 0) third x h c))
    each third (inr (inr c)) = inr (inr (priced_void p part (pos 0) (pos 1) third x h c))

priced_uncounted : (p : PricedProblem) (part : List Cell) → IsPriced p → can_meet part p.fewest p.most ≡ false → ShowsEmpty (problem_of p) part Count
unfolding priced_shows
priced_uncounted p part is e = record { in_range = is.counts; empty = ap count_shows e }

-- ---- the laws
pub priced_lawful : (p : PricedProblem) → IsPriced p → IsBound (problem_of p)
priced_lawful p is = record {
  range = is.range;
  picked = is.picked;
  below = λ part leaf x q r i m. priced_below p part leaf x is q.valid r i m;
  narrower = λ part leaf split side q r l. priced_narrower p part (child_cells part split side) leaf is.range q.valid (child_are part split side q.valid l) (child_within part split side q.valid l).inside;
  exact = λ part leaf x q h m t. priced_exact p part leaf x is h m t;
  empty = λ part x q h m. priced_empty p part x is q.within h m;
  uncounted = λ part q e. priced_uncounted p part is e;
  sizes = is.sizes;
}
