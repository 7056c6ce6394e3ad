-- The items of sections, by the grammar: what comes next is due, and the stage behind it.
use Rattle.std.proofs.Common.{◌≡◌, ◌≢◌, ℕ, ◌+◌, ◌-◌, ◌<◌, ◌≤◌, ◌⊎◌, inl, inr, ◌==◌, if◌then◌else◌, Bool, true, false, List, [], ◌∷◌, drop, length, All, Option, Some, None, IsTrue, ℤ, refl, sym, ap, ◌∙◌, subst, arith}
use Rattle.std.specs.Option.{ForSome}
use Rattle.std.proofs.lemmas.Bool.{cases_eq}
use Rattle.std.proofs.lemmas.Bool.Decides.{nat_tests}
use Rattle.std.proofs.lemmas.List.Elements.{All-nil, All-cons, All-head, All-tail}
use Rattle.gap_base.specs.declared.witness.Witness.{Witness}
use Rattle.gap_box.specs.declared.cell.Cell.{Cell}
use Rattle.gap_box.specs.declared.split.Split.{Split}
use Rattle.gap_box.specs.declared.split.Side.{Side}
use Rattle.gap_box.specs.declared.split.Side.TheVariants.{First, Second}
use Rattle.gap_box.specs.Splits.{lawful_split, child_cells}
use Rattle.gap_box.proofs.SplitLaws.{child_within, child_are}
use Rattle.gap_instance.specs.Limits.{MeetsLimits}
use Rattle.gap_model.specs.declared.shown.Shown.{Shown}
use Rattle.gap_model.specs.declared.shown.Shown.TheVariants.{Nothing, AtLeast, Empty}
use Rattle.gap_model.specs.Leaves.{tangent_shows, AreMultipliers}
use Rattle.gap_cert.specs.declared.field.Field.TheVariants as field
use Rattle.gap_cert.specs.declared.field.Group.{Group}
use Rattle.gap_cert.specs.declared.context.Phase.{Phase}
use Rattle.gap_cert.specs.declared.context.Phase.TheVariants as phase
use Rattle.gap_cert.specs.declared.context.Context.{Context}
use Rattle.gap_cert.specs.Contexts.{behind_field, behind_leaf, enters}
use Rattle.gap_cert.specs.Certificates.{CertHead, CertLeaf, count, void, tangent, leaf_field}
use Rattle.gap_judge.specs.Walks.{splits_first, IsLawfulNext}
use Rattle.gap_valid.specs.Heads.{instance_in, market_in, root_in, IsHead}
use Rattle.gap_valid.specs.CertTrees.{leaf_shows, lesser_shown, IsWitness, IsLeafIn}
use Rattle.gap_valid.specs.Valid.{IsWeight}
use Rattle.gap_valid.proofs.HeadLaws.{root_is}
use Rattle.gap_judge.specs.Progress.{Progress, progress_behind, section_begun, with_shown, with_told, told_when, behind_shown, shown_next}
use Rattle.gap_judge.specs.Faults.{IsItemRight, IsLeafRight, IsSplitRight, IsRightNext, objective_now}
use Rattle.gap_judge.specs.Ready.{IsDue, IsLeafDue, IsPartOf}
use Rattle.gap_check.specs.Stages.{IsSameHead, IsWholeAt, IsWitnessAt, IsOpening, HasBest, IsNodeAt, IsStage, IsAt}
use Rattle.gap_check.proofs.Nexts.{NextStart, NextPortfolio, NextObjective, NextBound, NextOverall, IsLeafAt, NextLeaf, NextSplit, NextNode, NextEnd}
use Rattle.gap_check.proofs.Yields.{for_none, for_some}
use Rattle.gap_check.proofs.HeadStages.{Goes, at_phase}

-- a choice by a number
is_true : (a b : ℕ) → a ≡ b → (a == b) ≡ true
is_true a b e = grind (arith, nat_tests)

is_false : (a b : ℕ) → (a ≡ b → ⊥) → (a == b) ≡ false
is_false a b k = grind (arith, nat_tests)

pub chosen : (P : Context → Type 0) (a b : ℕ) (s t : Context) → (a ≡ b → P s) → (a ≢ b → P t) → P (if a == b then s else t)
chosen P a b s t f g = by (cases_eq a b)
  where
    by : (a ≡ b) ⊎ (a ≡ b → ⊥) → P (if a == b then s else t)
    by (inl e) = subst (λ (k : Bool). P (if k then s else t)) (sym (is_true a b e)) (f e)
    by (inr n) = subst (λ (k : Bool). P (if k then s else t)) (sym (is_false a b n)) (g n)

whole_as : (c d : Context) (h : CertHead) → d.n ≡ c.n → d.lots ≡ c.lots → d.held ≡ c.held → d.held_most ≡ c.held_most → d.turnover ≡ c.turnover → IsWholeAt c h → IsWholeAt d h
whole_as c d h a b e f t w = record {
  same = record { n_is = w.same.n_is ∙ sym a; lots_is = w.same.lots_is ∙ sym b; held_is = w.same.held_is ∙ sym e; held_most_is = w.same.held_most_is ∙ sym f; turnover_is = w.same.turnover_is ∙ sym t };
  head_is = w.head_is;
  dominant = w.dominant;
}

-- a witness in its ranges for the context is one for the instance
pub witness_in : (c : Context) (h : CertHead) (w : Witness) → IsSameHead c h → IsWitnessAt c.n c.lots c.turnover w → IsWitness (instance_in h) w
unfolding instance_in market_in
witness_in c h w s r = record {
  point = record { count = r.count ∙ sym s.n_is; most = omega (arith, r.most, s.lots_is) };
  multipliers = subst (λ (t : Option ℕ). AreMultipliers t w.alpha w.tau) (sym s.turnover_is) r.multipliers;
}

-- ---- the first item of a section

root_part : (h : CertHead) → IsHead h → All (IsPartOf h) (root_in h ∷ [])
root_part h is = All-cons (IsPartOf h) (root_in h) [] (record { same_length = refl; inside = λ x i. i }, root_is h is) (All-nil (IsPartOf h))

abbrev Begins : Context → Progress → ℕ → ℕ → ℕ → Context → Type 0
Begins c p a b outcome d = IsAt (record d { outcome = outcome; last = None }) (section_begun p (record { p = a; q = b }) outcome)

begin_opening : (c : Context) (p : Progress) (a b outcome : ℕ) (q : Phase) → IsWholeAt c p.head → IsWeight (record { p = a; q = b }) →
    IsOpening (record (enters c q 1) { outcome = outcome; last = None }) (section_begun p (record { p = a; q = b }) outcome)
unfolding section_begun
begin_opening c p a b outcome q w weight = record {
  whole = whole_as c _ p.head refl refl refl refl refl w;
  begun = record { head_is = w.head_is; weight_is = weight };
  outcome_is = refl;
  parts_are = refl;
  splits_are = refl;
  least_is = refl;
  last_is = refl;
}

one_or_three : (o : ℕ) → 1 ≤ o → o ≤ 4 → o ≢ 2 → o ≢ 4 → (o ≡ 1) ⊎ (o ≡ 3)
one_or_three o low high a b = by (cases_eq o 1)
  where
    by : (o ≡ 1) ⊎ (o ≡ 1 → ⊥) → (o ≡ 1) ⊎ (o ≡ 3)
    by (inl e) = inl e
    by (inr k) = inr (omega arith)

pub start_goes : (c : Context) (p : Progress) (g : Group) → p.ended ≡ false → IsWholeAt c p.head → NextStart c g → Goes c p g
unfolding IsDue progress_behind behind_field IsStage section_begun
start_goes c p g unended w n = subst (Goes c p) (sym n.group_is) (record { due = (w.head_is, n.weight_is); stage = λ right. chosen (Begins c p n.p n.q n.outcome) n.outcome 2 (enters c phase.Node 1) (if n.outcome == 4 then enters c phase.Bound 1 else enters c phase.Portfolio 1) none some })
  where
    none : n.outcome ≡ 2 → Begins c p n.p n.q n.outcome (enters c phase.Node 1)
    none two = at_phase phase.Node _ _ refl
        (record {
          whole = whole_as c _ p.head refl refl refl refl refl w;
          due = record { begun = record { head_is = w.head_is; weight_is = n.weight_is }; some = omega arith; parts_are = root_part p.head w.head_is; least_is = λ e. cc; within = omega arith };
          outcome_is = refl;
          parts_are = refl;
          last_is = for_none _;
        }) unended

    some : n.outcome ≢ 2 → Begins c p n.p n.q n.outcome (if n.outcome == 4 then enters c phase.Bound 1 else enters c phase.Portfolio 1)
    some other = chosen (Begins c p n.p n.q n.outcome) n.outcome 4 (enters c phase.Bound 1) (enters c phase.Portfolio 1)
        (λ four. at_phase phase.Bound _ _ refl (begin_opening c p n.p n.q n.outcome phase.Bound w n.weight_is, inr (four, refl)) unended)
        (λ nor. at_phase phase.Portfolio _ _ refl (begin_opening c p n.p n.q n.outcome phase.Portfolio w n.weight_is, one_or_three n.outcome n.least n.most other nor, refl) unended)

-- ---- the portfolio, the objective, the bound and the witness for the root

opening_as : (c : Context) (p q : Progress) (r : Phase) → q.head ≡ p.head → q.weight ≡ p.weight → q.outcome ≡ p.outcome → q.parts ≡ p.parts → q.splits ≡ p.splits → q.least ≡ p.least → IsOpening c p → IsOpening (enters c r 1) q
opening_as c p q r h w o parts splits least i = record {
  whole = subst (IsWholeAt (enters c r 1)) (sym h) (whole_as c _ p.head refl refl refl refl refl i.whole);
  begun = record { head_is = subst IsHead (sym h) i.begun.head_is; weight_is = subst IsWeight (sym w) i.begun.weight_is };
  outcome_is = i.outcome_is ∙ sym o;
  parts_are = parts ∙ i.parts_are ∙ ap (λ (k : CertHead). root_in k ∷ []) (sym h);
  splits_are = splits ∙ i.splits_are;
  least_is = least ∙ i.least_is;
  last_is = i.last_is;
}

pub portfolio_goes : (c : Context) (p : Progress) (g : Group) → p.ended ≡ false → IsOpening c p → (p.outcome ≡ 1) ⊎ (p.outcome ≡ 3) → NextPortfolio c g → Goes c p g
unfolding IsDue IsItemRight progress_behind behind_field IsStage
portfolio_goes c p g unended i o n = subst (Goes c p) (sym n.group_is) (record {
  due = i.whole.head_is;
  stage = λ right. at_phase phase.Objective _ _ refl (opening_as c p _ phase.Objective refl refl refl refl refl refl i, o, right) unended;
})

pub objective_goes : (c : Context) (p : Progress) (g : Group) → p.ended ≡ false → IsOpening c p → (p.outcome ≡ 1) ⊎ (p.outcome ≡ 3) → MeetsLimits (instance_in p.head) p.lots → NextObjective c g → Goes c p g
unfolding IsDue IsItemRight progress_behind behind_field IsStage
objective_goes c p g unended i o m n = subst (Goes c p) (sym n.group_is) (record {
  due = (i.whole.head_is, m);
  stage = λ right. chosen (λ (d : Context). IsAt d (progress_behind p (field.Objective n.value))) c.outcome 3 (enters c phase.Bound 1) (enters c phase.Overall 1)
      (λ three. at_phase phase.Bound _ _ refl (opening_as c p _ phase.Bound refl refl refl refl refl refl i, inl (sym i.outcome_is ∙ three, has right)) unended)
      (λ other. at_phase phase.Overall _ _ refl (opening_as c p _ phase.Overall refl refl refl refl refl refl i, inl (one o other, has right)) unended);
})
  where
    has : n.value ≡ objective_now p → HasBest (record p { best = Some (record { lots = p.lots; value = n.value }) })
    has right = record { best = record { lots = p.lots; value = n.value }; best_is = refl; portfolio = record { meets = m; value_is = right } }

    one : (p.outcome ≡ 1) ⊎ (p.outcome ≡ 3) → c.outcome ≢ 3 → p.outcome ≡ 1
    one (inl e) other = e
    one (inr e) other = absurd (other (i.outcome_is ∙ e))

abbrev BoundBest : Progress → Type 0
BoundBest p = ((p.outcome ≡ 3) × HasBest p) ⊎ ((p.outcome ≡ 4) × (p.best ≡ None))

best_as : (p : Progress) (v : ℤ) → HasBest p → HasBest (record p { bound = v })
best_as p v h = record { best = h.best; best_is = h.best_is; portfolio = h.portfolio }

pub bound_goes : (c : Context) (p : Progress) (g : Group) → p.ended ≡ false → IsOpening c p → BoundBest p → NextBound c g → Goes c p g
unfolding IsDue IsItemRight progress_behind behind_field IsStage
bound_goes c p g unended i o n = subst (Goes c p) (sym n.group_is) (record {
  due = tt;
  stage = λ right. at_phase phase.Overall _ _ refl (opening_as c p _ phase.Overall refl refl refl refl refl refl i, inr (moved o)) unended;
})
  where
    moved : BoundBest p → BoundBest (record p { bound = n.value })
    moved (inl h) = inl (h.0, best_as p n.value h.1)
    moved (inr h) = inr h

pub overall_goes : (c : Context) (p : Progress) (g : Group) → p.ended ≡ false → IsOpening c p → NextOverall c g → Goes c p g
unfolding IsDue progress_behind behind_field IsStage
overall_goes c p g unended i n = subst (Goes c p) (sym n.group_is) (record {
  due = (i.begun, in_range n.overall n.ranges);
  stage = λ right. at_phase phase.Node _ _ refl
      (record {
        whole = whole_as c _ p.head refl refl refl refl refl i.whole;
        due = record {
          begun = record { head_is = i.begun.head_is; weight_is = i.begun.weight_is };
          some = subst (λ (parts : List (List Cell)). 0 < length parts) (sym i.parts_are) (omega arith);
          parts_are = subst (All (IsPartOf p.head)) (sym i.parts_are) (root_part p.head i.whole.head_is);
          least_is = λ e. let a = sym i.least_is ∙ e in cc;
          within = omega (arith, i.splits_are);
        };
        outcome_is = i.outcome_is;
        parts_are = ap length i.parts_are;
        last_is = subst (λ (w : Option Witness). ForSome w (IsWitnessAt c.n c.lots c.turnover)) (sym i.last_is) (for_none _);
      }) unended;
})
  where
    in_range : (w : Option Witness) → ForSome w (IsWitnessAt c.n c.lots c.turnover) → ForSome w (IsWitness (instance_in p.head))
    in_range None r = for_none _
    in_range (Some w) r = for_some (IsWitness (instance_in p.head)) w (witness_in c p.head w i.whole.same (r w refl))

-- ---- nodes

-- what is shown, where it isn't nothing
lesser_some : (a b : Shown) → a ≢ Nothing → b ≢ Nothing → lesser_shown a b ≢ Nothing
lesser_some Nothing b h k = absurd (h refl)
lesser_some (AtLeast a) Nothing h k = absurd (k refl)
lesser_some (AtLeast a) (AtLeast b) h k = λ e. cc
lesser_some (AtLeast a) Empty h k = λ e. cc
lesser_some Empty b h k = k

tangent_some : (t : Option ℤ) → tangent_shows t ≢ Nothing
tangent_some None = λ e. cc
tangent_some (Some t) = λ e. cc

leaf_some : (p : Progress) (leaf : CertLeaf) → IsRightNext p leaf → shown_next p leaf ≢ Nothing
unfolding leaf_shows
leaf_some p count r = λ e. let a = sym (r refl) ∙ e in cc
leaf_some p (void alpha tau) r = λ e. let a = sym (r refl) ∙ e in cc
leaf_some p (tangent w) r = tangent_some _

-- the parts behind a leaf are within the root
fewer_parts : (h : CertHead) (parts : List (List Cell)) → All (IsPartOf h) parts → All (IsPartOf h) (drop 1 parts)
fewer_parts h [] a = a
fewer_parts h (part ∷ parts) a = All-tail (IsPartOf h) part parts a

pub fewer_length : {X : Type 0} (xs : List X) (n : ℕ) → length xs ≡ n → length (drop 1 xs) ≡ n - 1
fewer_length [] n e = omega (arith, e)
fewer_length (x ∷ xs) n e = omega (arith, e)

-- is the tree whole behind a leaf?
pub last_one : {X : Type 0} (xs : List X) → length xs ≡ 1 → drop 1 xs ≡ []
last_one [] e = refl
last_one (x ∷ []) e = refl
last_one (x ∷ y ∷ xs) e = absurd (omega (arith, e))

pub told_last : (p : Progress) (shown : Shown) → drop 1 p.parts ≡ [] → behind_shown p shown ≡ with_told (with_shown p shown)
unfolding behind_shown
told_last p shown e = ap (λ (parts : List (List Cell)). told_when parts (with_shown p shown)) e

told_never : (parts : List (List Cell)) (p : Progress) → 0 < length parts → told_when parts p ≡ p
told_never [] p h = absurd (omega arith)
told_never (part ∷ parts) p h = refl

pub told_later : (p : Progress) (shown : Shown) → 0 < length (drop 1 p.parts) → behind_shown p shown ≡ with_shown p shown
unfolding behind_shown
told_later p shown h = told_never (drop 1 p.parts) (with_shown p shown) h

pub leaf_in : (c : Context) (h : CertHead) (leaf : CertLeaf) → IsSameHead c h → IsLeafAt c leaf → IsLeafIn (instance_in h) leaf
unfolding instance_in
leaf_in c h count s r = tt
leaf_in c h (void alpha tau) s r = subst (λ (t : Option ℕ). AreMultipliers t alpha tau) (sym s.turnover_is) r
leaf_in c h (tangent w) s r = witness_in c h w s r

-- behind a leaf, whatever its witness
leaf_at : (c : Context) (p : Progress) (shown : Shown) (last : Option Witness) → c.phase ≡ phase.Node → p.ended ≡ false → IsNodeAt c p → shown ≢ Nothing → ForSome last (IsWitnessAt c.n c.lots c.turnover) →
    IsAt (record (behind_leaf c) { last = last }) (behind_shown p shown)
unfolding IsStage
leaf_at c p shown last e unended i some r =
    chosen (λ (d : Context). IsAt (record d { last = last }) (behind_shown p shown)) c.left 1 (if c.sections == 0 then enters c phase.End 1 else record (enters c phase.Section 1) { sections = c.sections - 1 }) (record c { left = c.left - 1 }) whole more
  where
    whole : c.left ≡ 1 → IsAt (record (if c.sections == 0 then enters c phase.End 1 else record (enters c phase.Section 1) { sections = c.sections - 1 }) { last = last }) (behind_shown p shown)
    whole one = subst (λ (q : Progress). IsAt (record (if c.sections == 0 then enters c phase.End 1 else record (enters c phase.Section 1) { sections = c.sections - 1 }) { last = last }) q) (sym (told_last p shown (last_one p.parts (i.parts_are ∙ one))))
        (chosen (λ (d : Context). IsAt (record d { last = last }) (with_told (with_shown p shown))) c.sections 0 (enters c phase.End 1) (record (enters c phase.Section 1) { sections = c.sections - 1 })
        (λ none. at_phase phase.End _ _ refl (whole_as c _ p.head refl refl refl refl refl i.whole) unended)
        (λ left. at_phase phase.Section _ _ refl (whole_as c _ p.head refl refl refl refl refl i.whole) unended))

    more : c.left ≢ 1 → IsAt (record c { left = c.left - 1; last = last }) (behind_shown p shown)
    more other =
        let fewer = fewer_length p.parts c.left i.parts_are in
        let there : 0 < length (drop 1 p.parts) = omega (arith, fewer, i.parts_are, i.due.some, other) in
        subst (IsAt (record c { left = c.left - 1; last = last })) (sym (told_later p shown there)) (at_phase phase.Node _ _ e
        (record {
          whole = whole_as c _ p.head refl refl refl refl refl i.whole;
          due = record { begun = record { head_is = i.due.begun.head_is; weight_is = i.due.begun.weight_is }; some = there; parts_are = fewer_parts p.head p.parts i.due.parts_are; least_is = lesser_some p.least shown i.due.least_is some; within = i.due.within };
          outcome_is = i.outcome_is;
          parts_are = fewer;
          last_is = r;
        }) unended)

leaf_due : (p : Progress) (leaf : CertLeaf) → IsLeafDue p leaf → IsDue p (leaf_field leaf)
unfolding IsDue
leaf_due p count h = h
leaf_due p (void alpha tau) h = h
leaf_due p (tangent w) h = h

pub leaf_right : (p : Progress) (leaf : CertLeaf) → IsItemRight p (leaf_field leaf) → IsLeafRight p leaf
unfolding IsItemRight
leaf_right p count h = h
leaf_right p (void alpha tau) h = h
leaf_right p (tangent w) h = h

-- where a leaf leads by the grammar: its witness is the last one, where it has one
leaf_leads : (P : Context → Progress → Type 0) (c : Context) (p : Progress) (leaf : CertLeaf) → IsLeafAt c leaf → ForSome c.last (IsWitnessAt c.n c.lots c.turnover) →
    ((last : Option Witness) → ForSome last (IsWitnessAt c.n c.lots c.turnover) → P (record (behind_leaf c) { last = last }) (behind_shown p (shown_next p leaf))) → P (behind_field c (leaf_field leaf)) (progress_behind p (leaf_field leaf))
unfolding behind_field progress_behind
leaf_leads P c p count r l f = subst (λ (d : Context). P d (behind_shown p (shown_next p count))) (same_last c) (f c.last l)
  where
    same_last : (c : Context) → record (behind_leaf c) { last = c.last } ≡ behind_leaf c
    same_last c = chosen (λ (d : Context). record d { last = c.last } ≡ d) c.left 1 _ _ (λ e. chosen (λ (d : Context). record d { last = c.last } ≡ d) c.sections 0 _ _ (λ z. refl) (λ z. refl)) (λ e. refl)
leaf_leads P c p (void alpha tau) r l f = subst (λ (d : Context). P d (behind_shown p (shown_next p (void alpha tau)))) (same_last c) (f c.last l)
  where
    same_last : (c : Context) → record (behind_leaf c) { last = c.last } ≡ behind_leaf c
    same_last c = chosen (λ (d : Context). record d { last = c.last } ≡ d) c.left 1 _ _ (λ e. chosen (λ (d : Context). record d { last = c.last } ≡ d) c.sections 0 _ _ (λ z. refl) (λ z. refl)) (λ e. refl)
leaf_leads P c p (tangent w) r l f = f (Some w) (for_some (IsWitnessAt c.n c.lots c.turnover) w r)

leaf_goes : (c : Context) (p : Progress) (g : Group) → c.phase ≡ phase.Node → p.ended ≡ false → IsNodeAt c p → NextLeaf c g → Goes c p g
leaf_goes c p g e unended i n = subst (Goes c p) (sym n.group_is) (record {
  due = leaf_due p n.leaf (record { node = i.due; ranges = leaf_in c p.head n.leaf i.whole.same n.ranges });
  stage = λ right. leaf_leads (λ (d : Context) (q : Progress). IsAt d q) c p n.leaf n.ranges i.last_is (λ last r. leaf_at c p (shown_next p n.leaf) last e unended i (leaf_some p n.leaf (leaf_right p n.leaf right).right) r);
})

-- a child of a part of the tree is one
child_part : (h : CertHead) (part : List Cell) (s : Split) (side : Side) → IsPartOf h part → IsTrue (lawful_split part s) → IsPartOf h (child_cells part s side)
child_part h part s side i l =
    let w = child_within part s side i.1 l in
    (record { same_length = w.same_length ∙ i.0.same_length; inside = λ x k. i.0.inside x (w.inside x k) }, child_are part s side i.1 l)

split_parts : (h : CertHead) (parts : List (List Cell)) (s : Split) → All (IsPartOf h) parts → IsLawfulNext parts s → All (IsPartOf h) (splits_first parts s)
split_parts h [] s a l = a
split_parts h (part ∷ parts) s a l =
    let i = All-head (IsPartOf h) part parts a in
    All-cons (IsPartOf h) (child_cells part s First) (child_cells part s Second ∷ parts) (child_part h part s First i l) (All-cons (IsPartOf h) (child_cells part s Second) parts (child_part h part s Second i l) (All-tail (IsPartOf h) part parts a))

split_length : (parts : List (List Cell)) (s : Split) → 0 < length parts → length (splits_first parts s) ≡ length parts + 1
split_length [] s h = absurd (omega arith)
split_length (part ∷ parts) s h = omega arith

split_goes : (c : Context) (p : Progress) (g : Group) → c.phase ≡ phase.Node → p.ended ≡ false → IsNodeAt c p → NextSplit c g → Goes c p g
unfolding IsDue IsItemRight progress_behind behind_field IsStage
split_goes c p g e unended i n = subst (Goes c p) (sym n.group_is) (record {
  due = i.due;
  stage = λ right. at_phase phase.Node _ _ e (at_node right) unended;
})
  where
    at_node : IsSplitRight p n.split → IsNodeAt (record c { left = c.left + 1 }) (progress_behind p (field.Split n.split))
    at_node right =
        let l = split_length p.parts n.split i.due.some in
        record {
          whole = whole_as c _ p.head refl refl refl refl refl i.whole;
          due = record { begun = record { head_is = i.due.begun.head_is; weight_is = i.due.begun.weight_is }; some = omega (arith, l); parts_are = split_parts p.head p.parts n.split i.due.parts_are right.lawful; least_is = i.due.least_is; within = omega (arith, right.within) };
          outcome_is = i.outcome_is;
          parts_are = omega (arith, l, i.parts_are);
          last_is = i.last_is;
        }

pub node_goes : (c : Context) (p : Progress) (g : Group) → c.phase ≡ phase.Node → p.ended ≡ false → IsNodeAt c p → NextNode c g → Goes c p g
node_goes c p g e unended i (inl n) = leaf_goes c p g e unended i n
node_goes c p g e unended i (inr n) = split_goes c p g e unended i n

pub end_goes : (c : Context) (p : Progress) (g : Group) → IsWholeAt c p.head → NextEnd c g → Goes c p g
unfolding IsDue progress_behind behind_field IsStage
end_goes c p g w n = subst (Goes c p) (sym n.group_is) (record { due = tt; stage = λ right. at_phase phase.Over _ _ refl (whole_as c _ p.head refl refl refl refl refl w) refl })
