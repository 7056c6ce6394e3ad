-- The outcome at the end of a search is what its tree and the witness for the whole root show, and is right.

use Rattle.std.proofs.Common.{◌≡◌, ℕ, ◌≤◌, inl, inr, List, true, false, Option, Some, None, ℤ, ◌≤ℤ◌, ◌<ℤ◌, unsigned_abs, refl, sym, ap, ◌∙◌, subst, arith}
use Rattle.std.specs.Option.{ForSome}
use Rattle.std.specs.Int.{int_max}
use Rattle.std.proofs.lemmas.Int.{ints}
use Rattle.gap_base.specs.Sizes.{most_bound}
use Rattle.gap_base.specs.declared.weight.Weight.{Weight}
use Rattle.gap_base.specs.declared.witness.Witness.{Witness}
use Rattle.gap_box.specs.declared.node.NodeId.{NodeId}
use Rattle.gap_instance.specs.Instances.{InstanceValue}
use Rattle.gap_instance.specs.Neighbours.{HasNoBetterNeighbour}
use Rattle.gap_objective.specs.Holdings.{HoldingValue}
use Rattle.gap_instance.specs.Limits.{MeetsLimits}
use Rattle.gap_instance.specs.Objective.{objective}
use Rattle.gap_model.specs.declared.leaf.Leaf.{Leaf}
use Rattle.gap_model.specs.declared.outcome.Best.{Best}
use Rattle.gap_model.specs.declared.outcome.Outcome.{Outcome}
use Rattle.gap_model.specs.declared.outcome.Outcome.TheVariants.{Closed, NoPortfolio, Bounded}
use Rattle.gap_model.specs.declared.shown.Shown.{Shown}
use Rattle.gap_model.specs.declared.shown.Shown.TheVariants.{Nothing, AtLeast, Empty}
use Rattle.gap_model.specs.Settings.{Setting, IsSetting}
use Rattle.gap_model.specs.Order.{ShownLe}
use Rattle.gap_model.specs.Leaves.{in_range, shows}
use Rattle.gap_model.specs.Tight.{is_tangent}
use Rattle.gap_model.specs.Problems.{IsPart, tangent_problem}
use Rattle.gap_model.specs.Nodes.{splits_of, part_at}
use Rattle.gap_model.specs.Outcomes.{IsPortfolio, IsLowerBound, IsRight}
use Rattle.gap_model.proofs.BoundLaws.{tangent_lawful}
use Rattle.gap_model.proofs.LimitLaws.{meets_from, meets_true}
use Rattle.gap_model.proofs.LeafSizes.{shown_size}
use Rattle.gap_model.proofs.OrderLaws.{shown_le_trans}
use Rattle.gap_search.specs.Boards.{Board, node_held, tickets, BestAbove, IsBest, AllShow, IsShown, IsSound}
use Rattle.gap_search.specs.Steps.{Refusal, busy, spent, closed, End}
use Rattle.gap_search.proofs.BoardLaws.{not_both}
use Rattle.gap_search.proofs.CoverLaws.{floor}
use Rattle.gap_search.proofs.HeldLaws.{worker_there, tickets_less}
use Rattle.gap_search.proofs.OpenLaws.{leaf_is_part}
use Rattle.gap_valid.specs.CertTrees.{leaf_shows, greater_shown, overall_shows, IsWitness}
use Rattle.gap_valid.proofs.ShownLaws.{le_same, greater_most}
use Rattle.gap_leaf.specs.Showing.{witness_shows}
use Rattle.gap_leaf.specs.Finding as finding
use Rattle.gap_solve.specs.Ended.{root_of, IsSearched, shown_with, ShowsNumber, ShowsJust, IsTold}
use Rattle.gap_solve.specs.Searching.{IsRootLeaf, IsBoundedEnd, IsPolished, IsOverall, IsOpenEnd, IsPlainEnd, IsFinish}
use Rattle.gap_tree.proofs.TreeLaws.{within_same}
use Rattle.gap_guide.specs.Hints.{IsTangentOf}
use Rattle.gap_guide.proofs.ChildLaws.{open_tangent, shown_by}
use Rattle.gap_solve.specs.Ends.{HasFloor}
use Rattle.gap_solve.proofs.FloorLaws.{tangent_below, pick_of, root_are, root_floor}

-- the shape of a witness for the whole root in the words of certificates
abbrev Given : Setting → Option Witness → Type 0
Given s overall = ForSome overall (IsWitness s.instance)

pub for_none : {X : Type 0} (P : X → Type 0) → ForSome None P
for_none P x e = absurd cc

pub for_some : {X : Type 0} (P : X → Type 0) (x : X) → P x → ForSome (Some x) P
for_some P x p y e = subst P (same x y e) p where
  same : {Y : Type 0} (a b : Y) → Some a ≡ Some b → a ≡ b
  same a b q = cc

witness_is : (s : Setting) (w : Witness) → finding.IsWitness s w → IsWitness s.instance w
witness_is s w h = record { point = h.point; multipliers = h.multipliers }

overall_is : (s : Setting) (w : Witness) → overall_shows s (root_of s) (Some w) ≡ witness_shows s (root_of s) w
unfolding leaf_shows
overall_is s w = refl

max_last : (a b : ℤ) → b <ℤ a → greater_shown (AtLeast a) (AtLeast b) ≡ AtLeast a
max_last a b l = ap AtLeast (max_is a b l) where
  max_is : (x y : ℤ) → y <ℤ x → int_max x y ≡ x
  max_is x y h = grind (arith, ints)

-- what is shown with a witness that shows more than the least
pub overall_shown : (s : Setting) (least : ℤ) (overall : Option Witness) (number : ℤ) → IsOverall s least overall number → shown_with s overall (AtLeast least) ≡ AtLeast number
overall_shown s least None number h = ap AtLeast (sym h)
overall_shown s least (Some w) number (a, b, c, d) = ap (λ (z : Shown). greater_shown z (AtLeast least)) (overall_is s w ∙ b) ∙ max_last number least c

pub overall_given : (s : Setting) (least : ℤ) (overall : Option Witness) (number : ℤ) → IsOverall s least overall number → Given s overall
overall_given s least None number h = for_none (IsWitness s.instance)
overall_given s least (Some w) number (a, b, c, d) = for_some (IsWitness s.instance) w (witness_is s w a)

overall_small : (s : Setting) (least : ℤ) (overall : Option Witness) (number : ℤ) → unsigned_abs least ≤ most_bound → IsOverall s least overall number → unsigned_abs number ≤ most_bound
overall_small s least None number l h = subst (λ (z : ℤ). unsigned_abs z ≤ most_bound) (sym h) l
overall_small s least (Some w) number l (a, b, c, d) = d

at_least : (a b : ℤ) → a ≤ℤ b → ShownLe (AtLeast a) (AtLeast b)
at_least a b l = l

-- ---- where nothing is held
none_held : (held : List (Option NodeId)) (w : ℕ) (node : NodeId) → tickets held ≡ 0 → node_held held w ≡ Some node → ⊥
none_held held w node e h = let t = tickets_less held w node (worker_there held w node h) h in absurd (omega arith)

-- a claim is refused of a search that is bounded only where the budget is spent
pub bounded_spent : (s : Setting) (b : Board) (bound : ℤ) → tickets b.held ≡ 0 → IsShown (tangent_problem s) b.nodes bound → BestAbove b.best bound → Refusal (tangent_problem s) b 0 → splits_of b.nodes ≡ b.budget
bounded_spent s b bound idle shown above (busy node h) = absurd (none_held b.held 0 node idle h)
bounded_spent s b bound idle shown above (spent e) = omega arith
bounded_spent s b bound idle shown above (closed h) = absurd (not_both b.best bound (h shown.n bound (record { leaf = shown.leaf; there = shown.there; shows = shown.shows; free = λ w node e f. none_held b.held w node idle e })) above)

module _ (s : Setting) (is : IsSetting s) (nodes : ℕ) (b : Board) (sound : IsSound (tangent_problem s) b) (budget : b.budget ≡ nodes) (idle : tickets b.held ≡ 0) (refused : Refusal (tangent_problem s) b 0) where
  pub searched : IsSearched s nodes b.nodes
  searched = record { tree_is = sound.tree; root = sound.root; leaves = sound.leaves; within = let w = sound.within in omega arith }

  pub best_is : (best : Best) → b.best ≡ Some best → IsPortfolio s.instance s.p s.q best
  best_is best e =
      let h : IsBest (tangent_problem s) (Some best) = subst (IsBest (tangent_problem s)) e sound.best in
      record { meets = meets_true s.instance best.lots h.0; value_is = h.1 }

  least_small : (v : ℤ) → IsShown (tangent_problem s) b.nodes v → unsigned_abs v ≤ most_bound
  least_small v h =
      let p = leaf_is_part (tangent_problem s) b sound h.n h.leaf h.there in
      shown_size s (part_at b.nodes h.n) h.leaf v is p.within (sound.leaves h.n h.leaf h.there).in_range h.shows

  pub all_of_spent : (bound : ℤ) → IsShown (tangent_problem s) b.nodes bound → BestAbove b.best bound → splits_of b.nodes ≡ nodes
  all_of_spent bound h above = bounded_spent s b bound idle h above refused ∙ budget

  plain_told : (outcome : Outcome) → IsPlainEnd s b outcome None → IsTold s nodes b.nodes None outcome
  plain_told (Closed best) e = (best_is best e.end.0, record { least = AtLeast best.value; each = e.end.1; number_is = le_same (AtLeast best.value) })
  plain_told NoPortfolio e = e.end.1
  plain_told (Bounded None bound) e = told e.end where
    told : End (tangent_problem s) b (Bounded None bound) → IsTold s nodes b.nodes None (Bounded None bound)
    told (o, all, one, above) = (tt, record { least = bound; each = all; one = one; number_is = refl }, least_small bound one, all_of_spent bound one above)
  plain_told (Bounded (Some best) bound) e = absurd (e.alone best bound refl)

  better_told : (outcome : Outcome) (overall : Option Witness) (found better : Best) (least : ℤ) → End (tangent_problem s) b (Bounded (Some found) least) → IsPolished s found better → IsOpenEnd s better least outcome overall → IsTold s nodes b.nodes overall outcome
  better_told (Closed best) overall found better least (o, all, one, above) p (e, (number, w, l)) =
      subst (λ (z : Best). IsTold s nodes b.nodes overall (Closed z)) (sym e)
      (p.portfolio, record { least = AtLeast least; each = all; number_is = subst (λ (z : Shown). ShownLe (AtLeast better.value) z) (sym (overall_shown s least overall number w)) (at_least better.value number l) })
  better_told NoPortfolio overall found better least end p h = absurd h
  better_told (Bounded o bound) overall found better least (f, all, one, above) p (e, w, l, fl) =
      subst (λ (z : Option Best). IsTold s nodes b.nodes overall (Bounded z bound)) (sym e)
      ((p.portfolio, l), record { least = least; each = all; one = one; number_is = overall_shown s least overall bound w }, overall_small s least overall bound (least_small least one) w, all_of_spent least one above)

  pub finish_told : (outcome : Outcome) (overall : Option Witness) → IsFinish s b outcome overall → IsTold s nodes b.nodes overall outcome
  finish_told outcome overall (inl e) = subst (λ (z : Option Witness). IsTold s nodes b.nodes z outcome) (sym e.overall_is) (plain_told outcome (record { end = e.end; alone = e.alone; overall_is = refl }))
  finish_told outcome overall (inr e) = better_told outcome overall e.found e.better e.least e.end e.polished e.open_end

  given_open : (outcome : Outcome) (overall : Option Witness) (better : Best) (least : ℤ) → IsOpenEnd s better least outcome overall → Given s overall
  given_open (Closed best) overall better least (e, (number, w, l)) = overall_given s least overall number w
  given_open NoPortfolio overall better least h = absurd h
  given_open (Bounded o bound) overall better least (e, w, l, f) = overall_given s least overall bound w

  pub finish_given : (outcome : Outcome) (overall : Option Witness) → IsFinish s b outcome overall → Given s overall
  finish_given outcome overall (inl e) = subst (Given s) (sym e.overall_is) (for_none (IsWitness s.instance))
  finish_given outcome overall (inr e) = given_open outcome overall e.better e.least e.open_end

  -- ---- what is shown is right
  meets : (x : List ℕ) → MeetsLimits s.instance x → (tangent_problem s).meets x ≡ true
  meets x m = meets_from s.instance x m

  least_right : (least : Shown) (x : List ℕ) → AllShow (tangent_problem s) b.nodes least → MeetsLimits s.instance x → ShownLe least (AtLeast (objective s.instance s.p s.q x))
  least_right least x all m = floor (tangent_problem s) (tangent_lawful s is) b sound least x all (meets x m)

  overall_right : (overall : Option Witness) (x : List ℕ) → Given s overall → MeetsLimits s.instance x → ShownLe (overall_shows s (root_of s) overall) (AtLeast (objective s.instance s.p s.q x))
  overall_right None x g m = tt
  overall_right (Some w) x g m = subst (λ (z : Shown). ShownLe z (AtLeast (objective s.instance s.p s.q x))) (sym (overall_is s w)) (tangent_below s _ w.alpha w.tau x is m (g w refl).multipliers.tau_least)

  shown_right : (overall : Option Witness) (least : Shown) (x : List ℕ) → Given s overall → AllShow (tangent_problem s) b.nodes least → MeetsLimits s.instance x → ShownLe (shown_with s overall least) (AtLeast (objective s.instance s.p s.q x))
  shown_right overall least x g all m = greater_most (overall_shows s (root_of s) overall) least (AtLeast (objective s.instance s.p s.q x)) (overall_right overall x g m) (least_right least x all m)

  number_right : (overall : Option Witness) (number : ℤ) → Given s overall → ShowsNumber s b.nodes overall number → IsLowerBound s.instance s.p s.q number
  number_right overall number g h = λ x m. shown_le_trans (AtLeast number) (shown_with s overall h.least) (AtLeast (objective s.instance s.p s.q x)) h.number_is (shown_right overall h.least x g h.each m)

  just_right : (overall : Option Witness) (number : ℤ) → Given s overall → ShowsJust s b.nodes overall number → IsLowerBound s.instance s.p s.q number
  just_right overall number g h = λ x m. subst (λ (z : Shown). ShownLe z (AtLeast (objective s.instance s.p s.q x))) h.number_is (shown_right overall (AtLeast h.least) x g h.each m)

  pub told_right : (outcome : Outcome) (overall : Option Witness) → Given s overall → IsTold s nodes b.nodes overall outcome → IsRight s.instance s.p s.q outcome
  told_right (Closed best) overall g (a, n) = (a, number_right overall best.value g n)
  told_right NoPortfolio overall g all = λ x m. least_right Empty x all m
  told_right (Bounded best bound) overall g (a, n, k, e) = (just_right overall bound g n, a)

-- ---- a portfolio, polished
pub polished_is : (s : Setting) (best : Best) (h : HoldingValue) (lots : List ℕ) (v : ℤ) → h.instance ≡ s.instance → h.weight.p ≡ s.p → h.weight.q ≡ s.q → lots ≡ h.lots → v ≡ objective h.instance h.weight.p h.weight.q h.lots → MeetsLimits h.instance h.lots → HasNoBetterNeighbour h.instance h.weight.p h.weight.q h.lots → objective h.instance h.weight.p h.weight.q h.lots ≤ℤ best.value → IsPolished s best (record { lots = lots; value = v })
polished_is s best h lots v i p q l e m n w = rw (l, e) (subst (λ (J : InstanceValue). IsPolished (record { instance = J; shift = s.shift; p = s.p; q = s.q }) best (record { lots = h.lots; value = objective h.instance h.weight.p h.weight.q h.lots })) i
    (subst (λ (k : ℕ). IsPolished (record { instance = h.instance; shift = s.shift; p = k; q = s.q }) best (record { lots = h.lots; value = objective h.instance h.weight.p h.weight.q h.lots })) p
    (subst (λ (k : ℕ). IsPolished (record { instance = h.instance; shift = s.shift; p = h.weight.p; q = k }) best (record { lots = h.lots; value = objective h.instance h.weight.p h.weight.q h.lots })) q
    (record { portfolio = record { meets = m; value_is = refl }; no_worse = w; neighbour = n }))))

pub polished_less : (s : Setting) (best : Best) (h n : HoldingValue) → h.instance ≡ n.instance → h.weight ≡ n.weight → n.lots ≡ best.lots → n.instance ≡ s.instance → n.weight.p ≡ s.p → n.weight.q ≡ s.q → best.value ≡ objective s.instance s.p s.q best.lots → objective n.instance n.weight.p n.weight.q h.lots ≤ℤ objective n.instance n.weight.p n.weight.q n.lots → objective h.instance h.weight.p h.weight.q h.lots ≤ℤ best.value
polished_less s best h n i w l j p q v b =
    let a : objective n.instance n.weight.p n.weight.q h.lots ≡ objective h.instance h.weight.p h.weight.q h.lots = sym (ap (λ (J : InstanceValue). objective J h.weight.p h.weight.q h.lots) i ∙ ap (λ (z : Weight). objective n.instance z.p z.q h.lots) w) in
    let c : objective n.instance n.weight.p n.weight.q n.lots ≡ best.value =
    ap (λ (J : InstanceValue). objective J n.weight.p n.weight.q n.lots) j ∙ ap (λ (k : ℕ). objective s.instance k n.weight.q n.lots) p ∙ ap (λ (k : ℕ). objective s.instance s.p k n.lots) q ∙ ap (λ (x : List ℕ). objective s.instance s.p s.q x) l ∙ sym v in
    subst (λ (z : ℤ). z ≤ℤ best.value) a (subst (λ (z : ℤ). objective n.instance n.weight.p n.weight.q h.lots ≤ℤ z) c b)

-- ---- the end by the board
pub found_is : (s : Setting) (b : Board) (best : Best) → IsSound (tangent_problem s) b → b.best ≡ Some best → IsPortfolio s.instance s.p s.q best
found_is s b best sound e =
    let h : IsBest (tangent_problem s) (Some best) = subst (IsBest (tangent_problem s)) e sound.best in
    record { meets = meets_true s.instance best.lots h.0; value_is = h.1 }

pub bounded_best : (s : Setting) (b : Board) (found : Option Best) (least : ℤ) → End (tangent_problem s) b (Bounded found least) → found ≡ b.best
bounded_best s b found least (e, all, one, above) = e

pub bounded_finish : (s : Setting) (b : Board) (found : Option Best) (least : ℤ) (o : Outcome) (v : Option Witness) → End (tangent_problem s) b (Bounded found least) → IsBoundedEnd s found least o v → IsFinish s b o v
bounded_finish s b None least o v e (f, g) = inl (record { end = subst (End (tangent_problem s) b) (sym f) e; alone = λ best bound h. alone_of o least best bound f h; overall_is = g }) where
  alone_of : (z : Outcome) (l : ℤ) (best : Best) (bound : ℤ) → z ≡ Bounded None l → z ≡ Bounded (Some best) bound → ⊥
  alone_of z l best bound q r = absurd cc
bounded_finish s b (Some found) least o v e (better, p, h) = inr (record { found = found; least = least; better = better; end = e; polished = p; open_end = h })

-- ---- the root's leaf where there is a portfolio
pub root_part : (s : Setting) → IsSetting s → IsPart (tangent_problem s) (root_of s)
root_part s is = record { valid = root_are s is; within = within_same (root_of s) }

pub root_below : (s : Setting) (leaf : Leaf) (best : Best) → IsSetting s → in_range s leaf ≡ true → IsPortfolio s.instance s.p s.q best → ShownLe (shows s (root_of s) leaf) (AtLeast (objective s.instance s.p s.q best.lots))
root_below s leaf best is r h = (tangent_lawful s is).below (root_of s) leaf best.lots (root_part s is) r (pick_of s best.lots is h.meets).inside (meets_from s.instance best.lots h.meets)

pub root_tangent : (s : Setting) (y : List ℕ) (leaf : Leaf) (best : Best) → IsSetting s → IsRootLeaf s y leaf → IsPortfolio s.instance s.p s.q best → is_tangent leaf ≡ false → ⊥
root_tangent s y leaf best is r h e = by_shown (shows s (root_of s) leaf) refl (root_below s leaf best is r.leaf_is.in_range h) where
  by_shown : (a : Shown) → shows s (root_of s) leaf ≡ a → ShownLe a (AtLeast (objective s.instance s.p s.q best.lots)) → ⊥
  by_shown Nothing q l = r.leaf_is.tight.something q
  by_shown (AtLeast k) q l = open_tangent s (root_of s) leaf k q e
  by_shown Empty q l = l

pub root_witness : (s : Setting) (y : List ℕ) (leaf : Leaf) (w : Witness) → IsRootLeaf s y leaf → IsTangentOf s.instance.market.assets leaf w → shows s (root_of s) leaf ≡ witness_shows s (root_of s) w
root_witness s y leaf w r t = shown_by s (root_of s) (root_of s) leaf w t r.leaf_is.tight.something

pub root_small : (s : Setting) (y : List ℕ) (leaf : Leaf) (v : ℤ) → IsSetting s → IsRootLeaf s y leaf → shows s (root_of s) leaf ≡ AtLeast v → unsigned_abs v ≤ most_bound
root_small s y leaf v is r e = shown_size s (root_of s) leaf v is (within_same (root_of s)) r.leaf_is.in_range e

pub root_has_floor : (s : Setting) (y : List ℕ) (leaf : Leaf) (v : ℤ) → IsRootLeaf s y leaf → shows s (root_of s) leaf ≡ AtLeast v → HasFloor s y v
root_has_floor s y leaf v r e = root_floor s y leaf v r (subst (λ (z : Shown). ShownLe z (AtLeast v)) (sym e) (at_least v v (omega (arith, ints))))
