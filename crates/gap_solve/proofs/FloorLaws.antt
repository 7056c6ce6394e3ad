-- The floors of bounds.

use Rattle.std.proofs.Common.{◌≡◌, ℕ, ◌<◌, ◌≤◌, ◌⊎◌, inl, inr, List, length, replicate, slice_index_or, Bool, true, false, Option, Some, None, ℤ, pos, neg_ℤ, ◌*◌, ◌*ℤ◌, [], ◌∷◌, ◌≤ℤ◌, unsigned_abs, refl, sym, ap, ◌∙◌, subst, arith}
use Rattle.std.proofs.lemmas.Int.{ints}
use Rattle.std.proofs.lemmas.Bool.{cases_lt}
use Rattle.std.specs.List.{sum}
use Rattle.std.proofs.lemmas.List.{get_or_past, length-map, length-replicate}
use Rattle.std.proofs.lemmas.List.Sums.{sum_by-cons}
use Rattle.std.proofs.lemmas.List.Folds.{sum_by-replicate}
use Rattle.gap_base.specs.Sizes.{most_multiplier}
use Rattle.gap_base.specs.Lots.{lots_at, eighths_of}
use Rattle.gap_base.specs.Sums.{sum_below, natural_at}
use Rattle.gap_base.proofs.Lists.{sum_places}
use Rattle.gap_box.specs.declared.cell.Cell.{Cell}
use Rattle.gap_box.specs.declared.cell.Cell.TheVariants.{Out}
use Rattle.gap_box.specs.Cells.{AreCells, IsCell}
use Rattle.gap_box.specs.Parts.{can_meet, IsPick}
use Rattle.gap_box.proofs.CountLaws.{pick_meets}
use Rattle.gap_box.proofs.PartLaws.{length-root, root-at, root_cell_is}
use Rattle.gap_instance.specs.Instances.{InstanceValue}
use Rattle.gap_instance.specs.Limits.{MeetsLimits}
use Rattle.gap_instance.specs.Objective.{objective}
use Rattle.gap_model.specs.declared.leaf.Leaf.{Leaf}
use Rattle.gap_model.specs.declared.leaf.Leaf.TheVariants.{Count}
use Rattle.gap_model.specs.declared.outcome.Best.{Best}
use Rattle.gap_model.specs.declared.shown.Shown.{Shown}
use Rattle.gap_model.specs.declared.shown.Shown.TheVariants.{AtLeast, Empty}
use Rattle.gap_model.specs.Settings.{Setting, IsSetting}
use Rattle.gap_model.specs.Lagrangian.{lag}
use Rattle.gap_model.specs.Theta.{theta}
use Rattle.gap_model.specs.Order.{ShownLe}
use Rattle.gap_model.specs.Leaves.{tangent_shows, count_shows, shows, sixty_fourth, IsPoint}
use Rattle.gap_model.specs.Outcomes.{IsPortfolio}
use Rattle.gap_model.proofs.LimitLaws.{picked}
use Rattle.gap_model.proofs.LagLaws.{lag_below}
use Rattle.gap_model.proofs.LeafLaws.{sixty_fourth_least, sixty_fourth_grows}
use Rattle.gap_model.proofs.ThetaLaws.{theta_least, theta_none_iff, theta_some, theta_is}
use Rattle.gap_model.proofs.OrderLaws.{shown_le_trans}
use Rattle.gap_lines.specs.Lines.{IsBest}
use Rattle.gap_tangent.specs.Lines.{or_zero, alpha_curve}
use Rattle.gap_witness.specs.Points.{choice_of, point}
use Rattle.gap_leaf.specs.Showing.{witness_shows, NoLessThanAt}
use Rattle.gap_solve.specs.Ended.{root_of}
use Rattle.gap_solve.specs.Ends.{HasFloor}
use Rattle.gap_solve.specs.Searching.{IsAlphaAt, IsBestAt, IsRootLeaf}

both : {b : Bool} → b ≡ true → b ≡ false → ⊥
both p q = cc

between : (u v w : ℤ) → u ≤ℤ v → v ≤ℤ w → u ≤ℤ w
between u v w p q = omega (arith, ints)

-- a list that meets the limits is one of the root's that hold a number of assets in range
pub pick_of : (s : Setting) (x : List ℕ) → IsSetting s → MeetsLimits s.instance x → IsPick (root_of s) s.instance.held s.instance.held_most x
pick_of s x is m = picked s.instance x is.instance_is m

root_cell_at : (s : Setting) → IsSetting s → (k : ℕ) → (k < length s.instance.least) ⊎ (length s.instance.least ≤ k) → IsCell (slice_index_or (root_of s) k Out)
root_cell_at s is k (inl l) =
    let limits = is.instance_is.limits_are in
    let same : length s.instance.least ≡ length s.instance.greatest = limits.least_within.count ∙ sym limits.greatest_within.count in
    let n : k < s.instance.market.assets = rw limits.least_within.count at l in
    let u = limits.greatest_within.most k n in
    let v = limits.lots_most in
    subst IsCell (sym (root-at s.instance.least s.instance.greatest same k l)) (root_cell_is _ _ (limits.least_within.least k n) (omega arith))
root_cell_at s is k (inr l) =
    let limits = is.instance_is.limits_are in
    let same : length s.instance.least ≡ length s.instance.greatest = limits.least_within.count ∙ sym limits.greatest_within.count in
    subst IsCell (sym (get_or_past (root_of s) k Out (rw (length-root s.instance.least s.instance.greatest same) l))) tt

pub root_are : (s : Setting) → IsSetting s → AreCells (root_of s)
root_are s is = record { each = λ k. root_cell_at s is k (cases_lt k (length s.instance.least)) }

pub root_met : (s : Setting) (x : List ℕ) → IsSetting s → MeetsLimits s.instance x → can_meet (root_of s) s.instance.held s.instance.held_most ≡ true
root_met s x is m = pick_meets (root_of s) s.instance.held s.instance.held_most x (root_are s is) (pick_of s x is m)

-- no tangent at any point shows more than what a list that meets the limits costs
theta_below : (s : Setting) (y : ℕ → ℤ) (alpha tau : ℤ) (x : List ℕ) → IsSetting s → MeetsLimits s.instance x → pos 0 ≤ℤ tau → (o : Option ℤ) → theta s (root_of s) y alpha tau ≡ o → ShownLe (tangent_shows o) (AtLeast (objective s.instance s.p s.q x))
theta_below s y alpha tau x is m t None e = absurd (both (root_met s x is m) ((theta_none_iff s (root_of s) y alpha tau (root_are s is) is.instance_is.limits_are.held_range).0 e))
theta_below s y alpha tau x is m t (Some u) e =
    let a = (theta_least s (root_of s) y alpha tau u e).below x (pick_of s x is m) in
    let b = lag_below s y alpha tau x is t m in
    sixty_fourth_least u (objective s.instance s.p s.q x) (between u (lag s y alpha tau x) (pos 64 *ℤ objective s.instance s.p s.q x) a b)

pub tangent_below : (s : Setting) (y : ℕ → ℤ) (alpha tau : ℤ) (x : List ℕ) → IsSetting s → MeetsLimits s.instance x → pos 0 ≤ℤ tau → ShownLe (tangent_shows (theta s (root_of s) y alpha tau)) (AtLeast (objective s.instance s.p s.q x))
tangent_below s y alpha tau x is m t = theta_below s y alpha tau x is m t (theta s (root_of s) y alpha tau) refl

-- the objective of a portfolio has its floor from every point
pub portfolio_floor : (s : Setting) (best : Best) (y : List ℕ) → IsSetting s → IsPortfolio s.instance s.p s.q best → HasFloor s y best.value
unfolding NoLessThanAt
portfolio_floor s best y is h = record {
  own = λ alpha l. subst (λ (v : ℤ). ShownLe (tangent_shows (theta s (root_of s) (lots_at y) alpha (pos 0))) (AtLeast v)) (sym h.value_is) (tangent_below s (lots_at y) alpha (pos 0) best.lots is h.meets (omega (arith, ints)));
  point = λ has alpha l. subst (λ (v : ℤ). ShownLe (tangent_shows (theta s (root_of s) (lots_at (point s (choice_of s (root_of s)) y)) alpha (pos 0))) (AtLeast v)) (sym h.value_is) (tangent_below s (lots_at (point s (choice_of s (root_of s)) y)) alpha (pos 0) best.lots is h.meets (omega (arith, ints)));
}

more_than : (s : Setting) (part : List Cell) (y : ℕ → ℤ) (a b : Shown) → NoLessThanAt s part y a → ShownLe a b → NoLessThanAt s part y b
unfolding NoLessThanAt
more_than s part y a b h l = λ alpha m. shown_le_trans (tangent_shows (theta s part y alpha (pos 0))) a b (h alpha m) l

uncounted_empty : (s : Setting) (leaf : Leaf) → leaf ≡ Count → can_meet (root_of s) s.instance.held s.instance.held_most ≡ false → shows s (root_of s) leaf ≡ Empty
unfolding shows
uncounted_empty s leaf e f = ap (shows s (root_of s)) e ∙ ap count_shows f

not_empty : (a : Shown) (v : ℤ) → a ≡ Empty → ShownLe a (AtLeast v) → ⊥
not_empty a v e l = subst (λ (z : Shown). ShownLe z (AtLeast v)) e l

-- a number that a leaf of the root, found from a point, doesn't show more than has its floor from the point
pub root_floor : (s : Setting) (y : List ℕ) (leaf : Leaf) (v : ℤ) → IsRootLeaf s y leaf → ShownLe (shows s (root_of s) leaf) (AtLeast v) → HasFloor s y v
root_floor s y leaf v h l = record {
  own = by_count (can_meet (root_of s) s.instance.held s.instance.held_most) refl;
  point = λ has. subst (λ (z : List ℕ). NoLessThanAt s (root_of s) (lots_at (point s (choice_of s (root_of s)) z)) (AtLeast v)) h.hint_is.y_is (more_than s (root_of s) (lots_at (point s (choice_of s (root_of s)) h.hint.y)) (shows s (root_of s) leaf) (AtLeast v) (h.leaf_is.point has) l);
} where
  by_count : (b : Bool) → can_meet (root_of s) s.instance.held s.instance.held_most ≡ b → NoLessThanAt s (root_of s) (lots_at y) (AtLeast v)
  by_count true e = more_than s (root_of s) (lots_at y) (witness_shows s (root_of s) h.hint) (AtLeast v) (h.hint_is.best e) (shown_le_trans (witness_shows s (root_of s) h.hint) (shows s (root_of s) leaf) (AtLeast v) h.leaf_is.no_less l)
  by_count false e = absurd (not_empty (shows s (root_of s) leaf) v (uncounted_empty s leaf (h.leaf_is.uncounted e) e) l)

-- ---- the best alpha at a point
order : (m : ℕ) (a : ℤ) → unsigned_abs a ≤ m → (neg_ℤ (pos m) ≤ℤ a) × (a ≤ℤ pos m)
order m a l = (omega (arith, ints), omega (arith, ints))

theta_curve : (s : Setting) (y : ℕ → ℤ) (alpha : ℤ) → IsSetting s → can_meet (root_of s) s.instance.held s.instance.held_most ≡ true → tangent_shows (theta s (root_of s) y alpha (pos 0)) ≡ AtLeast (sixty_fourth (alpha_curve s (root_of s) y (pos 0) alpha))
theta_curve s y alpha is e =
    let t = theta_some s (root_of s) y alpha (pos 0) (root_are s is) is.instance_is.limits_are.held_range e in
    let z = theta_is s (root_of s) y alpha (pos 0) t.0 t.1 in
    ap tangent_shows z ∙ ap (λ (o : Option ℤ). AtLeast (sixty_fourth (or_zero o))) (sym z)

pub best_shown : (s : Setting) (y : List ℕ) (a : ℤ) → IsSetting s → can_meet (root_of s) s.instance.held s.instance.held_most ≡ true → IsBest (alpha_curve s (root_of s) (lots_at y) (pos 0)) (neg_ℤ (pos most_multiplier)) (pos most_multiplier) a → NoLessThanAt s (root_of s) (lots_at y) (tangent_shows (theta s (root_of s) (lots_at y) a (pos 0)))
unfolding NoLessThanAt
best_shown s y a is e b = λ alpha l.
    let o = order most_multiplier alpha l in
    let g = sixty_fourth_grows (alpha_curve s (root_of s) (lots_at y) (pos 0) alpha) (alpha_curve s (root_of s) (lots_at y) (pos 0) a) (b.most alpha o.0 o.1) in
    subst (λ (z : Shown). ShownLe z (tangent_shows (theta s (root_of s) (lots_at y) a (pos 0)))) (sym (theta_curve s (lots_at y) alpha is e))
    (subst (λ (z : Shown). ShownLe (AtLeast (sixty_fourth (alpha_curve s (root_of s) (lots_at y) (pos 0) alpha))) z) (sym (theta_curve s (lots_at y) a is e)) g)

-- the witness at a point with that alpha
pub best_at_is : (s : Setting) (y : List ℕ) (a : ℤ) → IsSetting s → IsPoint s.instance y → IsAlphaAt s y a → IsBestAt s y (record { y = y; alpha = a; tau = pos 0 })
best_at_is s y a is p h = record {
  y_is = refl;
  witness = record { point = p; multipliers = record { alpha_most = h.most; tau_least = omega (arith, ints); tau_most = omega arith; tau_unset = λ e. refl } };
  best = λ e. best_shown s y a is e (h.best e);
}

-- ---- points of lists
sum_eighths : (x : List ℕ) → sum (eighths_of x) ≡ 8 * sum x
sum_eighths [] = refl
sum_eighths (v ∷ x) =
    let a = sum_by-cons (λ (n : ℕ). n) v x in
    let b = sum_by-cons (λ (n : ℕ). n) (8 * v) (eighths_of x) in
    let r = sum_eighths x in
    omega arith

same_numbers : (a b : ℕ) → pos a ≡ pos b → a ≡ b
same_numbers a b e = omega (arith, ints)

pub list_point : (I : InstanceValue) (x : List ℕ) → MeetsLimits I x → IsPoint I (eighths_of x)
list_point I x m =
    let s = same_numbers (sum x) I.lots (sum_places x ∙ ap (λ (n : ℕ). sum_below n (natural_at x)) m.assets_are ∙ m.lots_are) in
    let e = sum_eighths x in
    record { count = length-map x (λ v. 8 * v) ∙ m.assets_are; most = omega arith }

pub zero_point : (I : InstanceValue) → IsPoint I (replicate I.market.assets 0)
zero_point I = record { count = length-replicate I.market.assets 0; most = (let e = sum_by-replicate (λ (n : ℕ). n) I.market.assets 0 in omega arith) }

-- what has a floor, keeps it where it is raised
pub floor_more : (s : Setting) (y : List ℕ) (a b : ℤ) → a ≤ℤ b → HasFloor s y a → HasFloor s y b
floor_more s y a b l h = record {
  own = more_than s (root_of s) (lots_at y) (AtLeast a) (AtLeast b) h.own l;
  point = λ has. more_than s (root_of s) (lots_at (point s (choice_of s (root_of s)) y)) (AtLeast a) (AtLeast b) (h.point has) l;
}
