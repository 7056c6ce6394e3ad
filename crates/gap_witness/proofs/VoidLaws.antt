-- What void leaves say of the sums of a part's lists.
use Rattle.std.proofs.Common.{◌≡◌, ◌≢◌, ℕ, ◌≤◌, Bool, true, false, cond, List, length, sum, Option, Some, None, ℤ, pos, ◌+ℤ◌, ◌-ℤ◌, ◌*ℤ◌, ◌≤ℤ◌, refl, sym, ap, ◌∙◌, arith}
use Rattle.std.specs.Prelude.{int_lt}
use Rattle.std.proofs.Math.IntN.{zero-*ℤ}
use Rattle.std.proofs.lemmas.Int.{ints}
use Rattle.gap_base.specs.Sums.{sum_below}
use Rattle.gap_base.specs.Lots.{lots_at}
use Rattle.gap_base.proofs.Lists.{sum_places}
use Rattle.gap_box.specs.declared.cell.Cell.{Cell}
use Rattle.gap_box.specs.Cells.{AreCells}
use Rattle.gap_box.specs.Parts.{IsPick}
use Rattle.gap_instance.specs.Instances.{InstanceValue}
use Rattle.gap_instance.specs.Limits.{sum_of, turnover_of}
use Rattle.gap_model.specs.declared.leaf.Leaf.TheVariants.{Void}
use Rattle.gap_model.specs.declared.shown.Shown.TheVariants.{Empty, Nothing}
use Rattle.gap_model.specs.Settings.{Setting}
use Rattle.gap_model.specs.Lagrangian.{void_lag, turnover_term}
use Rattle.gap_model.specs.Theta.{IsVoidTheta}
use Rattle.gap_model.specs.Leaves.{shows, void_shows, IsPoint}
use Rattle.gap_model.proofs.LagLaws.{void_lag_is}
use Rattle.gap_model.proofs.LimitLaws.{in_part_length}
use Rattle.gap_model.proofs.ThetaLaws.{void_theta_is, void_theta_some}
use Rattle.gap_tangent.proofs.LotsLaws.{void_lag_of_lots, pick_length}
use Rattle.gap_witness.specs.Having.{HasTangentPoint}
use Rattle.gap_witness.specs.Points.{first_point, point, choice_of}
use Rattle.gap_witness.proofs.BudgetLaws.{first_in_range, point_in_range}

-- what a void leaf shows, by its theta
pub void_shown : (s : Setting) (part : List Cell) (alpha tau v : ℤ) → IsVoidTheta s part alpha tau v → shows s part (Void alpha tau (pos 0)) ≡ void_shows (Some v)
unfolding shows
void_shown s part alpha tau v h = ap void_shows (void_theta_is s part alpha tau v h)

not_positive : (v : ℤ) → void_shows (Some v) ≢ Empty → v ≤ℤ pos 0
not_positive v n = by_test (int_lt (pos 0) v) refl
  where
    by_test : (b : Bool) → int_lt (pos 0) v ≡ b → v ≤ℤ pos 0
    by_test true e = absurd (n (ap (λ (b : Bool). cond b Empty Nothing) e))
    by_test false e = grind (arith, ints)

-- a part that has a tangent point has a list that meets the count and has at most L lots
low_list : (s : Setting) (part : List Cell) → length part ≡ s.instance.market.assets → AreCells part → s.instance.held ≤ s.instance.held_most → HasTangentPoint s part → (z : List ℕ) × IsPick part s.instance.held s.instance.held_most z × (sum z ≤ s.instance.lots)
low_list s part n h le t =
    let w = void_theta_some s part (pos 1) (pos 0) h le t.counted in
    let m = not_positive w.0 (λ e. t.not_above (void_shown s part (pos 1) (pos 0) w.0 w.1 ∙ e)) in
    let r = w.1.reached in
    let l = void_lag_of_lots s (pos 1) r.0 (pick_length s part r.0 n r.1) in
    (r.0, r.1, few (sum r.0) s.instance.lots w.0 (sym r.2 ∙ l) m)
  where
    few : (a b : ℕ) (v : ℤ) → v ≡ pos 1 *ℤ (pos a -ℤ pos b) → v ≤ℤ pos 0 → a ≤ b
    few a b v e h = omega (arith, ints)

-- where a part has a tangent point it is in range
pub tangent_point_in_range : (s : Setting) (part : List Cell) (hint : List ℕ) → length part ≡ s.instance.market.assets → AreCells part → s.instance.held ≤ s.instance.held_most → HasTangentPoint s part → IsPoint s.instance (point s (choice_of s part) hint)
tangent_point_in_range s part hint n h le t =
    let w = low_list s part n h le t in
    point_in_range s part hint w.0 n h w.1 w.2

pub first_point_in_range : (s : Setting) (part : List Cell) (hint : List ℕ) → length part ≡ s.instance.market.assets → AreCells part → s.instance.held ≤ s.instance.held_most → HasTangentPoint s part → IsPoint s.instance (first_point s (choice_of s part) hint)
first_point_in_range s part hint n h le t =
    let w = low_list s part n h le t in
    first_in_range s part hint w.0 n h w.1 w.2
