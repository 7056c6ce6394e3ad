use Rattle.std.proofs.Common.{ℕ, ◌<◌, ◌≤◌, List}
use Rattle.gap_instance.specs.declared.order.By.{By}
use Rattle.gap_instance.specs.Orders.{GivesList, IsOrder}
use Rattle.gap_start.proofs.starting.start.Given as goal

abbrev pub invariant-loop-k : goal.invariant-loop-k
invariant-loop-k l = record {
  none : (j : ℕ) → l.inst.held ≤ j → j < l.k → (by : By) (order : List ℕ) → GivesList l.inst l.w.p l.w.q by j order → ⊥;
  order : l.inst.held < l.k → (by : By) × (order : List ℕ) × IsOrder l.inst l.w.p l.w.q by order;
}
