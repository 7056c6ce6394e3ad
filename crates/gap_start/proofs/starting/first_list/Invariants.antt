use Rattle.std.proofs.Common.{◌≡◌, ℕ, ◌<◌, length, slice_index_or}
use Rattle.gap_instance.specs.Orders.{first_lots}
use Rattle.gap_start.proofs.starting.first_list.Given as goal

abbrev pub invariant-loop-i : goal.invariant-loop-i
invariant-loop-i l = record {
  size : length l.list ≡ l.inst.market.assets;
  held : (k : ℕ) → k < l.i → 0 < slice_index_or l.marks k 0 → slice_index_or l.list k 0 ≡ first_lots l.inst l.inst.turnover k;
  others : (k : ℕ) → k < l.inst.market.assets → slice_index_or l.marks k 0 ≡ 0 → slice_index_or l.list k 0 ≡ 0;
}
