use Rattle.std.proofs.Common.{◌≡◌, ℕ, ◌<◌, ◌≤◌, ◌/◌, min, max, length, slice_index_or}
use Rattle.gap_start.proofs.rounding.rounded_down.Given as goal

abbrev pub invariant-loop-i : goal.invariant-loop-i
invariant-loop-i l = record {
  size : length l.list ≡ l.inst.market.assets;
  held : (k : ℕ) → k < l.i → 0 < slice_index_or l.marks k 0 → slice_index_or l.list k 0 ≡ max (slice_index_or l.inst.least k 0) (min (slice_index_or l.y k 0 / 8) (slice_index_or l.inst.greatest k 0));
  others : (k : ℕ) → k < l.inst.market.assets → slice_index_or l.marks k 0 ≡ 0 → slice_index_or l.list k 0 ≡ 0;
  small : (k : ℕ) → k < l.inst.market.assets → slice_index_or l.list k 0 ≤ l.inst.lots;
}
