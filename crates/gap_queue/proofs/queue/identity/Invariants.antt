use Rattle.std.proofs.Common.{◌≡◌, ℕ, ◌<◌, length, slice_index_or}
use Rattle.gap_queue.proofs.queue.identity.Given as goal

abbrev pub invariant-loop-i : goal.invariant-loop-i
invariant-loop-i l = record {
  size : length l.items.items ≡ l.n;
  each : (s : ℕ) → s < l.i → slice_index_or l.items.items s 0 ≡ s;
}
