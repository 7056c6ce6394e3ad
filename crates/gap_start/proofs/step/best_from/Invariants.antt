use Rattle.std.proofs.Common.{ℕ, ◌<◌, ◌≤ℤ◌, slice_index_or}
use Rattle.gap_start.specs.Steps.{NoneBelow, IsFound}
use Rattle.gap_start.proofs.step.best_from.Given as goal

abbrev pub invariant-loop-k : goal.invariant-loop-k
invariant-loop-k l = record {
  found : IsFound l.h.instance l.h.weight.p l.h.weight.q l.h.lots l.found;
  better : l.found.value ≤ℤ l.fn.before.value;
  none : (a : ℕ) → a < l.k → NoneBelow l.h.instance l.h.weight.p l.h.weight.q l.h.lots l.found.value l.kind l.i (slice_index_or l.takers.numbers a 0);
}
