use Rattle.std.proofs.Common.{ℕ, ◌<◌, ◌≤ℤ◌, slice_index_or}
use Rattle.gap_objective.specs.Slopes.{slope_of}
use Rattle.gap_start.proofs.places.steepest.Given as goal

abbrev pub invariant-loop-k : goal.invariant-loop-k
invariant-loop-k l = record {
  inside : l.top < l.h.instance.market.assets;
  steepest : (a : ℕ) → a < l.k → slope_of l.h.instance l.h.weight.p l.h.weight.q l.h.lots (slice_index_or l.givers.numbers a 0) ≤ℤ slope_of l.h.instance l.h.weight.p l.h.weight.q l.h.lots l.top;
}
