use Rattle.std.proofs.Common.{ℕ, ◌<◌}
use Rattle.gap_start.specs.Fills.{CanGo, IsNearer}
use Rattle.gap_start.proofs.fill.some_comes_nearer.Given as goal

abbrev pub invariant-loop-i : goal.invariant-loop-i
invariant-loop-i l = (k : ℕ) → k < l.i → CanGo l.h.instance l.marks l.h.lots l.up k → IsNearer l.h.instance l.h.lots l.up k → ⊥
