use Rattle.std.proofs.Common.{pos}
use Rattle.gap_factor.specs.Columns.{IsWritten}
use Rattle.gap_factor.proofs.columns.clear_column.Given as goal

abbrev pub invariant-loop-i : goal.invariant-loop-i
invariant-loop-i l = IsWritten (λ a. pos 0) l.fn.shift l.shift l.j l.i
