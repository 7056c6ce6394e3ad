use Rattle.std.proofs.Common.{pos, ◌*ℤ◌}
use Rattle.gap_instance.specs.Objective.{cov_of}
use Rattle.gap_tangent.proofs.RowLaws.{IsAdded}
use Rattle.gap_tangent.proofs.rows.add_column.Given as goal

abbrev pub invariant-loop-i : goal.invariant-loop-i
invariant-loop-i l = IsAdded (λ k. cov_of l.inst.market k l.j *ℤ pos l.eighths) l.initial.rows l.rows l.i
