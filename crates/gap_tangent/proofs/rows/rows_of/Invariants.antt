use Rattle.gap_tangent.specs.Rows.{AreRowsBefore}
use Rattle.gap_tangent.proofs.rows.rows_of.Given as goal

abbrev pub invariant-loop-j : goal.invariant-loop-j
invariant-loop-j l = AreRowsBefore l.inst.market l.y l.j l.rows
