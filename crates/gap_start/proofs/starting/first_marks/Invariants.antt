use Rattle.gap_start.specs.Starts.{AreMarks}
use Rattle.gap_start.proofs.starting.first_marks.Given as goal

abbrev pub invariant-loop-place : goal.invariant-loop-place
invariant-loop-place l = AreMarks l.inst.market.assets l.order l.place l.marks
