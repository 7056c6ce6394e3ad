use Rattle.gap_check.proofs.CheckerLaws.{fresh_going, fresh_read}
use Rattle.gap_check.proofs.checker.Checker.new.Goals as goal

pub invariant_of-result : goal.invariant_of-result
invariant_of-result c = rw c.new.ensures (rw c.new-2.ensures fresh_going)

pub returns : goal.returns
returns c = rw c.new.ensures (rw c.new-2.ensures fresh_read)
