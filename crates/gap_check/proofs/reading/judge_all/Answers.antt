use Rattle.std.proofs.Common.{Bool, Ok, subst}
use Rattle.gap_check.specs.Going.{Steps}
use Rattle.gap_check.proofs.reading.judge_all.Goals as goal

pub returns-clause-reads : goal.returns-clause-reads
returns-clause-reads c = λ seen h. subst (λ (b : Bool). Steps (Ok b) seen c.judge_next.new.scanner c.judge_next.new.judge) c.if-branch.false (c.in_ok-judge_next.ensures.steps seen (c.loop.invariant.seen seen h))
