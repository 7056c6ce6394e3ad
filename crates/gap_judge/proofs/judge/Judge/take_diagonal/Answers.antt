use Rattle.std.proofs.Common.{rules}
use Rattle.gap_judge.proofs.JudgeLaws.{diagonal_right}
use Rattle.gap_judge.proofs.judge.Judge.take_diagonal.Goals as goal

pub returns-in-Ok-clause-right : goal.returns-in-Ok-clause-right
returns-in-Ok-clause-right c = diagonal_right c.args.self.now c.push_diagonal.new.self c.args.d _ _ _ (search rules) c.in-Ok.ensures.ok
