use Rattle.std.proofs.Common.{ap, ◌∙◌, drop, rules}
use Rattle.gap_judge.proofs.JudgeLaws.{none_next}
use Rattle.gap_judge.proofs.leaf.leave.Goals as goal

pub returns-clause-whole : goal.returns-clause-whole
returns-clause-whole c = none_next c.part.result c.is_none.result c.leaf.new.self _ c.part.ensures c.is_none.ensures (search rules)
