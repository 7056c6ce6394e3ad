use Rattle.std.proofs.Common.{arith}
use Rattle.gap_report.proofs.TextLaws.{told_front, all_front}
use Rattle.gap_report.proofs.laws.texts_tell_outcomes.Goals as goal

pub returns-clause-lines : goal.returns-clause-lines
returns-clause-lines c = λ lots assets nodes other a b rest more few p q ha hb e. told_front lots assets nodes other a b rest more (omega arith) p q ha hb e

pub returns-clause-lists : goal.returns-clause-lists
returns-clause-lists c = λ lots assets nodes other a b few p q ha hb e. all_front lots assets nodes other a b (omega arith) p q ha hb e
