use Rattle.gap_top.proofs.AnswerLaws.{answers_as}
use Rattle.gap_top.proofs.run.Goals as goal

pub returns : goal.returns
returns g c = answers_as _ _ _ _ _ _ _ _ c.form_of.ensures.form c.status_of.ensures c.answer.ensures
