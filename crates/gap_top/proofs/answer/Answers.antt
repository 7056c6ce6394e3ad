use Rattle.gap_top.proofs.AnswerLaws.{answers_named, answers_end, can_be_done}
use Rattle.gap_top.proofs.answer.Goals as goal

pub perform-requires : goal.perform-requires
perform-requires g c = can_be_done _ _ c.in-Ok.ensures.fits

pub returns-in-Ok : goal.returns-in-Ok
returns-in-Ok g c = answers_named _ _ _ _ _ _ _ _ _ c.perform.result c.requires c.source_of.ensures c.cert_of.ensures c.in-Ok.ensures.ruled c.in-Ok.ensures.fits c.perform.ensures

pub returns-in-Err : goal.returns-in-Err
returns-in-Err g c = answers_end _ _ _ _ _ c.in-Err.halt _ c.in-Err.ensures.ruled c.in-Err.ensures.fits c.end_by.ensures
