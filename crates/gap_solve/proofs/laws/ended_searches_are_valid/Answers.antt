use Rattle.gap_solve.proofs.EndedLaws.{valid_where, shown_just}
use Rattle.gap_solve.proofs.laws.ended_searches_are_valid.Goals as goal

pub returns-clause-valid : goal.returns-clause-valid
returns-clause-valid c = λ s nodes solved section e is h i d n. valid_where s nodes solved section e is h i d n

pub returns-clause-shown : goal.returns-clause-shown
returns-clause-shown c = λ s nodes solved section best bound e is o. shown_just s nodes solved section best bound e is o
