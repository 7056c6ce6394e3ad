use Rattle.gap_model.proofs.PricedLaws.{priced_lawful}
use Rattle.gap_model.proofs.BoundLaws.{tangent_priced, shows_priced}
use Rattle.gap_model.proofs.laws.priced_bound_is_lawful.Goals as goal

pub returns-clause-laws : goal.returns-clause-laws
returns-clause-laws c = priced_lawful

pub returns-clause-tangent : goal.returns-clause-tangent
returns-clause-tangent c = tangent_priced

pub returns-clause-shown : goal.returns-clause-shown
returns-clause-shown c = shows_priced
