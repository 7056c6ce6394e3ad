use Rattle.gap_model.proofs.LimitLaws.{meets_true, meets_from}
use Rattle.gap_model.proofs.BoundLaws.{tangent_lawful}
use Rattle.gap_model.proofs.laws.tangent_bound_is_lawful.Goals as goal

pub returns-clause-limits : goal.returns-clause-limits
returns-clause-limits c = λ I x. (meets_true I x, meets_from I x)

pub returns-clause-laws : goal.returns-clause-laws
returns-clause-laws c = tangent_lawful
