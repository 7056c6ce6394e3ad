use Rattle.gap_valid.proofs.SaidLaws.{said_made, made_is_said}
use Rattle.gap_valid.proofs.head_laws.said_markets_make_said_instances.Goals as goal

pub returns-clause-made : goal.returns-clause-made
returns-clause-made c = said_made

pub returns-clause-said : goal.returns-clause-said
returns-clause-said c = made_is_said
