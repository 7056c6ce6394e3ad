use Rattle.gap_valid.proofs.Alone.{known_by_items, one_certificate}
use Rattle.gap_valid.proofs.encoding_laws.certificates_are_alone.Goals as goal

pub returns-clause-one : goal.returns-clause-one
returns-clause-one c = one_certificate

pub returns-clause-items : goal.returns-clause-items
returns-clause-items c = known_by_items
