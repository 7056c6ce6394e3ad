use Rattle.gap_valid.proofs.BoundLaws.{told_right, closed_shows, open_spent}
use Rattle.gap_valid.proofs.laws.valid_certificates_bound.Goals as goal

pub returns-clause-told : goal.returns-clause-told
returns-clause-told c = told_right

pub returns-clause-closed : goal.returns-clause-closed
returns-clause-closed c = closed_shows

pub returns-clause-spent : goal.returns-clause-spent
returns-clause-spent c = open_spent
