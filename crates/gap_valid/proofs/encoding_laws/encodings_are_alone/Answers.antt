use Rattle.gap_valid.proofs.Heads.{one_alone, no_front}
use Rattle.gap_valid.proofs.encoding_laws.encodings_are_alone.Goals as goal

pub returns-clause-one : goal.returns-clause-one
returns-clause-one c = one_alone

pub returns-clause-front : goal.returns-clause-front
returns-clause-front c = no_front
