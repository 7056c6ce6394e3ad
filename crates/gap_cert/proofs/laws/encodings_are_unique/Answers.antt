-- Whole encodings have one reading.
use Rattle.gap_cert.proofs.WholeLaws.{encoding_is_spelling, one_encoding}
use Rattle.gap_cert.proofs.laws.encodings_are_unique.Goals as goal

pub returns-clause-spelling : goal.returns-clause-spelling
returns-clause-spelling c = encoding_is_spelling

pub returns-clause-one : goal.returns-clause-one
returns-clause-one c = one_encoding
