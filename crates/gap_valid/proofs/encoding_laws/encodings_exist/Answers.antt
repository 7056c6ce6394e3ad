use Rattle.gap_valid.proofs.Heads.{encodes, held_alike}
use Rattle.gap_cert.specs.declared.field.Version.TheVariants.{One, Two}
use Rattle.gap_valid.proofs.encoding_laws.encodings_exist.Goals as goal

pub returns-clause-two : goal.returns-clause-two
returns-clause-two c = λ d w. encodes Two d w tt

pub returns-clause-one : goal.returns-clause-one
returns-clause-one c = λ d w e. encodes One d w e

pub returns-clause-none : goal.returns-clause-none
returns-clause-none c = held_alike
