-- Reading by a format and spelling by it.
use Rattle.std.proofs.Common.{refl}
use Rattle.gap_cert.specs.Contexts.{format_of}
use Rattle.gap_cert.proofs.FormatLaws.{reads}
use Rattle.gap_cert.proofs.GrammarLaws.{bytes_are}
use Rattle.gap_cert.proofs.WholeLaws.{read_from}
use Rattle.gap_cert.proofs.laws.groups_are_spelled.Goals as goal

pub returns-clause-read : goal.returns-clause-read
returns-clause-read c = λ d g bytes rest place s. reads (format_of d d.phase) g bytes rest place _ s refl

pub returns-clause-spelled : goal.returns-clause-spelled
returns-clause-spelled c = λ d g s t b h. read_from (format_of d d.phase) g s t b h

pub returns-clause-bytes : goal.returns-clause-bytes
returns-clause-bytes c = bytes_are
