use Rattle.std.proofs.Common.{refl}
use Rattle.gap_cert.specs.Bytes.{full, be, raw_of}
use Rattle.gap_cert.specs.Fields.{entry_bytes}
use Rattle.gap_cert.specs.Certificates.{tree_fields, section_fields, sections_fields, head_fields, fields_of, spelled}
use Rattle.gap_valid.proofs.WorkedLaws.{worked_is}
use Rattle.gap_tests_certificate.proofs.worked.is_worked_out.Goals as goal

pub returns-clause-valid : goal.returns-clause-valid
returns-clause-valid c = worked_is

pub returns-clause-bytes : goal.returns-clause-bytes
unfolding full be raw_of entry_bytes tree_fields section_fields sections_fields head_fields fields_of spelled
returns-clause-bytes c = refl
