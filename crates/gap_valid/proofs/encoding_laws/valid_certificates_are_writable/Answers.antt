use Rattle.gap_valid.proofs.Validity.{writable}
use Rattle.gap_valid.proofs.encoding_laws.valid_certificates_are_writable.Goals as goal

pub returns : goal.returns
returns c = writable
