-- The items of a certificate.
use Rattle.gap_scan.proofs.ScannedLaws.{scanned_whole}
use Rattle.gap_scan.proofs.laws.whole_certificates_are_scanned.Goals as goal

pub returns : goal.returns
returns c = scanned_whole
