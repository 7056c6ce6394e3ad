-- An item that is answered was scanned.
use Rattle.gap_scan.proofs.ScannedLaws.{scanned_more}
use Rattle.gap_scan.proofs.laws.scanning_goes_on.Goals as goal

pub returns : goal.returns
returns c = scanned_more
