-- What is said of an asset, as it is kept. Own to portgap.

use Rattle.gap_cert.specs.Certificates.{AssetLine}
use Rattle.gap_judge.specs.declared.line.Line.{Line}

abbrev pub asset_line : Line → AssetLine
asset_line a = record { mean = a.mean; dev = a.dev; least = a.least; greatest = a.greatest; present = a.present }
