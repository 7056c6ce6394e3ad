use Rattle.std.proofs.Common.{◌≡◌, ◌<◌, take}
use Rattle.gap_cert.specs.Bytes.{value_of, full}
use Rattle.gap_scan.proofs.cursor.number_of.Given as goal

abbrev pub invariant-loop-b : goal.invariant-loop-b
invariant-loop-b l = (l.value ≡ value_of (take l.b-index l.bytes)) × (l.value < full l.b-index)
