use Rattle.std.proofs.Common.{◌≡◌, length}
use Rattle.gap_files.specs.Outside.{SinkNow}
use Rattle.gap_files.specs.Drains.{Flows}
use Rattle.gap_upgrade.proofs.pouring.pour.Given as goal

abbrev pub invariant-pieces : goal.invariant-pieces
invariant-pieces g l = record {
  flows : (sink : SinkNow) → Flows l.name (g.F.Files.files l.fn.files) (g.F.Files.files l.files) sink l.fn.writer.bytes l.writer.bytes;
  last : l.writer.last ≡ l.fn.writer.last;
}

abbrev pub decreases-pieces : goal.decreases-pieces
decreases-pieces g l = length l.writer.bytes
