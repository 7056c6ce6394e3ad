use Rattle.std.proofs.Common.{◌≡◌, ◌+◌, ◌-◌, ◌≤◌, ◌<◌, [], length}
use Rattle.gap_upgrade.proofs.CopyLaws.{IsAlong}
use Rattle.gap_upgrade.proofs.copying.copy_all.Given as goal

abbrev pub invariant-pieces : goal.invariant-pieces
invariant-pieces g l = record {
  along : IsAlong l.cert l.new (g.F.Files.files l.fn.files) (g.F.Files.files l.files) l.at l.copier.checker l.copier.scanner l.copier.writer;
  empty : l.copier.writer.bytes ≡ [];
  place : l.copier.scanner.place + length l.copier.scanner.rest ≡ l.at;
  some : 0 < length l.buffer;
  few : length l.buffer ≤ 65536;
  most : l.at ≤ 1099511693311;
}

abbrev pub decreases-pieces : goal.decreases-pieces
decreases-pieces g l = 1099511693312 - l.at
