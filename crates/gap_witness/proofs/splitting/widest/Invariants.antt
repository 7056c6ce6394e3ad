use Rattle.std.proofs.Common.{◌<◌, length}
use Rattle.gap_witness.proofs.CutLaws.{IsWidestBelow}
use Rattle.gap_witness.proofs.splitting.widest.Given as goal

abbrev pub invariant-loop-i : goal.invariant-loop-i
invariant-loop-i l = record {
  there : l.found < length l.part;
  widest : IsWidestBelow l.part l.i l.found;
}
