use Rattle.std.proofs.Common.{◌≤◌}
use Rattle.gap_rule.specs.Reading.{IfTold, OnlyReads, IsFed, WasFed}
use Rattle.gap_rule.proofs.reading.read_all.Given as goal

abbrev pub invariant-loop-turn : goal.invariant-loop-turn
invariant-loop-turn g l = record {
  turns : l.turn ≤ l.at;
  limit : l.at ≤ g.C.Consumer.MOST;
  fed : IfTold (g.F.Files.files l.fn.files) l.name (λ held. IsFed held l.at (g.C.Consumer.has_read l.consumer));
  was : WasFed l.at (g.C.Consumer.has_read l.consumer);
  frame : OnlyReads l.name (g.F.Files.files l.fn.files) (g.F.Files.files l.files);
}
