use Rattle.std.proofs.Common.{◌-◌, ◌<◌, ◌≤◌}
use Rattle.gap_tangent.specs.Lots.{unders}
use Rattle.gap_tangent.proofs.lots.parting.Given as goal

abbrev pub invariant-loop-bracket : goal.invariant-loop-bracket
invariant-loop-bracket l = record {
  order : l.bracket.low < l.bracket.high;
  within : l.bracket.high ≤ 10001;
  few : unders l.end l.bracket.low l.part ≤ l.k;
  enough : l.k ≤ unders l.end l.bracket.high l.part;
}

abbrev pub decreases-loop-bracket : goal.decreases-loop-bracket
decreases-loop-bracket l = l.bracket.high - l.bracket.low
