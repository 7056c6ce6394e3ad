use Rattle.std.proofs.Common.{◌≤◌, ◌-ℤ◌, unsigned_abs}
use Rattle.gap_lines.specs.Brackets.{IsBracket}
use Rattle.gap_lines.proofs.search.highest.Given as goal

abbrev pub invariant-loop-bracket : goal.invariant-loop-bracket
invariant-loop-bracket g l = record {
  bracket_is : IsBracket (g.C.Curve.value l.curve) l.low l.high l.bracket.below l.bracket.above l.bracket.rise l.bracket.fall l.bracket.top;
  step_small : unsigned_abs l.step ≤ 10000000000000000000000000000000;
}

abbrev pub decreases-loop-bracket : goal.decreases-loop-bracket
decreases-loop-bracket g l = unsigned_abs (l.bracket.above -ℤ l.bracket.below)
