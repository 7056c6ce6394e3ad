use Rattle.std.proofs.Common.{ℤ, ◌≤ℤ◌, ◌<ℤ◌, ◌-ℤ◌, unsigned_abs}
use Rattle.gap_lines.proofs.nearest.first_top.Given as goal

abbrev pub invariant-loop-at : goal.invariant-loop-at
invariant-loop-at g l = record {
  from : l.floor ≤ℤ l.at;
  to : l.at ≤ℤ l.top.place;
  before : l.floor <ℤ l.at → (b : ℤ) → b <ℤ l.at → g.C.Curve.value l.curve b <ℤ l.top.value;
}

abbrev pub decreases-loop-at : goal.decreases-loop-at
decreases-loop-at g l = unsigned_abs (l.top.place -ℤ l.at)
