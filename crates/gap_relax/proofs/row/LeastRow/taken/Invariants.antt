use Rattle.std.proofs.Common.{◌-◌, ◌<◌, ◌≤◌, ◌<ℤ◌, ℕ, pos}
use Rattle.gap_relax.specs.Rows.{difference_at}
use Rattle.gap_relax.proofs.row.LeastRow.taken.Given as goal

abbrev pub invariant-loop-taken : goal.invariant-loop-taken
invariant-loop-taken l = record {
  many : l.taken ≤ l.self.count;
  few : l.self.fewest ≤ l.self.count → l.self.fewest ≤ l.taken;
  cheaper : (k : ℕ) → l.self.fewest ≤ k → k < l.taken → difference_at l.self.extras k <ℤ pos 0;
}

abbrev pub decreases-loop-taken : goal.decreases-loop-taken
decreases-loop-taken l = l.self.count - l.taken
