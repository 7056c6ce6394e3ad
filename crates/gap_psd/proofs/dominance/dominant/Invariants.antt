use Rattle.std.proofs.Common.{ℕ, ◌<◌, ◌≤ℤ◌}
use Rattle.gap_instance.specs.Objective.{cov_of}
use Rattle.gap_psd.specs.Forms.{others}
use Rattle.gap_psd.specs.Shifts.{rest}
use Rattle.gap_psd.proofs.dominance.dominant.Given as goal

abbrev pub invariant-loop-i : goal.invariant-loop-i
invariant-loop-i l = (k : ℕ) → k < l.i → others l.shift.assets (rest (cov_of l.inst.market) l.shift) k ≤ℤ rest (cov_of l.inst.market) l.shift k k
