use Rattle.std.proofs.Common.{◌≡◌, ℕ, ◌*◌, ◌<◌, ◌≤◌, length, unsigned_abs, pos, ◌*ℤ◌, ◌≤ℤ◌}
use Rattle.gap_base.specs.Sums.{at}
use Rattle.gap_psd.specs.Shifts.{d_of}
use Rattle.gap_tangent.proofs.bends.bends_of.Given as goal

abbrev pub invariant-loop-i : goal.invariant-loop-i
invariant-loop-i l = record {
  size : length l.bends ≡ 256;
  bends : (k : ℕ) → k < l.i → at l.bends k ≡ pos (64 * l.weight.p) *ℤ d_of l.shift k;
  small : (k : ℕ) → k < l.i → unsigned_abs (at l.bends k) ≤ 6400000000000000000000000;
  signs : (k : ℕ) → k < l.i → pos 0 ≤ℤ at l.bends k;
}
