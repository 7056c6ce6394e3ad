use Rattle.std.proofs.Common.{◌≡◌, ◌*◌, ◌≤◌, unsigned_abs}
use Rattle.gap_base.specs.Sums.{sum_below}
use Rattle.gap_instance.specs.Objective.{cov_of}
use Rattle.gap_factor.specs.Plain.{plain_of}
use Rattle.gap_factor.proofs.plain.plain_total.Given as goal

abbrev pub invariant-loop-i : goal.invariant-loop-i
invariant-loop-i l = record {
  sum_so_far : l.sum ≡ sum_below l.i (plain_of l.inst.market.assets (cov_of l.inst.market));
  small : unsigned_abs l.sum ≤ l.i * 257000000000000000000;
}
