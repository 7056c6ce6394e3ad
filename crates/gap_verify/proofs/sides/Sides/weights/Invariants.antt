use Rattle.std.proofs.Common.{◌≡◌, None}
use Rattle.gap_verify.specs.Sides.{side_of_certificate, side_of_job, groups_below, weight_fields}
use Rattle.gap_verify.specs.Differences.{first_in}
use Rattle.gap_verify.proofs.sides.Sides.weights.Given as goal

abbrev pub invariant-loop-k : goal.invariant-loop-k
invariant-loop-k l = first_in (side_of_certificate l.self.found.now l.self.nodes l.self.told.now) (side_of_job l.self.market.now l.self.job.now) (groups_below weight_fields l.k) ≡ None
