use Rattle.std.proofs.Common.{◌≡◌, ◌-◌, suc, None}
use Rattle.gap_verify.specs.Sides.{side_of_certificate, side_of_job, groups_below, pair_fields}
use Rattle.gap_verify.specs.Differences.{first_in}
use Rattle.gap_verify.proofs.sides.Sides.row.Given as goal

abbrev pub invariant-loop-j : goal.invariant-loop-j
invariant-loop-j l = first_in (side_of_certificate l.self.found.now l.self.nodes l.self.told.now) (side_of_job l.self.market.now l.self.job.now) (groups_below (pair_fields l.i) (l.j - suc l.i)) ≡ None
