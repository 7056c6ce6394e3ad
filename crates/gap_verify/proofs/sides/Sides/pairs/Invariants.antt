use Rattle.std.proofs.Common.{◌≡◌, None}
use Rattle.gap_verify.specs.Sides.{side_of_certificate, side_of_job, groups_below, row_fields}
use Rattle.gap_verify.specs.Differences.{first_in}
use Rattle.gap_verify.proofs.sides.Sides.pairs.Given as goal

abbrev pub invariant-loop-i : goal.invariant-loop-i
invariant-loop-i l = first_in (side_of_certificate l.self.found.now l.self.nodes l.self.told.now) (side_of_job l.self.market.now l.self.job.now) (groups_below (row_fields l.self.market.now.assets) l.i) ≡ None
