use Rattle.std.proofs.Common.{sym, arith}
use Rattle.gap_verify.specs.Sides.{side_of_certificate, side_of_job, row_fields}
use Rattle.gap_verify.proofs.FirstLaws.{groups_none, groups_more, groups_found}
use Rattle.gap_verify.proofs.sides.Sides.pairs.Goals as goal

pub loop-i-init : goal.loop-i-init
loop-i-init c = groups_none (side_of_certificate c.args.self.now.found.now c.args.self.now.nodes c.args.self.now.told.now) (side_of_job c.args.self.now.market.now c.args.self.now.job.now) (row_fields c.args.self.now.market.now.assets)

pub returns-in-Some : goal.returns-in-Some
returns-in-Some c =
    let e = c.n-i-end.ensures.value in
    sym (groups_found (side_of_certificate c.args.self.now.found.now c.args.self.now.nodes c.args.self.now.told.now) (side_of_job c.args.self.now.market.now c.args.self.now.job.now) (row_fields c.args.self.now.market.now.assets) c.args.self.now.market.now.assets c.loop-i.i c.in-Some.difference (omega arith) c.loop-i.invariant (sym c.in-Some.ensures))

pub loop-i-preserved : goal.loop-i-preserved
loop-i-preserved c = groups_more (side_of_certificate c.args.self.now.found.now c.args.self.now.nodes c.args.self.now.told.now) (side_of_job c.args.self.now.market.now c.args.self.now.job.now) (row_fields c.args.self.now.market.now.assets) c.loop-i.i c.loop-i.invariant (sym c.in-None.ensures)
