use Rattle.std.proofs.Common.{sym, arith}
use Rattle.gap_verify.specs.declared.field.Field.TheVariants.{Weight}
use Rattle.gap_verify.specs.Sides.{side_of_certificate, side_of_job, weight_fields}
use Rattle.gap_verify.proofs.FirstLaws.{groups_none, groups_more, groups_found, one_found}
use Rattle.gap_verify.proofs.sides.Sides.weights.Goals as goal

pub loop-k-init : goal.loop-k-init
loop-k-init c = groups_none (side_of_certificate c.args.self.now.found.now c.args.self.now.nodes c.args.self.now.told.now) (side_of_job c.args.self.now.market.now c.args.self.now.job.now) weight_fields

pub returns-in-Some : goal.returns-in-Some
returns-in-Some c =
    let e = c.len-k-end.ensures.length in
    sym (groups_found (side_of_certificate c.args.self.now.found.now c.args.self.now.nodes c.args.self.now.told.now) (side_of_job c.args.self.now.market.now c.args.self.now.job.now) weight_fields _ c.loop-k.k c.in-Some.difference (omega arith) c.loop-k.invariant (one_found (side_of_certificate c.args.self.now.found.now c.args.self.now.nodes c.args.self.now.told.now) (side_of_job c.args.self.now.market.now c.args.self.now.job.now) (Weight c.loop-k.k) _ c.in-Some.ensures))

pub loop-k-preserved : goal.loop-k-preserved
loop-k-preserved c = groups_more (side_of_certificate c.args.self.now.found.now c.args.self.now.nodes c.args.self.now.told.now) (side_of_job c.args.self.now.market.now c.args.self.now.job.now) weight_fields c.loop-k.k c.loop-k.invariant (one_found (side_of_certificate c.args.self.now.found.now c.args.self.now.nodes c.args.self.now.told.now) (side_of_job c.args.self.now.market.now c.args.self.now.job.now) (Weight c.loop-k.k) _ c.in-None.ensures)
