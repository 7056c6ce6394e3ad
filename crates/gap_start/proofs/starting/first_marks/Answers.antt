use Rattle.std.proofs.Common.{arith, ◌<◌, length}
use Rattle.gap_start.proofs.StartLaws.{marks_none, marks_more}
use Rattle.gap_start.proofs.starting.first_marks.Goals as goal

pub loop-place-init : goal.loop-place-init
loop-place-init c = rw (c.zeros-marks.ensures, c.n.ensures.value) (marks_none c.args.inst.now.market.assets c.args.order.now)

pub loop-place-preserved : goal.loop-place-preserved
loop-place-preserved c =
    let there : c.loop-place.place < length c.args.order.now = omega arith in
    rw (c.set.ensures, c.get.ensures) (marks_more c.args.inst.now.market.assets c.args.order.now c.loop-place.place c.loop-place.marks c.loop-place.invariant there (c.requires.inside c.loop-place.place there) c.requires.once)
