use Rattle.std.proofs.Common.{◌<◌, ap, arith}
use Rattle.gap_instance.specs.Instances.{InstanceValue}
use Rattle.gap_start.specs.Places.{IsTaker}
use Rattle.gap_start.proofs.PlaceLaws.{AreAll-more}
use Rattle.gap_start.proofs.places.takers.Goals as goal

pub loop-j-preserved : goal.loop-j-preserved
loop-j-preserved c =
    let h = c.args.h.now in
    let same = ap (λ (m : InstanceValue). m.market.assets) c.instance.ensures in
    let count = c.n-j-end.ensures.value in
    let inside : c.loop-j.j < h.instance.market.assets = omega arith in
    rw (c.add.ensures.numbers, c.add.ensures.count)
    (AreAll-more (IsTaker h.instance h.weight.p h.weight.q h.lots c.args.kind c.args.top) h.instance.market.assets c.loop-j.j c.loop-j.places.numbers c.loop-j.places.count c.takes.result c.loop-j.invariant inside c.takes.ensures.1)
