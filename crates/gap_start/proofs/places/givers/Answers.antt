use Rattle.std.proofs.Common.{◌<◌, ap, arith, nat_lt}
use Rattle.gap_instance.specs.Instances.{InstanceValue}
use Rattle.gap_start.specs.Places.{IsGiver}
use Rattle.gap_start.proofs.PlaceLaws.{AreAll-more, positive}
use Rattle.gap_start.proofs.places.givers.Goals as goal

pub loop-i-preserved : goal.loop-i-preserved
loop-i-preserved c =
    let h = c.args.h.now in
    let same = ap (λ (m : InstanceValue). m.market.assets) c.instance.ensures in
    let count = c.n-i-end.ensures.value in
    let inside : c.loop-i.i < h.instance.market.assets = omega arith in
    rw (c.add.ensures.numbers, c.add.ensures.count)
    (AreAll-more (IsGiver h.lots) h.instance.market.assets c.loop-i.i c.loop-i.places.numbers c.loop-i.places.count (nat_lt 0 c.get.result) c.loop-i.invariant inside (λ held. rw (c.get.ensures.or_zero, c.lots.ensures.value) (positive _ held)))
