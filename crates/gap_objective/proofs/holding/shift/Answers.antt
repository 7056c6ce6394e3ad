use Rattle.std.proofs.Common.{◌≡◌, ◌<◌, ◌≤◌, ◌+ℤ◌, ◌*ℤ◌, length-set, ◌∙◌, arith, lit<, unsigned_abs, w64}
use Rattle.std.proofs.lemmas.Int.{to_z-of_z}
use Rattle.std.specs.Int.{w128}
use Rattle.gap_base.specs.Sums.{at}
use Rattle.gap_base.proofs.Machine.{back_of}
use Rattle.gap_instance.specs.Objective.{cov_of}
use Rattle.gap_objective.proofs.HoldingLaws.{more_shifted}
use Rattle.gap_objective.proofs.holding.shift.Goals as goal

pub loop-j-preserved : goal.loop-j-preserved
loop-j-preserved c =
    let m = c.args.inst.now.market in
    let j = c.loop-j.j in
    let scale = to_z-of_z w64 c.args.scale c.ranges.scale in
    let back = to_z-of_z w128 c.shifted.result (record { sfits = c.shifted.type_inv }) in
    let cov = to_z-of_z w64 c.cov.result (record { sfits = c.cov.type_inv }) in
    let before = rw scale at c.loop-j.invariant.shifted in
    let same : at c.loop-j.slopes j ≡ at c.args.slopes.now j = before.above j (omega arith) in
    let inside : j < m.assets = omega arith in
    let small : unsigned_abs (at c.loop-j.slopes j) ≤ 2000000000000000000000000000 = rw same (c.requires.slopes j inside) in
    let read = back_of (at c.loop-j.slopes j) 2000000000000000000000000000 small (lit< tt) in
    let value : c.shifted.result ≡ at c.loop-j.slopes j +ℤ cov_of m j c.args.i *ℤ c.args.scale = rw (c.from-place.ensures, read, cov, scale, c.cov.ensures.value) at c.shifted.ensures in
    let room = c.loop-j.invariant.room in
    let most = c.n-j-end.ensures.many in
    rw (scale, back) (record {
      shifted = more_shifted m c.args.i j c.from-place.result c.args.scale c.shifted.result c.args.slopes.now c.loop-j.slopes c.from-place.ensures (omega arith) value before;
      room = length-set c.loop-j.slopes c.from-place.result c.shifted.result ∙ room;
    })
