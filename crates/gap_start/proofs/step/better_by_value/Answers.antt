use Rattle.std.proofs.Common.{◌≡◌, ◌<ℤ◌, refl, arith}
use Rattle.std.proofs.lemmas.Int.{to_z-of_z, ints}
use Rattle.std.specs.Int.{w128}
use Rattle.gap_instance.specs.Objective.{objective}
use Rattle.gap_start.specs.Steps.{stepped}
use Rattle.gap_start.proofs.StepLaws.{NoneBelow-full, IsFoundBy-low}
use Rattle.gap_start.proofs.step.better_by_value.Goals as goal

pub returns-then-not-has_room-clause-none : goal.returns-then-not-has_room-clause-none
returns-then-not-has_room-clause-none c =
    let h = c.args.h.now in
    NoneBelow-full h.instance h.weight.p h.weight.q h.lots c.args.before.value c.args.kind c.args.i c.args.j c.requires.meets.assets_are c.requires.taker (λ room. let e = c.if-not-has_room.ensures.1 room in cc)

pub returns-then-keeps_turnover-clause-found : goal.returns-then-keeps_turnover-clause-found
returns-then-keeps_turnover-clause-found c =
    let h = c.args.h.now in
    let back = to_z-of_z w128 c.value_after-value.result (record { sfits = c.value_after-value.type_inv }) in
    let is : c.value_after-value.result ≡ objective h.instance h.weight.p h.weight.q (stepped h.lots c.args.kind c.args.i c.args.j) = c.value_after-value.ensures in
    let low = IsFoundBy-low h.instance h.weight.p h.weight.q h.lots c.args.before.value c.args.before.step c.requires.before in
    let lower : objective h.instance h.weight.p h.weight.q (stepped h.lots c.args.kind c.args.i c.args.j) <ℤ objective h.instance h.weight.p h.weight.q h.lots = let l = c.if-value-before.true in grind (arith, ints) in
    record {
      giver = c.requires.giver;
      taker = c.requires.taker;
      room = c.if-not-has_room.ensures.0 refl;
      meets = c.if-keeps_turnover.ensures.0 refl;
      value = rw back is;
      better = rw (back, is) lower;
    }
