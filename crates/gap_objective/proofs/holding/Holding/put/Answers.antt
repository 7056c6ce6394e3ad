use Rattle.std.proofs.Common.{◌≡◌, ◌<◌, slice_index_or, slice_set, subst, sym, arith, w32, w64}
use Rattle.std.proofs.lemmas.Int.{to_z-of_z}
use Rattle.std.specs.Int.{w128}
use Rattle.gap_instance.specs.Objective.{objective}
use Rattle.gap_objective.specs.Holdings.{HoldingValue}
use Rattle.gap_objective.proofs.CountLaws.{held_small, turnover_small}
use Rattle.gap_objective.proofs.HoldingLaws.{slopes_small, IsKept-put}
use Rattle.gap_objective.proofs.holding.Holding.put.Goals as goal

pub shift-requires-clause-slopes : goal.shift-requires-clause-slopes
shift-requires-clause-slopes c = slopes_small c.self.inside.inst.now c.self.inside.weight.p c.self.inside.weight.q c.self.inside.lots c.self.inside.slopes c.self.inside.value c.self.inside.held c.self.inside.turnover c.self.invariant

pub counted-self-inside-requires : goal.counted-self-inside-requires
counted-self-inside-requires c = held_small c.self.inside.inst.now c.self.inside.lots c.self.inside.held c.self.invariant.instance_is c.self.invariant.held_is

pub turnover_after-self-inside-requires : goal.turnover_after-self-inside-requires
turnover_after-self-inside-requires c =
    let small = turnover_small c.self.inside.inst.now c.self.inside.lots c.self.inside.turnover c.self.invariant.instance_is c.self.invariant.lots_are c.self.invariant.turnover_is in
    omega arith

pub invariant_of-self : goal.invariant_of-self
invariant_of-self c =
    let kept = c.self.invariant in
    let value = to_z-of_z w128 c.put_value-value.result (record { sfits = c.put_value-value.type_inv }) in
    let scale = to_z-of_z w64 c.scale.result (record { sfits = c.scale.type_inv }) in
    let moved = to_z-of_z w32 c.change-moved.result (record { sfits = c.change-moved.type_inv }) in
    let asset : c.args.i < c.self.inside.inst.now.market.assets = subst (λ (v : HoldingValue). c.args.i < v.instance.market.assets) (sym c.self.view_is) c.requires.asset in
    let is : c.put_value-value.result ≡ objective c.self.inside.inst.now c.self.inside.weight.p c.self.inside.weight.q (slice_set c.self.inside.lots c.args.i c.args.lots) = subst (λ (v : HoldingValue). c.put_value-value.result ≡ objective v.instance v.weight.p v.weight.q (slice_set v.lots c.args.i c.args.lots)) (sym c.self.view_is) c.put_value-value.ensures in
    let more = rw c.get-before.ensures.or_zero at c.change-moved.ensures.value in
    let shifted = rw (scale, c.scale.ensures.value, moved) at c.shift.ensures.shifted in
    let before : c.get-before.result ≡ slice_index_or c.self.inside.lots c.args.i 0 = c.get-before.ensures.or_zero in
    rw (c.set.ensures, value, c.counted-self-inside.ensures, c.turnover_after-self-inside.ensures.value, before, c.present.ensures.value)
    (IsKept-put c.self.inside.inst.now c.self.inside.weight.p c.self.inside.weight.q c.self.inside.lots c.self.inside.slopes c.shift.new.slopes c.self.inside.value c.put_value-value.result c.change-moved.result c.self.inside.held c.self.inside.turnover c.args.i c.args.lots kept asset c.requires.lots more c.shift.ensures.room shifted is)
