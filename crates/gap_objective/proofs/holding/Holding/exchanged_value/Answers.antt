use Rattle.std.proofs.Common.{◌≡◌, ◌+ℤ◌, ◌-ℤ◌, ◌∙◌, slice_index_or, subst, sym, arith, w32}
use Rattle.std.proofs.lemmas.Int.{to_z-of_z}
use Rattle.std.specs.Int.{w128}
use Rattle.gap_base.specs.Lots.{lots_at}
use Rattle.gap_base.proofs.Ring.{linear}
use Rattle.gap_objective.specs.Holdings.{HoldingValue}
use Rattle.gap_objective.proofs.ChangeLaws.{objective_shifted}
use Rattle.gap_objective.proofs.holding.Holding.exchanged_value.Goals as goal

pub returns : goal.returns
returns c =
    let h = c.args.self.now in
    let back = to_z-of_z w128 c.shifted_value.result (record { sfits = c.shifted_value.type_inv }) in
    let moved = to_z-of_z w32 c.change-moved.result (record { sfits = c.change-moved.type_inv }) in
    let way = rw moved at c.shifted_value.ensures.value in
    let more = rw (c.get.ensures.or_zero, c.get-2.ensures.or_zero) at c.change-moved.ensures.value in
    let to : lots_at h.lots c.args.i ≡ lots_at h.lots c.args.j +ℤ c.change-moved.result = subst (λ (v : HoldingValue). lots_at v.lots c.args.i ≡ lots_at v.lots c.args.j +ℤ c.change-moved.result) c.self.view_is more in
    let from : lots_at h.lots c.args.j ≡ lots_at h.lots c.args.i -ℤ c.change-moved.result = omega (arith, linear) in
    back ∙ way ∙ sym (objective_shifted h.instance h.weight.p h.weight.q h.lots c.change-moved.result c.args.i c.args.j (slice_index_or h.lots c.args.j 0) (slice_index_or h.lots c.args.i 0) c.shifted_value.ensures.instance.market_is c.shifted_value.ensures.lots.count c.requires.first c.requires.second c.requires.other from to)
