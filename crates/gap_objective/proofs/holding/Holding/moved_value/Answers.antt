use Rattle.std.proofs.Common.{◌≡◌, ◌+◌, ◌-◌, ◌+ℤ◌, ◌-ℤ◌, ◌∙◌, pos, slice_index_or, sym, arith, w32}
use Rattle.std.proofs.lemmas.Int.{to_z-of_z, ints}
use Rattle.std.specs.Int.{w128}
use Rattle.gap_base.specs.Lots.{lots_at}
use Rattle.gap_objective.proofs.ChangeLaws.{objective_shifted}
use Rattle.gap_objective.proofs.holding.Holding.moved_value.Goals as goal

pub returns : goal.returns
returns c =
    let h = c.args.self.now in
    let back = to_z-of_z w128 c.shifted_value.result (record { sfits = c.shifted_value.type_inv }) in
    let moved = to_z-of_z w32 c.from.result (record { sfits = c.from.type_inv }) in
    let way = rw (moved, c.from.ensures) at c.shifted_value.ensures.value in
    let s = c.requires.from in
    let from : pos (slice_index_or h.lots c.args.i 0 - c.args.lots) ≡ lots_at h.lots c.args.i -ℤ pos c.args.lots = omega (arith, ints) in
    let to : pos (slice_index_or h.lots c.args.j 0 + c.args.lots) ≡ lots_at h.lots c.args.j +ℤ pos c.args.lots = omega (arith, ints) in
    back ∙ way ∙ sym (objective_shifted h.instance h.weight.p h.weight.q h.lots (pos c.args.lots) c.args.i c.args.j (slice_index_or h.lots c.args.i 0 - c.args.lots) (slice_index_or h.lots c.args.j 0 + c.args.lots) c.shifted_value.ensures.instance.market_is c.shifted_value.ensures.lots.count c.requires.first c.requires.second c.requires.other from to)
