use Rattle.std.proofs.Common.{◌≡◌, replicate, length-set, ◌∙◌, arith, sym, w32}
use Rattle.std.proofs.lemmas.Int.{to_z-of_z}
use Rattle.std.specs.Int.{w128}
use Rattle.gap_objective.specs.Slopes.{slope_of}
use Rattle.gap_objective.proofs.HoldingLaws.{more_at, slope_nothing}
use Rattle.gap_objective.proofs.holding.first_slopes.Goals as goal

pub loop-i-preserved : goal.loop-i-preserved
loop-i-preserved c =
    let I = c.args.inst.now in
    let back = to_z-of_z w128 c.first_slope.result (record { sfits = c.first_slope.type_inv }) in
    let mean = to_z-of_z w32 c.mean.result (record { sfits = c.mean.type_inv }) in
    let place : c.from.result ≡ c.loop-i.i = omega arith in
    let room = c.loop-i.invariant.room in
    let value = rw (mean, c.mean.ensures.value, c.lots.ensures.value) at c.first_slope.ensures in
    record {
      slopes = more_at (λ k. slope_of I c.args.p c.args.q (replicate I.market.assets 0) k) c.loop-i.slopes c.loop-i.i c.from.result _ place (omega arith) (back ∙ value ∙ sym (slope_nothing I c.args.p c.args.q c.loop-i.i)) c.loop-i.invariant.slopes;
      room = length-set c.loop-i.slopes c.from.result _ ∙ room;
    }
