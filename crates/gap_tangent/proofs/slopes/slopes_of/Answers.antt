use Rattle.std.proofs.Common.{◌≡◌, pos, ◌*ℤ◌, FitsSigned, ap, ◌∙◌, arith, length-set}
use Rattle.std.proofs.lemmas.Int.{to_z-of_z}
use Rattle.std.specs.Int.{w128}
use Rattle.gap_base.specs.Lots.{lots_at}
use Rattle.gap_tangent.specs.Terms.{gradient_of}
use Rattle.gap_tangent.proofs.TableLaws.{table_more_at}
use Rattle.gap_tangent.proofs.slopes.slopes_of.Goals as goal

pub loop-i-init : goal.loop-i-init
loop-i-init c = record { size = omega arith; done = λ k h. absurd (omega arith) }

pub loop-i-preserved : goal.loop-i-preserved
loop-i-preserved c =
    let f : FitsSigned w128 c.slope-value.result = record { sfits = c.slope-value.type_inv } in
    let g : FitsSigned w128 c.gradient.result = record { sfits = c.gradient.type_inv } in
    let t = simp to_z-of_z at c.slope-value.ensures in
    let v = t ∙ ap (λ z. pos 8 *ℤ z) c.gradient.ensures.value in
    let inv = c.loop-i.invariant in
    let i = c.loop-i.i in
    let n = inv.size in
    let e : c.from-place.result ≡ i = omega arith in
    simp to_z-of_z (record {
      size = length-set c.loop-i.slopes c.from-place.result c.slope-value.result ∙ inv.size;
      done = table_more_at (λ k z. z ≡ pos 8 *ℤ gradient_of c.args.point.now.setting (lots_at c.args.point.now.eighths) k) c.loop-i.slopes i c.from-place.result c.slope-value.result e (omega arith) inv.done v;
    })
