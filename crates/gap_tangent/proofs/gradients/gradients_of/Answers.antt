use Rattle.std.proofs.Common.{◌≡◌, FitsSigned, ◌∙◌, arith, length-set}
use Rattle.std.proofs.lemmas.Int.{to_z-of_z}
use Rattle.std.specs.Int.{w128}
use Rattle.gap_base.specs.Lots.{lots_at}
use Rattle.gap_tangent.specs.Seen.{setting_of}
use Rattle.gap_tangent.specs.Terms.{gradient_of}
use Rattle.gap_tangent.proofs.TableLaws.{table_more_at}
use Rattle.gap_tangent.proofs.gradients.gradients_of.Goals as goal

pub loop-i-init : goal.loop-i-init
loop-i-init c = record { size = omega arith; done = λ k h. absurd (omega arith) }

pub loop-i-preserved : goal.loop-i-preserved
loop-i-preserved c =
    let s = setting_of c.args.mv.now in
    let f : FitsSigned w128 c.gradient_at-value.result = record { sfits = c.gradient_at-value.type_inv } in
    let inv = c.loop-i.invariant in
    let i = c.loop-i.i in
    let n = inv.size in
    let e : c.from-place.result ≡ i = omega arith in
    simp to_z-of_z (record {
      size = length-set c.loop-i.gradients c.from-place.result c.gradient_at-value.result ∙ inv.size;
      done = table_more_at (λ k z. z ≡ gradient_of s (lots_at c.args.y.now) k) c.loop-i.gradients i c.from-place.result c.gradient_at-value.result e (omega arith) inv.done c.gradient_at-value.ensures.value;
    })

pub returns : goal.returns
returns c = λ i h. c.loop-i.invariant.done i (omega arith)
