use Rattle.std.proofs.Common.{◌≡◌, ◌*◌, ◌≤◌, pos, ◌*ℤ◌, ◌≤ℤ◌, unsigned_abs, FitsSigned, ap, ◌∙◌, arith, length-set}
use Rattle.std.proofs.lemmas.Int.{to_z-of_z}
use Rattle.std.specs.Int.{w128}
use Rattle.gap_psd.specs.Shifts.{d_of}
use Rattle.gap_tangent.proofs.TableLaws.{table_more_at}
use Rattle.gap_tangent.proofs.bends.bends_of.Goals as goal

pub loop-i-init : goal.loop-i-init
loop-i-init c = record { size = omega arith; bends = λ k h. absurd (omega arith); small = λ k h. absurd (omega arith); signs = λ k h. absurd (omega arith) }

pub loop-i-preserved : goal.loop-i-preserved
loop-i-preserved c =
    let f : FitsSigned w128 c.bend-value.result = record { sfits = c.bend-value.type_inv } in
    let fd : FitsSigned w128 c.d.result = record { sfits = c.d.type_inv } in
    let p = c.args.weight.p in
    let t = simp to_z-of_z at c.bend-value.ensures.value in
    let v = t ∙ ap (λ z. pos (64 * p) *ℤ z) c.d.ensures.value in
    let inv = c.loop-i.invariant in
    let i = c.loop-i.i in
    let n = inv.size in
    let e : c.from-place.result ≡ i = omega arith in
    simp to_z-of_z (record {
      size = length-set c.loop-i.bends c.from-place.result c.bend-value.result ∙ inv.size;
      bends = table_more_at (λ k z. z ≡ pos (64 * p) *ℤ d_of c.args.shift.now k) c.loop-i.bends i c.from-place.result c.bend-value.result e (omega arith) inv.bends v;
      small = table_more_at (λ k z. unsigned_abs z ≤ 6400000000000000000000000) c.loop-i.bends i c.from-place.result c.bend-value.result e (omega arith) inv.small c.bend-value.ensures.small;
      signs = table_more_at (λ k z. pos 0 ≤ℤ z) c.loop-i.bends i c.from-place.result c.bend-value.result e (omega arith) inv.signs c.bend-value.ensures.sign;
    })

pub returns-clause-bends : goal.returns-clause-bends
returns-clause-bends c = λ i h. c.loop-i.invariant.bends i (omega arith)

pub returns-clause-small : goal.returns-clause-small
returns-clause-small c = λ i h. c.loop-i.invariant.small i (omega arith)

pub returns-clause-signs : goal.returns-clause-signs
returns-clause-signs c = λ i h. c.loop-i.invariant.signs i (omega arith)
