use Rattle.std.proofs.Common.{◌≡◌, ℕ, ◌+◌, ◌*◌, ◌<◌, ◌≤◌, List, ℤ, pos, ◌-ℤ◌, ◌*ℤ◌, unsigned_abs, FitsSigned, sym, ap, ◌∙◌, subst, arith}
use Rattle.std.proofs.lemmas.Int.{to_z-of_z}
use Rattle.std.specs.Int.{w128}
use Rattle.gap_base.specs.Sums.{at}
use Rattle.gap_model.specs.Settings.{shifted_cov}
use Rattle.gap_tangent.specs.Seen.{setting_of}
use Rattle.gap_tangent.proofs.RowLaws.{IsAdded, added_none, added_more}
use Rattle.gap_tangent.proofs.moves.move_gradients.Goals as goal

pub loop-k-init : goal.loop-k-init
loop-k-init c = added_none _ _ c.told-gradients

pub loop-k-preserved : goal.loop-k-preserved
loop-k-preserved c =
    let s = setting_of c.args.mv.now in
    let f = λ (k : ℕ). pos (2 * s.p * c.args.s) *ℤ (shifted_cov s k c.args.j -ℤ shifted_cov s k c.args.i) in
    let fg : FitsSigned w128 c.gained.result = record { sfits = c.gained.type_inv } in
    let set = simp to_z-of_z at c.add_to.ensures in
    subst (λ (rows : List ℤ). IsAdded f c.args.gradients.now rows (c.loop-k.k + 1)) (sym set) (added_more f c.args.gradients.now c.loop-k.gradients c.loop-k.k c.gained.result (omega arith) c.loop-k.invariant c.gained.ensures.value)

pub add_to-requires : goal.add_to-requires
add_to-requires c =
    let fg : FitsSigned w128 c.gained.result = record { sfits = c.gained.type_inv } in
    simp to_z-of_z (record {
      there = omega arith;
      old = subst (λ (z : ℤ). unsigned_abs z ≤ 16250000000000000000000000000) (sym (c.loop-k.invariant.rest c.loop-k.k (omega arith))) (c.requires.small c.loop-k.k (omega arith));
      amount = c.gained.ensures.small;
    })

pub returns : goal.returns
returns c = λ k l. c.loop-k.invariant.done k (omega arith)
