use Rattle.std.proofs.Common.{◌≡◌, ℕ, ◌+◌, ◌*◌, ◌<◌, ◌≤◌, List, ℤ, pos, ◌*ℤ◌, unsigned_abs, FitsSigned, sym, ap, ◌∙◌, subst, arith}
use Rattle.std.proofs.lemmas.Int.{to_z-of_z}
use Rattle.std.specs.Int.{w64, w128}
use Rattle.gap_base.specs.Sums.{at}
use Rattle.gap_instance.specs.Objective.{cov_of}
use Rattle.gap_tangent.proofs.RowLaws.{IsAdded, added_none, added_more}
use Rattle.gap_tangent.proofs.rows.add_column.Goals as goal

pub loop-i-init : goal.loop-i-init
loop-i-init c = added_none _ _ c.told-rows

pub loop-i-preserved : goal.loop-i-preserved
loop-i-preserved c =
    let fc : FitsSigned w64 c.cov.result = record { sfits = c.cov.type_inv } in
    let ft : FitsSigned w128 c.times.result = record { sfits = c.times.type_inv } in
    let value = simp to_z-of_z at c.times.ensures.value in
    let e : c.times.result ≡ cov_of c.args.inst.now.market c.loop-i.i c.args.j *ℤ pos c.args.eighths = value ∙ ap (λ z. z *ℤ pos c.args.eighths) c.cov.ensures.symmetric in
    let set = simp to_z-of_z at c.add_to.ensures in
    subst (λ (rows : List ℤ). IsAdded (λ k. cov_of c.args.inst.now.market k c.args.j *ℤ pos c.args.eighths) c.args.rows.now rows (c.loop-i.i + 1)) (sym set) (added_more (λ k. cov_of c.args.inst.now.market k c.args.j *ℤ pos c.args.eighths) c.args.rows.now c.loop-i.rows c.loop-i.i c.times.result (omega arith) c.loop-i.invariant e)

size_within : (j m : ℕ) (a b : ℤ) → a ≡ b → unsigned_abs b ≤ j * 80000000000000000000000 → j < m → m ≤ 256 → unsigned_abs a ≤ 20480000000000000000000000
size_within j m a b e h k l = subst (λ (z : ℤ). unsigned_abs z ≤ 20480000000000000000000000) (sym e) (omega arith)

pub add_to-requires : goal.add_to-requires
add_to-requires c =
    let ft : FitsSigned w128 c.times.result = record { sfits = c.times.type_inv } in
    simp to_z-of_z (record {
      there = omega arith;
      old = size_within c.args.j c.args.inst.now.market.assets (at c.loop-i.rows c.loop-i.i) (at c.args.rows.now c.loop-i.i) (c.loop-i.invariant.rest c.loop-i.i (omega arith)) (c.requires.small c.loop-i.i (omega arith)) c.requires.there (omega arith);
      amount = c.times.ensures.small;
    })

pub returns : goal.returns
returns c = λ i l. c.loop-i.invariant.done i (omega arith)
