use Rattle.std.proofs.Common.{ℕ, ℤ, pos, ◌+ℤ◌, ◌-ℤ◌, ◌*ℤ◌, FitsSigned, ap, ◌∙◌}
use Rattle.std.specs.Int.{w128}
use Rattle.std.proofs.lemmas.Int.{to_z-of_z}
use Rattle.gap_model.specs.Settings.{shifted_cov}
use Rattle.gap_witness.specs.Frames.{setting_in}
use Rattle.gap_witness.proofs.step.curvature_of.Goals as goal

pub returns-clause-value : goal.returns-clause-value
returns-clause-value c =
    let s = setting_in c.args.frame.now in
    let p = s.p in
    let i = c.args.i in
    let j = c.args.j in
    let f1 : FitsSigned w128 c.entry-first.result = record { sfits = c.entry-first.type_inv } in
    let f2 : FitsSigned w128 c.entry-second.result = record { sfits = c.entry-second.type_inv } in
    let f3 : FitsSigned w128 c.entry-both.result = record { sfits = c.entry-both.type_inv } in
    let f4 : FitsSigned w128 c.bowed-bow.result = record { sfits = c.bowed-bow.type_inv } in
    let f5 : FitsSigned w128 c.curved.result = record { sfits = c.curved.type_inv } in
    let a = simp to_z-of_z at c.curved.ensures.value in
    let w = ap (λ (n : ℕ). pos n *ℤ c.bowed-bow.result) c.risk_weight.ensures.value in
    let b = simp to_z-of_z at c.bowed-bow.ensures.value in
    let e = a ∙ w ∙ ap (λ (z : ℤ). pos p *ℤ z) (b
    ∙ ap (λ (z : ℤ). (z +ℤ c.entry-second.result) -ℤ (pos 2 *ℤ c.entry-both.result)) c.entry-first.ensures.value
    ∙ ap (λ (z : ℤ). (shifted_cov s i i +ℤ z) -ℤ (pos 2 *ℤ c.entry-both.result)) c.entry-second.ensures.value
    ∙ ap (λ (z : ℤ). (shifted_cov s i i +ℤ shifted_cov s j j) -ℤ (pos 2 *ℤ z)) c.entry-both.ensures.value) in
    simp to_z-of_z e
