use Rattle.std.proofs.Common.{ℕ, ◌-◌, ◌*◌, pos, ◌*ℤ◌, FitsSigned, ap, ◌∙◌}
use Rattle.std.proofs.lemmas.Int.{to_z-of_z}
use Rattle.std.specs.Int.{w32, w128}
use Rattle.gap_tangent.proofs.gradients.reward_at.Goals as goal

pub returns-clause-value : goal.returns-clause-value
returns-clause-value c =
    let w = c.args.mv.now.weight in
    let I = c.args.mv.now.instance.now in
    let f1 : FitsSigned w32 c.mean.result = record { sfits = c.mean.type_inv } in
    let f2 : FitsSigned w128 c.rewarded.result = record { sfits = c.rewarded.type_inv } in
    let t = simp to_z-of_z at c.rewarded.ensures.value in
    let e = t ∙ ap (λ (n : ℕ). pos n *ℤ c.mean.result) (c.reward_scale.ensures.value ∙ ap (λ (n : ℕ). (w.q - w.p) * 1000000000000 * n) c.lots.ensures.value) ∙ ap (λ z. pos ((w.q - w.p) * 1000000000000 * I.lots) *ℤ z) c.mean.ensures.value in
    simp to_z-of_z e
