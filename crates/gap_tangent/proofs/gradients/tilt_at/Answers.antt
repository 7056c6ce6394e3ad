use Rattle.std.proofs.Common.{ℕ, pos, ◌+ℤ◌, ◌*ℤ◌, FitsSigned, ap, ◌∙◌}
use Rattle.std.proofs.lemmas.Int.{to_z-of_z}
use Rattle.std.specs.Int.{w128}
use Rattle.gap_base.specs.Sums.{at}
use Rattle.gap_psd.specs.Shifts.{d_of}
use Rattle.gap_tangent.specs.Seen.{setting_of}
use Rattle.gap_tangent.proofs.SlopeLaws.{tilt_parts}
use Rattle.gap_tangent.proofs.gradients.tilt_at.Goals as goal

pub returns-clause-value : goal.returns-clause-value
returns-clause-value c =
    let s = setting_of c.args.mv.now in
    let rows = c.args.rows.now in
    let i = c.args.i in
    let f1 : FitsSigned w128 c.row_at.result = record { sfits = c.row_at.type_inv } in
    let f2 : FitsSigned w128 c.d.result = record { sfits = c.d.type_inv } in
    let f3 : FitsSigned w128 c.tilted.result = record { sfits = c.tilted.type_inv } in
    let t = simp to_z-of_z at c.tilted.ensures.value in
    let e = t ∙ ap (λ z. z +ℤ c.d.result *ℤ pos c.eighths_at.result) c.row_at.ensures.value ∙ ap (λ z. at rows i +ℤ z *ℤ pos c.eighths_at.result) c.d.ensures.value ∙ ap (λ (n : ℕ). at rows i +ℤ d_of c.args.mv.now.shift.now i *ℤ pos n) c.eighths_at.ensures.value ∙ tilt_parts s c.args.y.now rows i c.requires.there c.requires.rows in
    simp to_z-of_z e
