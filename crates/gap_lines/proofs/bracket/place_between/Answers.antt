use Rattle.std.proofs.Common.{ℤ, ◌≤ℤ◌, FitsSigned, ap, ◌∙◌, subst}
use Rattle.std.specs.Int.{w128}
use Rattle.std.proofs.lemmas.Int.{to_z-of_z}
use Rattle.gap_lines.specs.Lines.{on}
use Rattle.gap_lines.proofs.Sizes.{not_above, value_fits, over_back, between_small}
use Rattle.gap_lines.proofs.BracketLaws.{settled}
use Rattle.gap_lines.proofs.bracket.place_between.Goals as goal

pub returns-then-after-bracket : goal.returns-then-after-bracket
returns-then-after-bracket c = λ value r f t.
    let o = c.args.bracket.now in
    let cut = c.meeting-cut.result in
    let fc : FitsSigned w128 cut = record { sfits = c.meeting-cut.type_inv } in
    let fb : FitsSigned w128 c.height_at-before.result = record { sfits = c.height_at-before.type_inv } in
    let fa : FitsSigned w128 c.height_at-after.result = record { sfits = c.height_at-after.type_inv } in
    let small = between_small o.below o.above cut o.below_small o.above_small c.meeting-cut.ensures.after c.meeting-cut.ensures.before in
    let hb = subst (λ (z : ℤ). z ≤ℤ o.top.value) (c.height_at-before.ensures.value ∙ ap (on o.rise) (to_z-of_z w128 cut fc)) (not_above c.height_at-before.result o.top.value fb (value_fits o.top) c.if-before-bracket.true) in
    let ha = subst (λ (z : ℤ). z ≤ℤ o.top.value) (c.height_at-after.ensures.value ∙ ap (on o.fall) (over_back cut small)) (not_above c.height_at-after.result o.top.value fa (value_fits o.top) c.if-after-bracket.true) in
    settled value o.rise o.fall cut o.top.value r f c.requires.rise c.requires.fall hb ha t
