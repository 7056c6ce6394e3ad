use Rattle.std.proofs.Common.{◌≡◌, ℕ, ◌*◌, List, length, sym, ap, ◌∙◌, subst, arith}
use Rattle.gap_box.specs.declared.cell.Cell.{Cell}
use Rattle.gap_model.specs.Settings.{Setting}
use Rattle.gap_model.specs.Leaves.{IsPoint}
use Rattle.gap_tangent.specs.Seen.{setting_of}
use Rattle.gap_tangent.specs.Points.{PointValue}
use Rattle.gap_tangent.proofs.ShownLaws.{root_count}
use Rattle.gap_witness.specs.Points.{Choice, choice_of, first_point, next, rounds, point}
use Rattle.gap_witness.specs.Frames.{setting_in, choice_in}
use Rattle.gap_witness.proofs.VoidLaws.{first_point_in_range}
use Rattle.gap_witness.proofs.pointing.kept_tangent_point.Goals as goal

pub frame_of-frame-requires : goal.frame_of-frame-requires
frame_of-frame-requires c =
    let b = c.args.mv.now in
    c.requires.within.same_length ∙ root_count (setting_of b).instance b.setting.instance_is

pub at-requires : goal.at-requires
at-requires c =
    let b = c.args.mv.now in
    let s = setting_of b in
    let part = c.args.part.now in
    let hint = c.args.hint.now in
    let n = c.requires.within.same_length ∙ root_count s.instance b.setting.instance_is in
    let e = c.balanced_point-first.ensures.value ∙ (ap (λ (t : Setting). first_point t (choice_in c.frame_of-frame.result) hint) c.frame_of-frame.ensures.setting ∙ ap (λ (o : Choice). first_point s o hint) c.frame_of-frame.ensures.choice) in
    subst (IsPoint s.instance) (sym e) (first_point_in_range s part hint n c.len-cells.ensures.valid b.setting.instance_is.limits_are.held_range c.requires.has)

walked_is : (r at : PointValue) (s t : Setting) (o k : Choice) (cells part : List Cell) (first hint : List ℕ) → r ≡ record { setting = t; eighths = rounds (8 * length cells) (next t k) at.eighths } → t ≡ s → k ≡ o → cells ≡ part → at.eighths ≡ first → first ≡ first_point s o hint → r ≡ record { setting = s; eighths = rounds (8 * length part) (next s o) (first_point s o hint) }
walked_is r at s t o k cells part first hint e f g h a b =
    e
    ∙ (ap (λ (z : Setting). record { setting = z; eighths = rounds (8 * length cells) (next z k) at.eighths }) f
    ∙ (ap (λ (z : Choice). record { setting = s; eighths = rounds (8 * length cells) (next s z) at.eighths }) g
    ∙ (ap (λ (z : List Cell). record { setting = s; eighths = rounds (8 * length z) (next s o) at.eighths }) h
    ∙ ap (λ (z : List ℕ). record { setting = s; eighths = rounds (8 * length part) (next s o) z }) (a ∙ b))))

pub returns : goal.returns
unfolding point
returns c =
    let b = c.args.mv.now in
    let s = setting_of b in
    let part = c.args.part.now in
    let hint = c.args.hint.now in
    let f = c.frame_of-frame in
    let e = c.balanced_point-first.ensures.value ∙ (ap (λ (t : Setting). first_point t (choice_in f.result) hint) f.ensures.setting ∙ ap (λ (o : Choice). first_point s o hint) f.ensures.choice) in
    walked_is c.walked.result c.at.result s (setting_in f.result) (choice_of s part) (choice_in f.result) f.result.part.now part c.balanced_point-first.result hint c.walked.ensures f.ensures.setting f.ensures.choice f.ensures.part (ap (λ (p : PointValue). p.eighths) c.at.ensures) e
