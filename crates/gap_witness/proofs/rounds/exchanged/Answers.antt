use Rattle.std.proofs.Common.{◌≡◌, ℕ, List, Some, slice_index_or, ℤ, pos, ◌-ℤ◌, ◌*ℤ◌, ◌≤ℤ◌, ◌<ℤ◌, unsigned_abs, FitsSigned, ap, ◌∙◌, subst, arith}
use Rattle.std.specs.Int.{w128}
use Rattle.std.proofs.lemmas.Int.{to_z-of_z}
use Rattle.gap_base.specs.Sums.{at}
use Rattle.gap_model.specs.Settings.{Setting}
use Rattle.gap_lines.proofs.Sizes.{not_above, above_not}
use Rattle.gap_witness.specs.Points.{Choice, lower_end, upper_end, gradient, curvature, room_between, step_of, step_between, shifted_by}
use Rattle.gap_witness.specs.Frames.{setting_in, choice_in}
use Rattle.gap_witness.proofs.RoundLaws.{ends_level, ends_idle, goes_on, not_over, over, level_of, apart_of, size_of, upper_small, given_small}
use Rattle.gap_witness.proofs.rounds.exchanged.Goals as goal

step_is : (s : Setting) (o : Choice) (y : List ℕ) (i j room ua ub t : ℕ) (g cv : ℤ) → t ≡ step_of room ua ub → room ≡ room_between o y i j → ua ≡ unsigned_abs (gradient s o y i -ℤ gradient s o y j) → ub ≡ unsigned_abs (curvature s i j) → t ≡ step_between s o y i j
step_is s o y i j room ua ub t g cv e r a b = e ∙ ap (λ (m : ℕ). step_of m ua ub) r ∙ ap (λ (m : ℕ). step_of (room_between o y i j) m ub) a ∙ ap (λ (m : ℕ). step_of (room_between o y i j) (unsigned_abs (gradient s o y i -ℤ gradient s o y j)) m) b

drop_is : (s : Setting) (o : Choice) (y : List ℕ) (i j : ℕ) (d cv : ℤ) (t : ℕ) → d ≡ cv *ℤ pos t → cv ≡ curvature s i j → t ≡ step_between s o y i j → d ≡ curvature s i j *ℤ pos (step_between s o y i j)
drop_is s o y i j d cv t e f h = e ∙ ap (λ (z : ℤ). z *ℤ pos t) f ∙ ap (λ (m : ℕ). curvature s i j *ℤ pos m) h

pub returns-then-gap-le0-clause-value : goal.returns-then-gap-le0-clause-value
returns-then-gap-le0-clause-value c =
    let f = c.args.frame.now in
    let s = setting_in f in
    let o = choice_in f in
    let y = c.args.y.now in
    let i = c.args.i in
    let j = c.args.j in
    let fg : FitsSigned w128 c.args.gap = c.ranges.gap in
    let eg = c.requires.gap in
    ends_level s o y i j (level_of c.args.gap _ _ eg (not_over c.args.gap fg c.if-gap-le0.true))

pub returns-then-gap-drop_of-clause-value : goal.returns-then-gap-drop_of-clause-value
returns-then-gap-drop_of-clause-value c =
    let f = c.args.frame.now in
    let s = setting_in f in
    let o = choice_in f in
    let y = c.args.y.now in
    let i = c.args.i in
    let j = c.args.j in
    let fg : FitsSigned w128 c.args.gap = c.ranges.gap in
    let eg = c.requires.gap in
    let fc : FitsSigned w128 c.curvature_of-curve.result = record { sfits = c.curvature_of-curve.type_inv } in
    let fd : FitsSigned w128 c.drop_of.result = record { sfits = c.drop_of.type_inv } in
    let ua = size_of c.unsigned_abs.result c.args.gap fg c.unsigned_abs.ensures.value in
    let ub = size_of c.unsigned_abs-2.result c.curvature_of-curve.result fc c.unsigned_abs-2.ensures.value in
    let es = step_is s o y i j c.room_of-room.result c.unsigned_abs.result c.unsigned_abs-2.result c.step_by-step.result c.args.gap c.curvature_of-curve.result c.step_by-step.ensures.value c.room_of-room.ensures.value (ua ∙ ap unsigned_abs eg) (ub ∙ ap unsigned_abs c.curvature_of-curve.ensures.value) in
    let ed = drop_is s o y i j c.drop_of.result c.curvature_of-curve.result c.step_by-step.result (c.drop_of.ensures.value ∙ ap (λ (z : ℤ). z *ℤ pos c.step_by-step.result) (to_z-of_z w128 c.curvature_of-curve.result fc)) c.curvature_of-curve.ensures.value es in
    ends_idle s o y i j (subst (λ (z : ℤ). z ≤ℤ (curvature s i j *ℤ pos (step_between s o y i j))) eg (subst (λ (z : ℤ). c.args.gap ≤ℤ z) ed (not_above c.args.gap c.drop_of.result fg fd c.if-gap-drop_of.true)))

pub returns-clause-value : goal.returns-clause-value
returns-clause-value c =
    let f = c.args.frame.now in
    let s = setting_in f in
    let o = choice_in f in
    let y = c.args.y.now in
    let i = c.args.i in
    let j = c.args.j in
    let fg : FitsSigned w128 c.args.gap = c.ranges.gap in
    let eg = c.requires.gap in
    let fc : FitsSigned w128 c.curvature_of-curve.result = record { sfits = c.curvature_of-curve.type_inv } in
    let fd : FitsSigned w128 c.drop_of.result = record { sfits = c.drop_of.type_inv } in
    let ua = size_of c.unsigned_abs.result c.args.gap fg c.unsigned_abs.ensures.value in
    let ub = size_of c.unsigned_abs-2.result c.curvature_of-curve.result fc c.unsigned_abs-2.ensures.value in
    let es = step_is s o y i j c.room_of-room.result c.unsigned_abs.result c.unsigned_abs-2.result c.step_by-step.result c.args.gap c.curvature_of-curve.result c.step_by-step.ensures.value c.room_of-room.ensures.value (ua ∙ ap unsigned_abs eg) (ub ∙ ap unsigned_abs c.curvature_of-curve.ensures.value) in
    let ed = drop_is s o y i j c.drop_of.result c.curvature_of-curve.result c.step_by-step.result (c.drop_of.ensures.value ∙ ap (λ (z : ℤ). z *ℤ pos c.step_by-step.result) (to_z-of_z w128 c.curvature_of-curve.result fc)) c.curvature_of-curve.ensures.value es in
    ap (λ (t : ℕ). Some (shifted_by y t i j)) es
    ∙ goes_on s o y i j (apart_of c.args.gap _ _ eg (over c.args.gap fg c.if-gap-le0.false))
    (subst (λ (z : ℤ). (curvature s i j *ℤ pos (step_between s o y i j)) <ℤ z) eg (subst (λ (z : ℤ). z <ℤ c.args.gap) ed (above_not c.args.gap c.drop_of.result fg fd c.if-gap-drop_of.false)))

pub returns-clause-enough : goal.returns-clause-enough
returns-clause-enough c =
    let o = choice_in c.args.frame.now in
    (given_small (lower_end o c.args.i) (slice_index_or c.args.y.now c.args.i 0) (slice_index_or c.args.y.now c.args.j 0) (upper_end o c.args.j) c.step_by-step.result c.room_of-room.result c.requires.gives c.requires.takes (upper_small o c.args.j c.len-assets.ensures.valid) c.room_of-room.ensures.value c.step_by-step.ensures.most).1
