use Rattle.std.proofs.Common.{◌≡◌, refl, sym, ap, ◌∙◌, true, false}
use Rattle.std.proofs.lemmas.Int.{to_z-of_z}
use Rattle.gap_box.specs.Parts.{can_meet}
use Rattle.gap_model.specs.declared.shown.Shown.TheVariants.{Empty}
use Rattle.gap_cert.specs.Certificates.{count, void, tangent}
use Rattle.gap_model.specs.Theta.{void_theta}
use Rattle.gap_tangent.specs.Bounds.{setting_with}
use Rattle.gap_judge.specs.Progress.{first_part, setting_now, shown_next}
use Rattle.gap_judge.specs.Courses.{progress_at}
use Rattle.gap_judge.specs.Stops.{IsLastStop, IsLeafStop, IsBasisOf}
use Rattle.gap_judge.proofs.JudgeLaws.{on_ok, if_err, count_stop, count_empty, void_by_basis, void_stop, void_empty, shown_by_basis, leaf_right, leaf_stop, behind_same, sound_for, next_within, tangent_shown_some}
use Rattle.gap_judge.proofs.leaf.take_void.Goals as goal

pub void_theta_at-theta-requires-clause-sound : goal.void_theta_at-theta-requires-clause-sound
void_theta_at-theta-requires-clause-sound c = sound_for c.args.head.now c.args.basis.now.instance c.args.basis.now.shift c.args.basis.now.root c.args.course.now.weight c.requires.basis c.requires.due.node.begun.weight_is

pub void_theta_at-theta-requires-clause-within : goal.void_theta_at-theta-requires-clause-within
void_theta_at-theta-requires-clause-within c =
    let I = c.args.basis.now.instance in
    let S = c.args.basis.now.shift in
    let root = c.args.basis.now.root in
    let p = progress_at c.args.head.now c.args.course.now in
    rw c.next_part.ensures (next_within I S root p c.requires.basis c.requires.due.node)

pub returns-clause-ok : goal.returns-clause-ok
returns-clause-ok c =
    let I = c.args.basis.now.instance in
    let S = c.args.basis.now.shift in
    let root = c.args.basis.now.root in
    let p = progress_at c.args.head.now c.args.course.now in
    let fa = c.ranges.alpha in
    let fu = c.ranges.tau in
    let v = simp to_z-of_z at c.void_theta_at-theta.ensures in
    let theta : void_theta (setting_now p) (first_part p.parts) c.args.alpha c.args.tau ≡ c.void_theta_at-theta.result = sym (v ∙ ap (λ k. void_theta (setting_with I S p.weight) k c.args.alpha c.args.tau) c.next_part.ensures ∙ void_by_basis I S root p c.args.alpha c.args.tau c.requires.basis) in
    let e : Empty ≡ shown_next p (void c.args.alpha c.args.tau) = sym (void_empty p c.args.alpha c.args.tau c.void_theta_at-theta.result theta c.in_default.ensures.none) in
    on_ok c.pass.result (behind_same p (progress_at c.args.head.now c.pass.new.course) (void c.args.alpha c.args.tau) Empty e) c.pass.ensures.ok

pub returns-clause-right : goal.returns-clause-right
returns-clause-right c =
    let I = c.args.basis.now.instance in
    let S = c.args.basis.now.shift in
    let root = c.args.basis.now.root in
    let p = progress_at c.args.head.now c.args.course.now in
    let fa = c.ranges.alpha in
    let fu = c.ranges.tau in
    let v = simp to_z-of_z at c.void_theta_at-theta.ensures in
    let theta : void_theta (setting_now p) (first_part p.parts) c.args.alpha c.args.tau ≡ c.void_theta_at-theta.result = sym (v ∙ ap (λ k. void_theta (setting_with I S p.weight) k c.args.alpha c.args.tau) c.next_part.ensures ∙ void_by_basis I S root p c.args.alpha c.args.tau c.requires.basis) in
    let e : Empty ≡ shown_next p (void c.args.alpha c.args.tau) = sym (void_empty p c.args.alpha c.args.tau c.void_theta_at-theta.result theta c.in_default.ensures.none) in
    on_ok c.pass.result (leaf_right p (void c.args.alpha c.args.tau) Empty e (λ h. refl)) c.pass.ensures.ends

pub returns-clause-fault : goal.returns-clause-fault
returns-clause-fault c =
    let I = c.args.basis.now.instance in
    let S = c.args.basis.now.shift in
    let root = c.args.basis.now.root in
    let p = progress_at c.args.head.now c.args.course.now in
    let fa = c.ranges.alpha in
    let fu = c.ranges.tau in
    let v = simp to_z-of_z at c.void_theta_at-theta.ensures in
    let theta : void_theta (setting_now p) (first_part p.parts) c.args.alpha c.args.tau ≡ c.void_theta_at-theta.result = sym (v ∙ ap (λ k. void_theta (setting_with I S p.weight) k c.args.alpha c.args.tau) c.next_part.ensures ∙ void_by_basis I S root p c.args.alpha c.args.tau c.requires.basis) in
    let e : Empty ≡ shown_next p (void c.args.alpha c.args.tau) = sym (void_empty p c.args.alpha c.args.tau c.void_theta_at-theta.result theta c.in_default.ensures.none) in
    if_err (IsLastStop p Empty c.args.behind) (IsLeafStop p (void c.args.alpha c.args.tau) c.args.place c.args.behind) c.pass.result (λ stop. leaf_stop p (void c.args.alpha c.args.tau) Empty c.args.place c.args.behind stop e (λ h. refl)) c.pass.ensures.fault
