use Rattle.std.proofs.Common.{◌≡◌, refl, sym, ap, ◌∙◌, true, false}
use Rattle.gap_box.specs.Parts.{can_meet}
use Rattle.gap_model.specs.declared.shown.Shown.TheVariants.{Empty}
use Rattle.gap_cert.specs.Certificates.{count, void, tangent}
use Rattle.gap_model.specs.Theta.{void_theta}
use Rattle.gap_judge.specs.Progress.{first_part, setting_now, shown_next}
use Rattle.gap_judge.specs.Courses.{progress_at}
use Rattle.gap_judge.specs.Stops.{IsLastStop, IsLeafStop, IsBasisOf}
use Rattle.gap_judge.proofs.JudgeLaws.{on_ok, if_err, count_stop, count_empty, void_by_basis, void_stop, void_empty, shown_by_basis, leaf_right, leaf_stop, behind_same, sound_for, next_within, tangent_shown_some}
use Rattle.gap_judge.proofs.leaf.take_count.Goals as goal

pub returns-then-meets_count-clause-fault : goal.returns-then-meets_count-clause-fault
returns-then-meets_count-clause-fault c =
    let I = c.args.basis.now.instance in
    let S = c.args.basis.now.shift in
    let root = c.args.basis.now.root in
    let p = progress_at c.args.head.now c.args.course.now in
    let met : can_meet (first_part p.parts) I.held I.held_most ≡ true = rw (sym c.next_part.ensures) (sym c.meets_count.ensures ∙ c.if-meets_count.true) in
    rw c.fault.ensures (count_stop I S root p c.args.place c.args.behind c.requires.basis met)

pub returns-clause-ok : goal.returns-clause-ok
returns-clause-ok c =
    let I = c.args.basis.now.instance in
    let S = c.args.basis.now.shift in
    let root = c.args.basis.now.root in
    let p = progress_at c.args.head.now c.args.course.now in
    let met : can_meet (first_part p.parts) I.held I.held_most ≡ false = rw (sym c.next_part.ensures) (sym c.meets_count.ensures ∙ c.if-meets_count.false) in
    let e : Empty ≡ shown_next p count = sym (count_empty I S root p c.requires.basis met) in
    on_ok c.pass.result (behind_same p (progress_at c.args.head.now c.pass.new.course) count Empty e) c.pass.ensures.ok

pub returns-clause-right : goal.returns-clause-right
returns-clause-right c =
    let I = c.args.basis.now.instance in
    let S = c.args.basis.now.shift in
    let root = c.args.basis.now.root in
    let p = progress_at c.args.head.now c.args.course.now in
    let met : can_meet (first_part p.parts) I.held I.held_most ≡ false = rw (sym c.next_part.ensures) (sym c.meets_count.ensures ∙ c.if-meets_count.false) in
    let e : Empty ≡ shown_next p count = sym (count_empty I S root p c.requires.basis met) in
    on_ok c.pass.result (leaf_right p count Empty e (λ h. refl)) c.pass.ensures.ends

pub returns-clause-fault : goal.returns-clause-fault
returns-clause-fault c =
    let I = c.args.basis.now.instance in
    let S = c.args.basis.now.shift in
    let root = c.args.basis.now.root in
    let p = progress_at c.args.head.now c.args.course.now in
    let met : can_meet (first_part p.parts) I.held I.held_most ≡ false = rw (sym c.next_part.ensures) (sym c.meets_count.ensures ∙ c.if-meets_count.false) in
    let e : Empty ≡ shown_next p count = sym (count_empty I S root p c.requires.basis met) in
    if_err (IsLastStop p Empty c.args.behind) (IsLeafStop p count c.args.place c.args.behind) c.pass.result (λ stop. leaf_stop p count Empty c.args.place c.args.behind stop e (λ h. refl)) c.pass.ensures.fault
