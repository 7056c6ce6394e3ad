use Rattle.std.proofs.Common.{◌≡◌, refl, sym, ap, ◌∙◌, true, false}
use Rattle.gap_box.specs.Parts.{can_meet}
use Rattle.gap_model.specs.declared.shown.Shown.TheVariants.{Empty}
use Rattle.gap_cert.specs.Certificates.{count, void, tangent}
use Rattle.gap_model.specs.Theta.{void_theta}
use Rattle.gap_judge.specs.Progress.{first_part, setting_now, shown_next}
use Rattle.gap_judge.specs.Courses.{progress_at}
use Rattle.gap_judge.specs.Stops.{IsLastStop, IsLeafStop, IsBasisOf}
use Rattle.gap_judge.proofs.JudgeLaws.{on_ok, if_err, count_stop, count_empty, void_by_basis, void_stop, void_empty, shown_by_basis, leaf_right, leaf_stop, behind_same, sound_for, next_within, tangent_shown_some}
use Rattle.gap_judge.proofs.leaf.take_tangent.Goals as goal

pub tangent_shown-shown-requires-clause-sound : goal.tangent_shown-shown-requires-clause-sound
tangent_shown-shown-requires-clause-sound c = sound_for c.args.head.now c.args.basis.now.instance c.args.basis.now.shift c.args.basis.now.root c.args.course.now.weight c.requires.basis c.requires.due.node.begun.weight_is

pub pass-requires-clause-shows : goal.pass-requires-clause-shows
pass-requires-clause-shows c = tangent_shown_some c.args.basis.now.instance c.args.basis.now.shift c.args.course.now.weight c.next_part.result.now c.args.w.now c.tangent_shown-shown.result c.tangent_shown-shown.ensures.shown
