use Rattle.std.proofs.Common.{refl}
use Rattle.gap_judge.proofs.JudgeLaws.{sound_for, multipliers_for}
use Rattle.gap_judge.proofs.items.take_overall.Goals as goal

pub tangent_shown-course-requires-clause-sound : goal.tangent_shown-course-requires-clause-sound
tangent_shown-course-requires-clause-sound c = sound_for c.args.head.now c.args.basis.now.instance c.args.basis.now.shift c.args.basis.now.root c.args.course.now.weight c.requires.basis c.requires.begun.weight_is

pub tangent_shown-course-requires-clause-multipliers : goal.tangent_shown-course-requires-clause-multipliers
tangent_shown-course-requires-clause-multipliers c = multipliers_for c.args.head.now c.args.basis.now.instance c.args.basis.now.shift c.args.basis.now.root c.in-Some.w c.requires.basis (c.requires.ranges c.in-Some.w c.in-Some.is)
