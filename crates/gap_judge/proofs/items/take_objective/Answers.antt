use Rattle.gap_judge.proofs.JudgeLaws.{lots_there}
use Rattle.gap_judge.proofs.items.take_objective.Goals as goal

pub best_of-requires : goal.best_of-requires
best_of-requires c = lots_there c.args.head.now c.args.course.now.lots c.requires.basis.head_is c.requires.meets
