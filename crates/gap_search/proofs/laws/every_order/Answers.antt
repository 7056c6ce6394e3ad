use Rattle.gap_search.proofs.BoardLaws.{sound_run}
use Rattle.gap_search.proofs.StayLaws.{stays_run}
use Rattle.gap_search.proofs.CoverLaws.{never_lower, never_worse}
use Rattle.gap_search.proofs.laws.every_order.Goals as goal

pub returns-clause-sound : goal.returns-clause-sound
returns-clause-sound g c = λ bound old new events h r. sound_run (g.B.NodeBound.problem bound) old events new h r

pub returns-clause-never_lower : goal.returns-clause-never_lower
returns-clause-never_lower g c = λ bound old new events least h r k. never_lower (g.B.NodeBound.problem bound) old events new least h r k

pub returns-clause-never_worse : goal.returns-clause-never_worse
returns-clause-never_worse g c = λ bound old new events value r k. never_worse (g.B.NodeBound.problem bound) old events new value r k

pub returns-clause-stays : goal.returns-clause-stays
returns-clause-stays g c = λ bound old new events h r. stays_run (g.B.NodeBound.problem bound) old events new h r
