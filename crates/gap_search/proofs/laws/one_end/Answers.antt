use Rattle.gap_search.proofs.EndLaws.{one_end}
use Rattle.gap_search.proofs.laws.one_end.Goals as goal

pub returns : goal.returns
returns g c = λ bound board one two e f. one_end (g.B.NodeBound.problem bound) board one two e f
