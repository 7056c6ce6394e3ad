use Rattle.gap_top.proofs.HeadlineLaws.{headline_done, headline_stopped}
use Rattle.gap_top.proofs.laws.headline_holds.Goals as goal

pub returns-clause-done : goal.returns-clause-done
returns-clause-done c = headline_done

pub returns-clause-stopped : goal.returns-clause-stopped
returns-clause-stopped c = headline_stopped
