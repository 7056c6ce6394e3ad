use Rattle.gap_sweep.proofs.RowLaws.{ranks_rows}
use Rattle.gap_sweep.proofs.laws.rows_are_ranked.Goals as goal

pub returns : goal.returns
returns c = ranks_rows
