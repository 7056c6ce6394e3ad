use Rattle.std.proofs.Common.{refl}
use Rattle.gap_valid.proofs.HeadLaws.{pairs_next, pairs_row, rows_next, rows_row}
use Rattle.gap_valid.proofs.laws.entries_stand_in_order.Goals as goal

pub returns-clause-pairs_first : goal.returns-clause-pairs_first
returns-clause-pairs_first c = λ n. refl

pub returns-clause-pairs_next : goal.returns-clause-pairs_next
returns-clause-pairs_next c = pairs_next

pub returns-clause-pairs_row : goal.returns-clause-pairs_row
returns-clause-pairs_row c = pairs_row

pub returns-clause-rows_first : goal.returns-clause-rows_first
returns-clause-rows_first c = refl

pub returns-clause-rows_next : goal.returns-clause-rows_next
returns-clause-rows_next c = rows_next

pub returns-clause-rows_row : goal.returns-clause-rows_row
returns-clause-rows_row c = rows_row
