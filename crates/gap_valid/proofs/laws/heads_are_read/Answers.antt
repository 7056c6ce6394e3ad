use Rattle.gap_valid.proofs.HeadLaws.{instance_is, shift_is, pair_rho, turned_rho, row_r}
use Rattle.gap_valid.proofs.laws.heads_are_read.Goals as goal

pub returns-clause-instance : goal.returns-clause-instance
returns-clause-instance c = instance_is

pub returns-clause-shift : goal.returns-clause-shift
returns-clause-shift c = shift_is

pub returns-clause-pairs : goal.returns-clause-pairs
returns-clause-pairs c = pair_rho

pub returns-clause-turned : goal.returns-clause-turned
returns-clause-turned c = turned_rho

pub returns-clause-rows : goal.returns-clause-rows
returns-clause-rows c = row_r
