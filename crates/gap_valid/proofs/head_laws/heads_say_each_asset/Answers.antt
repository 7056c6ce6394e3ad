use Rattle.gap_valid.specs.Heads.{instance_in}
use Rattle.gap_valid.proofs.HeadLaws.{pair_rho, turned_rho}
use Rattle.gap_valid.proofs.HeadOfLaws.{line_read}
use Rattle.gap_valid.proofs.head_laws.heads_say_each_asset.Goals as goal

pub returns-clause-asset : goal.returns-clause-asset
returns-clause-asset c = line_read

pub returns-clause-pair : goal.returns-clause-pair
unfolding instance_in
returns-clause-pair c = pair_rho

pub returns-clause-turned : goal.returns-clause-turned
unfolding instance_in
returns-clause-turned c = turned_rho
