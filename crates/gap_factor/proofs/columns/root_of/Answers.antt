use Rattle.std.proofs.lemmas.Int.{to_z-of_z}
use Rattle.gap_factor.proofs.RootLaws.{root_is, root_above}
use Rattle.gap_factor.proofs.columns.root_of.Goals as goal

pub returns-clause-value : goal.returns-clause-value
returns-clause-value c = let fits = c.ranges.pivot in let root = simp to_z-of_z at c.isqrt.ensures in root_is c.args.pivot c.isqrt.result c.requires.small root

pub returns-clause-positive : goal.returns-clause-positive
returns-clause-positive c = let fits = c.ranges.pivot in let root = simp to_z-of_z at c.isqrt.ensures in root_above c.args.pivot c.isqrt.result c.requires.positive c.requires.small root
