use Rattle.gap_upgrade.proofs.ItemLaws.{written_none}
use Rattle.gap_upgrade.proofs.copier.Copier.new.Goals as goal

pub returns-clause-copied : goal.returns-clause-copied
returns-clause-copied c = rw c.new-2.ensures (rw c.new-3.ensures (record { read = c.new.ensures; all = written_none }))
