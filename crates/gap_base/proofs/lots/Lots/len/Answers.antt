use Rattle.std.proofs.Common.{lit<}
use Rattle.gap_base.proofs.ListLaws.{small-take}
use Rattle.gap_base.proofs.lots.Lots.len.Goals as goal

pub returns-clause-small : goal.returns-clause-small
returns-clause-small c = rw (← c.self.view_is) (small-take _ _ _ (lit< tt) (c.self.invariant.2))
