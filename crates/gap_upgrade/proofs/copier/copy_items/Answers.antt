use Rattle.std.proofs.Common.{Bool, Ok, subst}
use Rattle.gap_upgrade.specs.Copying.{Steps}
use Rattle.gap_upgrade.proofs.copier.copy_items.Goals as goal

pub returns-then-not-branch-clause-writes : goal.returns-then-not-branch-clause-writes
returns-then-not-branch-clause-writes c = λ fed gone h.
    subst (λ (b : Bool). Steps (Ok b) fed gone c.copy_item.new.scanner c.copy_item.new.writer) c.if-not-branch.true (c.in_ok-copy_item.ensures.steps fed gone (c.loop-turn.invariant.written fed gone h))
