use Rattle.gap_start.proofs.StartLaws.{meets_brought, first_within, within_between}
use Rattle.gap_start.proofs.starting.finished.Goals as goal

pub brought-holding-requires-clause-first : goal.brought-holding-requires-clause-first
brought-holding-requires-clause-first c = within_between c.args.inst.now c.args.marks.now c.args.first.now c.requires.marks.known (first_within c.args.inst.now c.args.marks.now c.args.first.now c.requires.marks c.requires.first)

pub polish-requires : goal.polish-requires
polish-requires c = rw c.brought-holding.ensures.instance (meets_brought c.args.inst.now c.args.w.p c.args.w.q c.args.marks.now c.args.first.now c.brought-holding.result.lots c.requires.marks c.requires.first c.requires.gives c.brought-holding.ensures.brought)

pub returns-clause-given : goal.returns-clause-given
returns-clause-given c =
    let better = rw (c.brought-holding.ensures.instance, c.brought-holding.ensures.weight) at c.polish.ensures.better in
    (c.brought-holding.result.lots, c.brought-holding.ensures.brought, rw (c.copy.ensures, c.lots.ensures.value) better)
