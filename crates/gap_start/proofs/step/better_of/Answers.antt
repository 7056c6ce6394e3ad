use Rattle.gap_start.proofs.StepLaws.{NoneBelow-flat, IsFoundBy-low}
use Rattle.gap_start.proofs.step.better_of.Goals as goal

pub returns-else-may_fall-clause-none : goal.returns-else-may_fall-clause-none
returns-else-may_fall-clause-none c =
    let h = c.args.h.now in
    let low = IsFoundBy-low h.instance h.weight.p h.weight.q h.lots c.args.before.value c.args.before.step c.requires.before in
    NoneBelow-flat h.instance h.weight.p h.weight.q h.lots c.args.before.value c.args.kind c.args.i c.args.j low (c.may_fall.ensures.stays c.if-may_fall.false)
