use Rattle.gap_start.proofs.PlainLaws.{gives_plain, some_gives}
use Rattle.gap_start.proofs.plain.plain_gives.Goals as goal

pub returns-clause-each : goal.returns-clause-each
returns-clause-each c plain by order is = gives_plain c.args.inst.now c.args.w.p c.args.w.q by order c.n-assets.ensures.instance plain is

pub returns-clause-some : goal.returns-clause-some
returns-clause-some c plain = some_gives c.args.inst.now c.args.w.p c.args.w.q _ c.order-order.result c.n-assets.ensures.instance plain c.order-order.ensures
