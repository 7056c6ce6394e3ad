use Rattle.gap_objective.proofs.CountLaws.{turnover_put_two}
use Rattle.gap_objective.proofs.holding.Holding.turnover_with.Goals as goal

pub returns : goal.returns
returns c =
    let h = c.args.self.now in
    let once = rw (c.present.ensures.value, c.get.ensures.or_zero, c.instance-inst.ensures, c.lots-lots.ensures.value) at c.turnover_after-once.ensures.value in
    let twice = rw (c.present-2.ensures.value, c.get-2.ensures.or_zero, c.instance-inst.ensures, c.lots-lots.ensures.value) at c.turnover_after.ensures.value in
    turnover_put_two h.instance.market.assets c.args.i c.args.j c.args.given c.args.taken c.turnover_after-once.result c.turnover_after.result c.turnover.result h.instance.present h.lots c.requires.first c.requires.second c.requires.other c.lots-lots.ensures.lots.count c.turnover.ensures.value once twice
