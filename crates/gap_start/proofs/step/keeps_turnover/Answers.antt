use Rattle.gap_start.proofs.StepLaws.{within_stepped, free_stepped}
use Rattle.gap_start.proofs.step.keeps_turnover.Goals as goal

pub returns-in-Some : goal.returns-in-Some
returns-in-Some c =
    let h = c.args.h.now in
    let is = rw c.instance.ensures at c.in-Some.ensures.value in
    within_stepped h.instance h.lots c.args.kind c.args.i c.args.j c.in-Some.most c.turnover_after.result c.lots-lots.ensures.instance c.requires.meets c.requires.taker c.requires.room is c.turnover_after.ensures

pub returns-in-None : goal.returns-in-None
returns-in-None c =
    let h = c.args.h.now in
    let is = rw c.instance.ensures at c.in-None.ensures.value in
    free_stepped h.instance h.lots c.args.kind c.args.i c.args.j c.lots-lots.ensures.instance c.requires.meets c.requires.taker c.requires.room is
