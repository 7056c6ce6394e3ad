use Rattle.gap_witness.proofs.CutLaws.{widest_open, cut_is, cut_is_lawful}
use Rattle.gap_witness.proofs.splitting.split_for.Goals as goal

pub returns-in-Some-clause-split : goal.returns-in-Some-clause-split
returns-in-Some-clause-split c = c.unsettled.ensures.some c.in-Some.i c.in-Some.is

pub returns-in-Some-clause-lawful : goal.returns-in-Some-clause-lawful
returns-in-Some-clause-lawful c = (c.unsettled.ensures.some c.in-Some.i c.in-Some.is).1.allowed

pub returns-in-Some-clause-cuts : goal.returns-in-Some-clause-cuts
returns-in-Some-clause-cuts c = let e = c.unsettled.ensures.some c.in-Some.i c.in-Some.is in (e.1.allowed, e.0)

pub returns-in-None-clause-split : goal.returns-in-None-clause-split
returns-in-None-clause-split c =
    (c.unsettled.ensures.none c.in-None.is, c.widest-i.ensures.widest, cut_is c.args.part.now c.args.y.now c.widest-i.result c.cell.result c.get.result c.cut_of.result c.cut_of.ensures c.cell.ensures.or_out c.get.ensures.or_zero)

pub returns-in-None-clause-lawful : goal.returns-in-None-clause-lawful
returns-in-None-clause-lawful c =
    let w = widest_open c.args.part.now c.args.k1 c.args.k2 c.widest-i.result c.len-cells.ensures.valid c.requires.range c.requires.counted (c.unsettled.ensures.none c.in-None.is) c.requires.several c.widest-i.ensures.widest in
    cut_is_lawful c.args.part.now c.args.y.now c.widest-i.result c.cut_of.result (cut_is c.args.part.now c.args.y.now c.widest-i.result c.cell.result c.get.result c.cut_of.result c.cut_of.ensures c.cell.ensures.or_out c.get.ensures.or_zero) w

pub returns-in-None-clause-cuts : goal.returns-in-None-clause-cuts
returns-in-None-clause-cuts c =
    let s = c.unsettled.ensures.none c.in-None.is in
    let w = widest_open c.args.part.now c.args.k1 c.args.k2 c.widest-i.result c.len-cells.ensures.valid c.requires.range c.requires.counted s c.requires.several c.widest-i.ensures.widest in
    (cut_is_lawful c.args.part.now c.args.y.now c.widest-i.result c.cut_of.result (cut_is c.args.part.now c.args.y.now c.widest-i.result c.cell.result c.get.result c.cut_of.result c.cut_of.ensures c.cell.ensures.or_out c.get.ensures.or_zero) w, s, c.widest-i.ensures.widest)
