use Rattle.std.proofs.Common.{◌≤◌, inl, refl, arith}
use Rattle.gap_start.proofs.FillLaws.{brought_none, brought_more, brought_stuck, stuck_none}
use Rattle.gap_start.proofs.fill.bring.Goals as goal

pub loop-lot-init : goal.loop-lot-init
loop-lot-init c = record {
  instance_is = refl;
  weight_is = refl;
  brought = brought_none c.args.h.now.instance c.args.h.now.weight.p c.args.h.now.weight.q c.args.marks.now c.args.up c.args.h.now.lots;
}

pub returns-in-None-clause-brought : goal.returns-in-None-clause-brought
returns-in-None-clause-brought c =
    let same = c.loop-lot.invariant.instance_is in
    let h = c.args.h.now in
    let none = rw same at c.in-None.ensures.change in
    let more : c.loop-lot.lot ≤ c.args.missing = omega arith in
    brought_stuck h.instance h.weight.p h.weight.q c.args.marks.now c.args.up c.loop-lot.lot c.args.missing h.lots c.loop-lot.h.lots c.loop-lot.invariant.brought (stuck_none h.instance c.args.marks.now c.loop-lot.h.lots c.args.up none) more

pub loop-lot-preserved : goal.loop-lot-preserved
loop-lot-preserved c =
    let same = c.loop-lot.invariant.instance_is in
    let weight = c.loop-lot.invariant.weight_is in
    let h = c.args.h.now in
    let best = rw (same, weight) at c.in-Some.ensures.change in
    rw (c.put.ensures, c.changed-lots.ensures.value) (record {
      instance_is = same;
      weight_is = weight;
      brought = brought_more h.instance h.weight.p h.weight.q c.args.marks.now c.args.up c.loop-lot.lot h.lots c.loop-lot.h.lots _ c.loop-lot.invariant.brought (inl (c.in-Some.change.asset, best.0, refl));
    })
