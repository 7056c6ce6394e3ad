use Rattle.std.proofs.Common.{◌≡◌, ◌≤◌, ◌∙◌, slice_index_or, refl, arith}
use Rattle.gap_start.proofs.RoundingLaws.{chosen_begun, chosen_more, chosen_full, chosen_none, chosen_enough}
use Rattle.gap_start.proofs.rounding.chosen.Goals as goal

pub loop-held-init : goal.loop-held-init
loop-held-init c = rw c.held_cells-held.ensures.count (chosen_begun c.args.inst.now c.args.part.now c.args.y.now c.musts-marks.result c.requires.cells c.musts-marks.ensures.musts)

pub returns-then-are_enough : goal.returns-then-are_enough
returns-then-are_enough c =
    let enough = c.if-are_enough.ensures.0 refl in
    let none : slice_index_or c.args.y.now c.in-Some.i 0 ≡ 0 = let a = c.get.ensures.or_zero in let b = enough.1 in omega arith in
    record { chosen = chosen_enough c.args.inst.now c.args.part.now c.args.y.now c.loop-held.marks c.loop-held.held c.in-Some.i c.requires.cells c.loop-held.invariant c.in-Some.ensures enough.0 none }

pub returns-in-None : goal.returns-in-None
returns-in-None c = record { chosen = chosen_none c.args.inst.now c.args.part.now c.args.y.now c.loop-held.marks c.loop-held.held c.requires.cells c.loop-held.invariant c.in-None.ensures }

pub loop-held-preserved : goal.loop-held-preserved
loop-held-preserved c =
    let more : c.args.inst.now.held ≤ c.loop-held.held → slice_index_or c.args.y.now c.in-Some.i 0 ≡ 0 → ⊥ = λ few none. let e = c.if-are_enough.ensures.1 (few, c.get.ensures.or_zero ∙ none) in cc in
    let most = c.held_most-held-end.ensures.value in
    rw c.set.ensures (chosen_more c.args.inst.now c.args.part.now c.args.y.now c.loop-held.marks c.loop-held.held c.in-Some.i c.requires.cells c.loop-held.invariant c.in-Some.ensures (omega arith) more)

pub returns : goal.returns
returns c =
    let most = c.held_most-held-end.ensures.value in
    record { chosen = chosen_full c.args.inst.now c.args.part.now c.args.y.now c.loop-held.marks c.loop-held.held c.musts-marks.ensures.instance c.requires.cells c.loop-held.invariant (omega arith) }
