use Rattle.std.proofs.Common.{◌≡◌, arith}
use Rattle.std.proofs.lemmas.Int.{ints}
use Rattle.gap_start.proofs.StepLaws.{more_takers, IsFoundBy-low}
use Rattle.gap_start.proofs.PlaceLaws.{NoneBelowFrom-takers}
use Rattle.gap_start.proofs.step.best_from.Goals as goal

pub loop-k-preserved : goal.loop-k-preserved
loop-k-preserved c =
    let h = c.args.h.now in
    let lower = c.better_of-found.ensures.better in
    let before = c.loop-k.invariant.better in
    let here = rw c.get.ensures.or_zero at c.better_of-found.ensures.none in
    record {
      found = c.better_of-found.ensures.found;
      better = omega (arith, ints);
      none = more_takers h.instance h.weight.p h.weight.q h.lots c.loop-k.found.value c.better_of-found.result.value c.args.kind c.args.i c.args.takers.now.numbers c.loop-k.k c.loop-k.invariant.none lower here;
    }

pub returns-clause-none : goal.returns-clause-none
returns-clause-none c =
    let h = c.args.h.now in
    let whole : c.loop-k.k ≡ c.args.takers.now.count = omega arith in
    let low = IsFoundBy-low h.instance h.weight.p h.weight.q h.lots c.loop-k.found.value c.loop-k.found.step c.loop-k.invariant.found in
    let each = rw whole at c.loop-k.invariant.none in
    NoneBelowFrom-takers h.instance h.weight.p h.weight.q h.lots c.loop-k.found.value c.args.kind c.args.i c.args.top c.args.takers.now.numbers c.args.takers.now.count c.lots-lots.ensures.instance c.lots-lots.ensures.lots.count c.requires.giver low c.requires.steepest c.requires.takers each
