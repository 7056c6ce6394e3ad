use Rattle.std.proofs.Common.{arith}
use Rattle.std.proofs.lemmas.Int.{ints}
use Rattle.gap_start.proofs.StepLaws.{more_givers}
use Rattle.gap_start.proofs.step.best_of.Goals as goal

pub loop-k-preserved : goal.loop-k-preserved
loop-k-preserved c =
    let h = c.args.h.now in
    let lower = c.best_from-found.ensures.better in
    let before = c.loop-k.invariant.better in
    let here = rw c.get.ensures.or_zero at c.best_from-found.ensures.none in
    record {
      found = c.best_from-found.ensures.found;
      better = omega (arith, ints);
      none = more_givers h.instance h.weight.p h.weight.q h.lots c.loop-k.found.value c.best_from-found.result.value c.args.kind c.args.givers.now.numbers c.loop-k.k c.loop-k.invariant.none lower here;
    }
