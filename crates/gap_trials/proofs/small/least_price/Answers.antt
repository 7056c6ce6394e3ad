use Rattle.std.proofs.Common.{◌≡◌, arith, subst}
use Rattle.gap_trials.specs.Small.{small_price, IsLeastBelow}
use Rattle.gap_trials.proofs.PlaceLaws.{least_found}
use Rattle.gap_trials.proofs.small.least_price.Goals as goal

pub returns : goal.returns
returns c =
    let f = small_price c.args.small.now.seed c.args.small.now.lots c.args.leaf.now in
    let e : c.loop-k.k ≡ 64 = omega arith in
    least_found f c.args.part.now c.loop-k.least c.requires.within (subst (λ (n : _). IsLeastBelow f c.args.part.now n c.loop-k.least) e c.loop-k.invariant)
