use Rattle.std.proofs.Common.{ℕ, subst}
use Rattle.gap_box.specs.Parts.{IsSingle}
use Rattle.gap_search.specs.Steps.{one}
use Rattle.gap_search.proofs.pieces.offer_single.Goals as goal

pub returns-in-Some : goal.returns-in-Some
returns-in-Some g c =
    let p = g.B.NodeBound.problem c.args.bound.now in
    let s : IsSingle c.args.part.now c.held.result c.held_most.result c.in-Some.x = (c.single_within.ensures c.in-Some.x).0 c.in-Some.is in
    let t = subst (λ (k : ℕ). IsSingle c.args.part.now p.fewest k c.in-Some.x) c.held_most.ensures.most (subst (λ (k : ℕ). IsSingle c.args.part.now k c.held_most.result c.in-Some.x) c.held.ensures s) in
    one c.in-Some.x t c.offer_to-taken.ensures.best
