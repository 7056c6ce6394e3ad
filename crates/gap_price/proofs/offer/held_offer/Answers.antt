use Rattle.std.proofs.Common.{◌≤◌, sym, subst, arith}
use Rattle.gap_box.specs.Cells.{IsCell}
use Rattle.gap_price.specs.declared.candidates.Candidate.{Candidate}
use Rattle.gap_price.specs.Offers.{cost_by}
use Rattle.gap_price.proofs.OfferLaws.{cheapest_most}
use Rattle.gap_price.proofs.offer.held_offer.Goals as goal

pub offer_of-requires-clause-lots : goal.offer_of-requires-clause-lots
offer_of-requires-clause-lots c =
    let a = c.args.asset.now in
    let q = subst IsCell c.in-Held.is c.requires in
    let h = cheapest_most (cost_by a) c.in-Held.l c.in-Held.u a.present q.1 in
    let k = q.2 in
    subst (λ (x : Candidate). x.lots ≤ 10000) (sym c.cheapest_between.ensures.cheapest) (omega arith)

pub offer_of-requires-in-Free-clause-lots : goal.offer_of-requires-in-Free-clause-lots
offer_of-requires-in-Free-clause-lots c =
    let a = c.args.asset.now in
    let q = subst IsCell c.in-Free.is c.requires in
    let h = cheapest_most (cost_by a) c.in-Free.l c.in-Free.u a.present q.1 in
    let k = q.2 in
    subst (λ (x : Candidate). x.lots ≤ 10000) (sym c.cheapest_between-in-Free.ensures.cheapest) (omega arith)
