use Rattle.std.proofs.Common.{refl, ap, ◌∙◌, ℕ}
use Rattle.gap_verify.specs.declared.field.Field.TheVariants.{Assets, Lots, Held, Turnover, Nodes}
use Rattle.gap_verify.specs.declared.said.Said.TheVariants.{Range, Limit}
use Rattle.gap_verify.specs.Sides.{side_of_certificate, side_of_job, said_of}
use Rattle.gap_verify.proofs.SaidSame.{compared_along, numbers_along}
use Rattle.gap_verify.proofs.FirstLaws.{five}
use Rattle.gap_verify.proofs.sides.Sides.first.Goals as goal

pub returns : goal.returns
unfolding said_of
returns c =
    let found = c.args.self.now.found.now in
    let job = c.args.self.now.job.now in
    five (side_of_certificate c.args.self.now.found.now c.args.self.now.nodes c.args.self.now.told.now) (side_of_job c.args.self.now.market.now c.args.self.now.job.now) Assets Lots Held Turnover Nodes
    c.small_numbers-assets.result c.small_numbers-lots.result c.compared-held.result c.compared-turnover.result c.numbers-nodes.result c.or-3.result c.or-2.result c.or.result c.or-4.result
    (numbers_along Assets c.n.result _ c.n-2.result _ c.small_numbers-assets.result c.small_numbers-assets.ensures c.n.ensures.value c.n-2.ensures.value)
    (numbers_along Lots c.lots.result _ job.lots _ c.small_numbers-lots.result c.small_numbers-lots.ensures c.lots.ensures.value refl)
    (compared_along Held (Range c.held.result c.held_most.result) _ (Range job.held job.held_most) _ c.compared-held.result c.compared-held.ensures
    (ap (λ (k : ℕ). Range k c.held_most.result) c.held.ensures.value ∙ ap (λ (k : ℕ). Range found.held k) c.held_most.ensures.value) refl)
    (compared_along Turnover (Limit c.turnover.result) _ (Limit job.turnover) _ c.compared-turnover.result c.compared-turnover.ensures (ap Limit c.turnover.ensures.value) refl)
    c.numbers-nodes.ensures c.or.ensures c.or-2.ensures c.or-3.ensures c.or-4.ensures
