use Rattle.std.proofs.Common.{◌∙◌, sym, ap}
use Rattle.gap_model.specs.declared.leaf.Leaf.{Leaf}
use Rattle.gap_model.specs.Priced.{priced_shows}
use Rattle.gap_model.specs.Leaves.{count_shows, void_shows, tangent_shows}
use Rattle.gap_model.specs.Theta.{picks, least_value}
use Rattle.gap_trials.specs.Small.{small_price, small_prices}
use Rattle.gap_trials.proofs.small.SmallNodeBound.shown.Goals as goal

pub returns-in-Count : goal.returns-in-Count
unfolding priced_shows
returns-in-Count c = c.of_count.ensures ∙ ap count_shows c.count_within.ensures ∙ sym (ap (priced_shows (small_prices c.args.self.now.seed c.args.self.now.lots) c.args.part.now) c.in-Count.is)

pub returns-in-Void : goal.returns-in-Void
unfolding priced_shows
returns-in-Void c =
    let f = small_price c.args.self.now.seed c.args.self.now.lots in
    c.of_void.ensures ∙ ap void_shows (c.least_price.ensures ∙ ap (λ (leaf : Leaf). least_value (f leaf) (picks c.args.part.now 1 2)) c.in-Void.is) ∙ sym (ap (priced_shows (small_prices c.args.self.now.seed c.args.self.now.lots) c.args.part.now) c.in-Void.is)

pub returns-in-Tangent : goal.returns-in-Tangent
unfolding priced_shows
returns-in-Tangent c =
    let f = small_price c.args.self.now.seed c.args.self.now.lots in
    c.of_tangent.ensures ∙ ap tangent_shows (c.least_price-in-Tangent.ensures ∙ ap (λ (leaf : Leaf). least_value (f leaf) (picks c.args.part.now 1 2)) c.in-Tangent.is) ∙ sym (ap (priced_shows (small_prices c.args.self.now.seed c.args.self.now.lots) c.args.part.now) c.in-Tangent.is)
