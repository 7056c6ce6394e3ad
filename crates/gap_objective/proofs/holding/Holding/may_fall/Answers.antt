use Rattle.std.proofs.Common.{subst}
use Rattle.std.proofs.lemmas.Int.{to_z-of_z}
use Rattle.std.specs.Int.{w128}
use Rattle.gap_instance.specs.Instances.{IsInstance, AreBetween}
use Rattle.gap_objective.specs.Holdings.{HoldingValue}
use Rattle.gap_objective.specs.Slopes.{slope_of}
use Rattle.gap_objective.proofs.FallLaws.{StaysFrom-level, not_below}
use Rattle.gap_objective.proofs.holding.Holding.may_fall.Goals as goal

pub returns-clause-stays : goal.returns-clause-stays
returns-clause-stays c flat =
    let h = c.args.self.now in
    let known : IsInstance h.instance = subst (λ (v : HoldingValue). IsInstance v.instance) c.self.view_is c.self.invariant.instance_is in
    let lots : AreBetween h.instance.market.assets 0 10000 h.lots = subst (λ (v : HoldingValue). AreBetween v.instance.market.assets 0 10000 v.lots) c.self.view_is c.self.invariant.lots_are in
    let to = to_z-of_z w128 c.slope.result (record { sfits = c.slope.type_inv }) in
    let from = to_z-of_z w128 c.slope-2.result (record { sfits = c.slope-2.type_inv }) in
    let apart = rw (to, from, c.slope.ensures.value, c.slope-2.ensures.value) at flat in
    let level = not_below (slope_of h.instance h.weight.p h.weight.q h.lots c.args.j) (slope_of h.instance h.weight.p h.weight.q h.lots c.args.i) apart in
    StaysFrom-level h.instance h.weight.p h.weight.q h.lots c.args.i c.args.j known.market_is lots.count c.requires.first c.requires.second level
