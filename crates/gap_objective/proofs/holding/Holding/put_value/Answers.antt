use Rattle.std.proofs.Common.{◌≡◌, ◌+ℤ◌, ◌*ℤ◌, ◌∙◌, pos, subst, sym, w32, w64}
use Rattle.std.proofs.lemmas.Int.{to_z-of_z}
use Rattle.std.specs.Int.{w128}
use Rattle.gap_base.specs.Lots.{lots_at}
use Rattle.gap_instance.specs.Instances.{IsInstance, AreBetween}
use Rattle.gap_instance.specs.Objective.{cov_of}
use Rattle.gap_objective.specs.Holdings.{HoldingValue}
use Rattle.gap_objective.proofs.ChangeLaws.{objective_put}
use Rattle.gap_objective.proofs.holding.Holding.put_value.Goals as goal

pub returns : goal.returns
returns c =
    let h = c.args.self.now in
    let known : IsInstance h.instance = subst (λ (v : HoldingValue). IsInstance v.instance) c.self.view_is c.self.invariant.instance_is in
    let lots : AreBetween h.instance.market.assets 0 10000 h.lots = subst (λ (v : HoldingValue). AreBetween v.instance.market.assets 0 10000 v.lots) c.self.view_is c.self.invariant.lots_are in
    let reached = to_z-of_z w128 c.reached.result (record { sfits = c.reached.type_inv }) in
    let value = to_z-of_z w128 c.value.result (record { sfits = c.value.type_inv }) in
    let steep = to_z-of_z w128 c.steepness.result (record { sfits = c.steepness.type_inv }) in
    let slope = to_z-of_z w128 c.slope.result (record { sfits = c.slope.type_inv }) in
    let bend = to_z-of_z w128 c.bend-bend.result (record { sfits = c.bend-bend.type_inv }) in
    let wide = to_z-of_z w128 c.from.result (record { sfits = c.from.type_inv }) in
    let cov = to_z-of_z w64 c.cov.result (record { sfits = c.cov.type_inv }) in
    let moved = to_z-of_z w32 c.change-moved.result (record { sfits = c.change-moved.type_inv }) in
    let bent = rw (wide, c.from.ensures, cov, c.cov.ensures.value) at c.bend-bend.ensures.value in
    let bent_by : c.bend-bend.result ≡ pos h.weight.p *ℤ cov_of h.instance.market c.args.i c.args.i = subst (λ (v : HoldingValue). c.bend-bend.result ≡ pos v.weight.p *ℤ cov_of v.instance.market c.args.i c.args.i) c.self.view_is bent in
    let more = rw c.get.ensures.or_zero at c.change-moved.ensures.value in
    let more_by : pos c.args.lots ≡ lots_at h.lots c.args.i +ℤ c.change-moved.result = subst (λ (v : HoldingValue). pos c.args.lots ≡ lots_at v.lots c.args.i +ℤ c.change-moved.result) c.self.view_is more in
    let climb = rw (slope, bend, moved, c.slope.ensures.value, bent_by) at c.steepness.ensures.value in
    let way = rw (value, steep, moved, c.value.ensures.value, climb) at c.reached.ensures in
    reached ∙ way ∙ sym (objective_put h.instance h.weight.p h.weight.q h.lots c.change-moved.result c.args.i c.args.lots known.market_is lots.count c.requires.asset more_by)
