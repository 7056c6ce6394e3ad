use Rattle.std.proofs.Common.{◌≡◌, rules, ap, ◌∙◌}
use mir.Syntax.{w128}
use mir.Val.{to_z, of_z}
use Rattle.gap_base.specs.declared.weight.Weight.{Weight}
use Rattle.gap_objective.specs.Holdings.{HoldingValue}
use Rattle.gap_tangent.specs.Seen.{setting_of}
use Rattle.gap_solve.proofs.EndLaws.{polished_is, polished_less}
use Rattle.gap_solve.proofs.ending.polished.Goals as goal

pub returns : goal.returns
returns c =
    let s = setting_of c.args.bound.now in
    let h = c.polish.new.h in
    let n = c.new-holding.result in
    let i : h.instance ≡ s.instance = c.polish.ensures.instance ∙ ap (λ (z : HoldingValue). z.instance) c.new-holding.ensures ∙ c.instance.ensures in
    let w : h.weight ≡ c.weight.result = c.polish.ensures.weight ∙ ap (λ (z : HoldingValue). z.weight) c.new-holding.ensures in
    let p : h.weight.p ≡ s.p = ap (λ (z : Weight). z.p) w ∙ c.weight.ensures.p in
    let q : h.weight.q ≡ s.q = ap (λ (z : Weight). z.q) w ∙ c.weight.ensures.q in
    let v : to_z w128 (of_z w128 c.value.result) ≡ c.value.result = search rules in
    polished_is s c.args.best.now h c.copy.result (to_z w128 (of_z w128 c.value.result)) i p q (c.copy.ensures ∙ c.lots.ensures.value) (v ∙ c.value.ensures.value) c.polish.ensures.meets c.polish.ensures.best
    (polished_less s c.args.best.now h n c.polish.ensures.instance c.polish.ensures.weight (ap (λ (z : HoldingValue). z.lots) c.new-holding.ensures) (ap (λ (z : HoldingValue). z.instance) c.new-holding.ensures ∙ c.instance.ensures) (ap (λ (z : HoldingValue). z.weight.p) c.new-holding.ensures ∙ c.weight.ensures.p) (ap (λ (z : HoldingValue). z.weight.q) c.new-holding.ensures ∙ c.weight.ensures.q) c.requires.value_is c.polish.ensures.better)
