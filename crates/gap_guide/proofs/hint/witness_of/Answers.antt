use Rattle.std.proofs.Common.{◌≡◌, ℕ, true, rules, sym, ap, ◌∙◌, subst}
use mir.Syntax.{w128}
use mir.Val.{to_z, of_z}
use Rattle.gap_instance.specs.Instances.{InstanceValue}
use Rattle.gap_model.specs.declared.leaf.Leaf.{Leaf}
use Rattle.gap_model.specs.Leaves.{AreEntries, in_range}
use Rattle.gap_tangent.specs.Seen.{setting_of}
use Rattle.gap_tangent.proofs.ShownLaws.{tangent_in_range}
use Rattle.gap_tangent.proofs.EntryLaws.{point_is}
use Rattle.gap_guide.proofs.hint.witness_of.Goals as goal

pub point_from-requires-clause-entries : goal.point_from-requires-clause-entries
point_from-requires-clause-entries c =
    let s = setting_of c.args.bound.now in
    let n : c.n.result ≡ s.instance.market.assets = c.n.ensures.value ∙ ap (λ (I : InstanceValue). I.market.assets) c.instance.ensures in
    let r = tangent_in_range s c.in-Tangent.y.now c.in-Tangent.alpha c.in-Tangent.tau (subst (λ (leaf : Leaf). in_range s leaf ≡ true) c.in-Tangent.is c.requires) in
    subst (λ (k : ℕ). AreEntries k c.in-Tangent.y.now) (sym n) r.entries

pub returns-in-Tangent-clause-in_range : goal.returns-in-Tangent-clause-in_range
returns-in-Tangent-clause-in_range c =
    let s = setting_of c.args.bound.now in
    let n : c.n.result ≡ s.instance.market.assets = c.n.ensures.value ∙ ap (λ (I : InstanceValue). I.market.assets) c.instance.ensures in
    let a : to_z w128 (of_z w128 c.in-Tangent.alpha) ≡ c.in-Tangent.alpha = search rules in
    let t : to_z w128 (of_z w128 c.in-Tangent.tau) ≡ c.in-Tangent.tau = search rules in
    let r = tangent_in_range s c.in-Tangent.y.now c.in-Tangent.alpha c.in-Tangent.tau (subst (λ (leaf : Leaf). in_range s leaf ≡ true) c.in-Tangent.is c.requires) in
    record {
      point = point_is s.instance c.in-Tangent.y.now c.point_from.result r.entries r.most (c.point_from.ensures.count ∙ n) (λ i l. c.point_from.ensures.numbers i (rw n l));
      multipliers = rw (a, t) r.multipliers;
    }
