use Rattle.std.proofs.Common.{◌≡◌, FitsSigned, sym, ap, ◌∙◌, subst, true, rules}
use Rattle.std.specs.Int.{w128}
use Rattle.std.proofs.lemmas.Int.{to_z-of_z}
use Rattle.gap_model.specs.declared.leaf.Leaf.{Leaf}
use Rattle.gap_model.specs.Leaves.{in_range, shows}
use Rattle.gap_tangent.specs.Seen.{setting_of}
use Rattle.gap_tangent.proofs.ShownLaws.{tangent_in_range}
use Rattle.gap_tangent.proofs.node_bound.MeanVarianceNodeBound.shown.Goals as goal

pub tangent_shown-requires-clause-entries : goal.tangent_shown-requires-clause-entries
tangent_shown-requires-clause-entries c =
    let b = c.args.self.now in
    let s = setting_of b in
    let r = subst (λ (leaf : Leaf). in_range s leaf ≡ true) c.in-Tangent.is c.requires.in_range in
    (tangent_in_range s c.in-Tangent.y.now c.in-Tangent.alpha c.in-Tangent.tau r).entries

pub returns-in-Count : goal.returns-in-Count
unfolding shows
returns-in-Count c =
    let b = c.args.self.now in
    let s = setting_of b in
    c.count_shown.ensures ∙ sym (ap (shows s c.args.part.now) c.in-Count.is)

pub returns-in-Void : goal.returns-in-Void
unfolding shows
returns-in-Void c =
    let b = c.args.self.now in
    let s = setting_of b in
    let fa : FitsSigned w128 c.in-Void.alpha = search rules in
    let ft : FitsSigned w128 c.in-Void.tau = search rules in
    let fh : FitsSigned w128 c.in-Void.third = search rules in
    let e = simp to_z-of_z at c.void_shown.ensures in
    e ∙ sym (ap (shows s c.args.part.now) c.in-Void.is)

pub returns-in-Tangent : goal.returns-in-Tangent
unfolding shows
returns-in-Tangent c =
    let b = c.args.self.now in
    let s = setting_of b in
    let fa : FitsSigned w128 c.in-Tangent.alpha = search rules in
    let ft : FitsSigned w128 c.in-Tangent.tau = search rules in
    let fh : FitsSigned w128 c.in-Tangent.third = search rules in
    let e = simp to_z-of_z at c.tangent_shown.ensures in
    e ∙ sym (ap (shows s c.args.part.now) c.in-Tangent.is)
