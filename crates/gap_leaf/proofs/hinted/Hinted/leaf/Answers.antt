use Rattle.std.proofs.Common.{◌≡◌, pos, false, true, FitsSigned, lit<, sym, ap, ◌∙◌, subst}
use Rattle.std.proofs.lemmas.Int.{to_z-of_z}
use Rattle.std.specs.Int.{w128}
use Rattle.gap_base.proofs.Machine.{fits_of}
use Rattle.gap_base.specs.declared.witness.Witness.{Witness}
use Rattle.gap_box.specs.Parts.{can_meet, IsWithin, root_cells}
use Rattle.gap_model.specs.declared.leaf.Leaf.TheVariants.{Count, Void}
use Rattle.gap_tangent.specs.Seen.{setting_of}
use Rattle.gap_model.specs.declared.leaf.Leaf.{Leaf}
use Rattle.gap_model.specs.Leaves.{shows}
use Rattle.gap_model.specs.Problems.{tangent_problem}
use Rattle.gap_model.specs.Showing.{ShowsSo}
use Rattle.gap_leaf.specs.Finding.{HintValue, IsLeafFor}
use Rattle.gap_leaf.proofs.KindLaws.{asked_by, count_empty, count_leaf, void_leaf, counted_by}
use Rattle.gap_leaf.proofs.TryLaws.{void_found}
use Rattle.gap_leaf.proofs.hinted.Hinted.leaf.Goals as goal

pub returns-then-not-count_within-clause-leaf : goal.returns-then-not-count_within-clause-leaf
returns-then-not-count_within-clause-leaf c =
    let k = c.self.inside in
    let s = setting_of k.bound.now in
    let hint : Witness = record { y = k.tangent.eighths; alpha = k.alpha; tau = k.tau } in
    let part = c.args.part.now in
    let within = subst (λ (v : HintValue). IsWithin part (root_cells v.setting.instance.least v.setting.instance.greatest)) (sym c.self.view_is) c.requires in
    let a = asked_by k.bound.now part hint c.self.invariant.1 c.len-cells.ensures.valid within in
    let e : can_meet part s.instance.held s.instance.held_most ≡ false = counted_by part c.instance-inst.result.now s.instance c.held.result c.held_most.result false c.count_within.result c.held.ensures.value c.held_most.ensures.value c.instance-inst.ensures c.count_within.ensures c.if-not-count_within.true in
    subst (λ (v : HintValue). IsLeafFor v.setting part v.hint c.empty_by.result.leaf) c.self.view_is (subst (λ (leaf : Leaf). IsLeafFor s part hint leaf) (sym c.empty_by.ensures.leaf) (count_leaf s part hint a e))

pub returns-then-not-count_within-clause-shows : goal.returns-then-not-count_within-clause-shows
returns-then-not-count_within-clause-shows c =
    let s = setting_of c.self.inside.bound.now in
    let part = c.args.part.now in
    let e : can_meet part s.instance.held s.instance.held_most ≡ false = counted_by part c.instance-inst.result.now s.instance c.held.result c.held_most.result false c.count_within.result c.held.ensures.value c.held_most.ensures.value c.instance-inst.ensures c.count_within.ensures c.if-not-count_within.true in
    subst (λ (v : HintValue). ShowsSo (tangent_problem v.setting) part c.empty_by.result) c.self.view_is (ap (shows s part) c.empty_by.ensures.leaf ∙ count_empty s part e ∙ sym c.empty_by.ensures.shown)

pub returns-in-Some-clause-leaf : goal.returns-in-Some-clause-leaf
returns-in-Some-clause-leaf c =
    let k = c.self.inside in
    let s = setting_of k.bound.now in
    let hint : Witness = record { y = k.tangent.eighths; alpha = k.alpha; tau = k.tau } in
    let part = c.args.part.now in
    let m = c.in-Some.tried in
    let within = subst (λ (v : HintValue). IsWithin part (root_cells v.setting.instance.least v.setting.instance.greatest)) (sym c.self.view_is) c.requires in
    let a = asked_by k.bound.now part hint c.self.invariant.1 c.len-cells.ensures.valid within in
    let e : can_meet part s.instance.held s.instance.held_most ≡ true = counted_by part c.instance-inst.result.now s.instance c.held.result c.held_most.result true c.count_within.result c.held.ensures.value c.held_most.ensures.value c.instance-inst.ensures c.count_within.ensures c.if-not-count_within.false in
    let q = sym c.first_void.ensures ∙ c.in-Some.is in
    let f = void_found s part m q in
    let fa : FitsSigned w128 m.alpha = fits_of m.alpha 1000000000000000000000000000000 f.multipliers.alpha_most (lit< tt) in
    let ft : FitsSigned w128 m.tau = fits_of m.tau 1000000000000000000000000000000 f.multipliers.tau_most (lit< tt) in
    let l = simp to_z-of_z at c.empty_by-in-Some.ensures.leaf in
    subst (λ (v : HintValue). IsLeafFor v.setting part v.hint c.empty_by-in-Some.result.leaf) c.self.view_is (subst (λ (leaf : Leaf). IsLeafFor s part hint leaf) (sym l) (void_leaf s part hint m a e q))

pub returns-in-Some-clause-shows : goal.returns-in-Some-clause-shows
returns-in-Some-clause-shows c =
    let s = setting_of c.self.inside.bound.now in
    let part = c.args.part.now in
    let m = c.in-Some.tried in
    let f = void_found s part m (sym c.first_void.ensures ∙ c.in-Some.is) in
    let fa : FitsSigned w128 m.alpha = fits_of m.alpha 1000000000000000000000000000000 f.multipliers.alpha_most (lit< tt) in
    let ft : FitsSigned w128 m.tau = fits_of m.tau 1000000000000000000000000000000 f.multipliers.tau_most (lit< tt) in
    let l = simp to_z-of_z at c.empty_by-in-Some.ensures.leaf in
    subst (λ (v : HintValue). ShowsSo (tangent_problem v.setting) part c.empty_by-in-Some.result) c.self.view_is (ap (shows s part) l ∙ f.empty ∙ sym c.empty_by-in-Some.ensures.shown)
