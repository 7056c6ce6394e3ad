use Rattle.std.proofs.Common.{◌≡◌, ℕ, pos, List, None, true, sym, subst}
use Rattle.gap_base.specs.declared.witness.Witness.{Witness}
use Rattle.gap_box.specs.Parts.{can_meet, IsSingle, IsWithin, root_cells}
use Rattle.gap_model.specs.declared.leaf.Leaf.{Leaf}
use Rattle.gap_model.specs.Problems.{tangent_problem}
use Rattle.gap_model.specs.Showing.{ShowsSo}
use Rattle.gap_tangent.specs.Seen.{setting_of}
use Rattle.gap_leaf.specs.Entries.{IsTangentOf}
use Rattle.gap_leaf.specs.Voids.{first_void}
use Rattle.gap_leaf.specs.Finding.{HintValue, IsLeafFor}
use Rattle.gap_leaf.proofs.KindLaws.{asked_by, single_leaf, single_by}
use Rattle.gap_leaf.proofs.hinted.Hinted.leaf_of_lists.Goals as goal

pub placed_at-requires-clause-within : goal.placed_at-requires-clause-within
placed_at-requires-clause-within c = subst (λ (v : HintValue). IsWithin c.args.part.now (root_cells v.setting.instance.least v.setting.instance.greatest)) (sym c.self.view_is) c.requires.within

pub placed_at-requires-clause-in_range : goal.placed_at-requires-clause-in_range
placed_at-requires-clause-in_range c =
    let k = c.self.inside in
    let s = setting_of k.bound.now in
    let hint : Witness = record { y = k.tangent.eighths; alpha = k.alpha; tau = k.tau } in
    let part = c.args.part.now in
    let x = c.in-Some.x in
    let leaf = c.in_ok-leaf-in-Some.leaf in
    let within = placed_at-requires-clause-within c in
    let a = asked_by k.bound.now part hint c.self.invariant.1 c.len-cells.ensures.valid within in
    let e = subst (λ (v : HintValue). can_meet part v.setting.instance.held v.setting.instance.held_most ≡ true) (sym c.self.view_is) c.requires.counted in
    let q = subst (λ (v : HintValue). first_void v.setting part ≡ None) (sym c.self.view_is) c.requires.no_void in
    let h : IsSingle part s.instance.held s.instance.held_most x = single_by part c.instance-inst.result.now s.instance c.held.result c.held_most.result x c.held.ensures.value c.held_most.ensures.value c.instance-inst.ensures ((c.single_within.ensures x).0 c.in-Some.is) in
    (single_leaf s part hint x leaf a e q h (subst (λ (y : List ℕ). IsTangentOf y (pos 0) (pos 0) leaf) c.of.ensures c.in_ok-leaf-in-Some.ensures)).in_range

pub returns-in_ok-leaf-in-Some-clause-leaf : goal.returns-in_ok-leaf-in-Some-clause-leaf
returns-in_ok-leaf-in-Some-clause-leaf c =
    let k = c.self.inside in
    let s = setting_of k.bound.now in
    let hint : Witness = record { y = k.tangent.eighths; alpha = k.alpha; tau = k.tau } in
    let part = c.args.part.now in
    let x = c.in-Some.x in
    let leaf = c.in_ok-leaf-in-Some.leaf in
    let within = subst (λ (v : HintValue). IsWithin part (root_cells v.setting.instance.least v.setting.instance.greatest)) (sym c.self.view_is) c.requires.within in
    let a = asked_by k.bound.now part hint c.self.invariant.1 c.len-cells.ensures.valid within in
    let e = subst (λ (v : HintValue). can_meet part v.setting.instance.held v.setting.instance.held_most ≡ true) (sym c.self.view_is) c.requires.counted in
    let q = subst (λ (v : HintValue). first_void v.setting part ≡ None) (sym c.self.view_is) c.requires.no_void in
    let h : IsSingle part s.instance.held s.instance.held_most x = single_by part c.instance-inst.result.now s.instance c.held.result c.held_most.result x c.held.ensures.value c.held_most.ensures.value c.instance-inst.ensures ((c.single_within.ensures x).0 c.in-Some.is) in
    let l = single_leaf s part hint x leaf a e q h (subst (λ (y : List ℕ). IsTangentOf y (pos 0) (pos 0) leaf) c.of.ensures c.in_ok-leaf-in-Some.ensures) in
    subst (λ (v : HintValue). IsLeafFor v.setting part v.hint c.placed_at.result.leaf) c.self.view_is (subst (λ (z : Leaf). IsLeafFor s part hint z) (sym c.placed_at.ensures.leaf) l)

pub returns-in_ok-leaf-in-Some-clause-shows : goal.returns-in_ok-leaf-in-Some-clause-shows
returns-in_ok-leaf-in-Some-clause-shows c = subst (λ (v : HintValue). ShowsSo (tangent_problem v.setting) c.args.part.now c.placed_at.result) c.self.view_is c.placed_at.ensures.shown
