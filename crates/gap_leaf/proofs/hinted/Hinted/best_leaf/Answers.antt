use Rattle.std.proofs.Common.{◌≡◌, ℕ, List, None, true, FitsSigned, lit<, sym, ◌∙◌, subst}
use Rattle.std.proofs.lemmas.Int.{to_z-of_z}
use Rattle.std.specs.Int.{w128}
use Rattle.gap_base.proofs.Machine.{fits_of}
use Rattle.gap_base.specs.declared.witness.Witness.{Witness}
use Rattle.gap_box.specs.Parts.{can_meet, IsSingle, IsWithin, root_cells}
use Rattle.gap_model.specs.Settings.{Setting}
use Rattle.gap_model.specs.Problems.{tangent_problem}
use Rattle.gap_model.specs.Showing.{ShowsSo}
use Rattle.gap_tangent.specs.Seen.{setting_of}
use Rattle.gap_witness.specs.Having.{HasTangentPoint}
use Rattle.gap_leaf.specs.Candidates.{theta_at, IsCandidate}
use Rattle.gap_leaf.specs.Voids.{first_void}
use Rattle.gap_leaf.specs.Finding.{HintValue, IsLeafFor}
use Rattle.gap_leaf.proofs.KindLaws.{asked_by, has_point, tangent_leaf, best_shows}
use Rattle.gap_leaf.proofs.hinted.Hinted.best_leaf.Goals as goal

pub best_witness-best-requires-clause-has : goal.best_witness-best-requires-clause-has
best_witness-best-requires-clause-has c =
    let s = setting_of c.self.inside.bound.now in
    let part = c.args.part.now in
    let e = subst (λ (v : HintValue). can_meet part v.setting.instance.held v.setting.instance.held_most ≡ true) (sym c.self.view_is) c.requires.counted in
    let q = subst (λ (v : HintValue). first_void v.setting part ≡ None) (sym c.self.view_is) c.requires.no_void in
    subst (λ (r : Setting). HasTangentPoint r part) (sym c.self.invariant.0) (has_point s part e q)

pub returns-clause-leaf : goal.returns-clause-leaf
returns-clause-leaf c =
    let k = c.self.inside in
    let s = setting_of k.bound.now in
    let hint : Witness = record { y = k.tangent.eighths; alpha = k.alpha; tau = k.tau } in
    let part = c.args.part.now in
    let best = c.best_witness-best.result.witness in
    let within = subst (λ (v : HintValue). IsWithin part (root_cells v.setting.instance.least v.setting.instance.greatest)) (sym c.self.view_is) c.requires.within in
    let w = c.self.invariant.1 in
    let a = asked_by k.bound.now part hint w c.len-cells.ensures.valid within in
    let e = subst (λ (v : HintValue). can_meet part v.setting.instance.held v.setting.instance.held_most ≡ true) (sym c.self.view_is) c.requires.counted in
    let q = subst (λ (v : HintValue). first_void v.setting part ≡ None) (sym c.self.view_is) c.requires.no_void in
    let n = subst (λ (v : HintValue). (x : List ℕ) → IsSingle part v.setting.instance.held v.setting.instance.held_most x → ⊥) (sym c.self.view_is) c.requires.several in
    let f1 : FitsSigned w128 k.alpha = fits_of k.alpha 1000000000000000000000000000000 w.multipliers.alpha_most (lit< tt) in
    let f2 : FitsSigned w128 k.tau = fits_of k.tau 1000000000000000000000000000000 w.multipliers.tau_most (lit< tt) in
    let b = simp to_z-of_z at c.best_witness-best.ensures.candidate in
    let d = subst (λ (r : Setting). IsCandidate r part hint best) c.self.invariant.0 b in
    let f3 : FitsSigned w128 best.alpha = fits_of best.alpha 1000000000000000000000000000000 d.witness.multipliers.alpha_most (lit< tt) in
    let f4 : FitsSigned w128 best.tau = fits_of best.tau 1000000000000000000000000000000 d.witness.multipliers.tau_most (lit< tt) in
    let t = simp to_z-of_z at c.in_ok-leaf.ensures in
    subst (λ (v : HintValue). IsLeafFor v.setting part v.hint c.in_ok-leaf.leaf) c.self.view_is (tangent_leaf s part hint best c.in_ok-leaf.leaf a e q n d t)

pub returns-clause-shows : goal.returns-clause-shows
returns-clause-shows c =
    let k = c.self.inside in
    let s = setting_of k.bound.now in
    let hint : Witness = record { y = k.tangent.eighths; alpha = k.alpha; tau = k.tau } in
    let part = c.args.part.now in
    let found = c.best_witness-best.result in
    let best = found.witness in
    let within = subst (λ (v : HintValue). IsWithin part (root_cells v.setting.instance.least v.setting.instance.greatest)) (sym c.self.view_is) c.requires.within in
    let w = c.self.invariant.1 in
    let a = asked_by k.bound.now part hint w c.len-cells.ensures.valid within in
    let e = subst (λ (v : HintValue). can_meet part v.setting.instance.held v.setting.instance.held_most ≡ true) (sym c.self.view_is) c.requires.counted in
    let f1 : FitsSigned w128 k.alpha = fits_of k.alpha 1000000000000000000000000000000 w.multipliers.alpha_most (lit< tt) in
    let f2 : FitsSigned w128 k.tau = fits_of k.tau 1000000000000000000000000000000 w.multipliers.tau_most (lit< tt) in
    let b = simp to_z-of_z at c.best_witness-best.ensures.candidate in
    let d = subst (λ (r : Setting). IsCandidate r part hint best) c.self.invariant.0 b in
    let f3 : FitsSigned w128 best.alpha = fits_of best.alpha 1000000000000000000000000000000 d.witness.multipliers.alpha_most (lit< tt) in
    let f4 : FitsSigned w128 best.tau = fits_of best.tau 1000000000000000000000000000000 d.witness.multipliers.tau_most (lit< tt) in
    let t = simp to_z-of_z at c.in_ok-leaf.ensures in
    let f5 : FitsSigned w128 found.theta = fits_of found.theta 10000000000000000000000000000000000000 c.best_witness-best.ensures.small (lit< tt) in
    let shown = simp to_z-of_z at c.of_tangent.ensures in
    let q = subst (λ (r : Setting). found.theta ≡ theta_at r part best) c.self.invariant.0 c.best_witness-best.ensures.theta in
    subst (λ (v : HintValue). ShowsSo (tangent_problem v.setting) part (record { leaf = c.in_ok-leaf.leaf; shown = c.of_tangent.result })) c.self.view_is (best_shows s part hint best found.theta c.in_ok-leaf.leaf a e t q ∙ sym shown)
