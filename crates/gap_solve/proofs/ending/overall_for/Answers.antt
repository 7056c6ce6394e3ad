use Rattle.std.proofs.Common.{◌≡◌, ℕ, ◌≤◌, List, ℤ, unsigned_abs, rules, refl, sym, ap, ◌∙◌, subst}
use mir.Syntax.{w128}
use mir.Val.{to_z, of_z}
use Rattle.gap_base.specs.Sizes.{most_bound}
use Rattle.gap_base.specs.Lots.{eighths_of}
use Rattle.gap_box.specs.declared.cell.Cell.{Cell}
use Rattle.gap_model.specs.declared.shown.Shown.TheVariants.{AtLeast}
use Rattle.gap_model.specs.Leaves.{shows, IsPoint}
use Rattle.gap_tangent.specs.Seen.{setting_of}
use Rattle.gap_solve.specs.Ended.{root_of}
use Rattle.gap_solve.specs.Ends.{HasFloor}
use Rattle.gap_solve.proofs.FloorLaws.{list_point}
use Rattle.gap_solve.proofs.EndLaws.{root_tangent, root_witness, root_small, root_has_floor}
use Rattle.gap_solve.proofs.ending.overall_for.Goals as goal

pub root_leaf-requires : goal.root_leaf-requires
root_leaf-requires c = subst (λ (y : List ℕ). IsPoint (setting_of c.args.bound.now).instance y) (sym c.of.ensures) (list_point (setting_of c.args.bound.now).instance c.args.best.now.lots c.requires.meets)

pub unreachable-requires : goal.unreachable-requires
unreachable-requires c = root_tangent (setting_of c.args.bound.now) c.of.result c.in_ok-leaf.leaf c.args.best.now c.args.bound.now.setting c.in_ok-leaf.ensures c.requires (c.in_default.ensures.none refl)

pub returns-clause-small : goal.returns-clause-small
returns-clause-small c =
    let s = setting_of c.args.bound.now in
    let v : to_z w128 (of_z w128 c.in-AtLeast.number) ≡ c.in-AtLeast.number = search rules in
    let e : shows s (root_of s) c.in_ok-leaf.leaf ≡ AtLeast c.in-AtLeast.number = ap (λ (part : List Cell). shows s part c.in_ok-leaf.leaf) (sym c.root.ensures) ∙ sym c.shown.ensures ∙ c.in-AtLeast.is in
    subst (λ (z : ℤ). unsigned_abs z ≤ most_bound) (sym v) (root_small s c.of.result c.in_ok-leaf.leaf c.in-AtLeast.number c.args.bound.now.setting c.in_ok-leaf.ensures e)

pub returns-clause-shows : goal.returns-clause-shows
returns-clause-shows c =
    let s = setting_of c.args.bound.now in
    let v : to_z w128 (of_z w128 c.in-AtLeast.number) ≡ c.in-AtLeast.number = search rules in
    let e : shows s (root_of s) c.in_ok-leaf.leaf ≡ AtLeast c.in-AtLeast.number = ap (λ (part : List Cell). shows s part c.in_ok-leaf.leaf) (sym c.root.ensures) ∙ sym c.shown.ensures ∙ c.in-AtLeast.is in
    sym (root_witness s c.of.result c.in_ok-leaf.leaf c.in-Some.w c.in_ok-leaf.ensures c.in-Some.ensures.tangent) ∙ e ∙ ap AtLeast (sym v)

pub returns-clause-floor : goal.returns-clause-floor
returns-clause-floor c =
    let s = setting_of c.args.bound.now in
    let v : to_z w128 (of_z w128 c.in-AtLeast.number) ≡ c.in-AtLeast.number = search rules in
    let e : shows s (root_of s) c.in_ok-leaf.leaf ≡ AtLeast c.in-AtLeast.number = ap (λ (part : List Cell). shows s part c.in_ok-leaf.leaf) (sym c.root.ensures) ∙ sym c.shown.ensures ∙ c.in-AtLeast.is in
    let f : HasFloor s c.of.result c.in-AtLeast.number = root_has_floor s c.of.result c.in_ok-leaf.leaf c.in-AtLeast.number c.in_ok-leaf.ensures e in
    subst (λ (z : ℤ). HasFloor s (eighths_of c.args.best.now.lots) z) (sym v) (subst (λ (y : List ℕ). HasFloor s y c.in-AtLeast.number) c.of.ensures f)
