use Rattle.std.proofs.Common.{◌≡◌, ℤ, pos, rules, sym, subst}
use mir.Syntax.{w128}
use mir.Val.{to_z, of_z}
use Rattle.gap_tangent.specs.Seen.{setting_of}
use Rattle.gap_solve.specs.Searching.{IsBestAt}
use Rattle.gap_solve.proofs.FloorLaws.{best_at_is}
use Rattle.gap_solve.proofs.begin.best_at.Goals as goal

pub returns : goal.returns
returns c =
    let s = setting_of c.args.bound.now in
    let v : to_z w128 (of_z w128 c.alpha_at-alpha.result) ≡ c.alpha_at-alpha.result = search rules in
    subst (λ (a : ℤ). IsBestAt s c.args.y (record { y = c.args.y; alpha = a; tau = pos 0 })) (sym v) (best_at_is s c.args.y c.alpha_at-alpha.result c.args.bound.now.setting c.requires c.alpha_at-alpha.ensures)
