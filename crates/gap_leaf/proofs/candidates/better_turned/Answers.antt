use Rattle.std.proofs.Common.{FitsSigned, sym}
use Rattle.std.proofs.lemmas.Int.{to_z-of_z}
use Rattle.std.specs.Int.{w128}
use Rattle.gap_base.specs.Lots.{lots_at}
use Rattle.gap_leaf.proofs.CandidateLaws.{kept_best}
use Rattle.gap_leaf.proofs.candidates.better_turned.Goals as goal

pub returns-clause-best : goal.returns-clause-best
returns-clause-best c =
    let t = c.args.tangent.now in
    let fa = c.ranges.alpha in
    let ft = c.ranges.tau in
    let fh : FitsSigned w128 c.theta_of-theta.result = record { sfits = c.theta_of-theta.type_inv } in
    let w = simp to_z-of_z at c.better.ensures.which in
    kept_best t.setting c.args.part.now (lots_at t.eighths) c.args.alpha c.args.tau c.theta_of-theta.result c.turned_multipliers-new.result c.better.result c.requires.multipliers (sym (simp to_z-of_z at c.theta_of-theta.ensures.value)) c.turned_multipliers-new.ensures w c.better.ensures.new_less c.theta_of-theta.ensures.small
