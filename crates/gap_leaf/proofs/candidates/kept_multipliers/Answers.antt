use Rattle.std.proofs.Common.{◌≡◌, None, arith}
use Rattle.std.proofs.lemmas.Int.{to_z-of_z}
use Rattle.gap_base.specs.Lots.{lots_at}
use Rattle.gap_leaf.proofs.CandidateLaws.{none_less}
use Rattle.gap_leaf.proofs.candidates.kept_multipliers.Goals as goal

pub returns-in-Some-clause-no_less : goal.returns-in-Some-clause-no_less
returns-in-Some-clause-no_less c =
    let fa = c.ranges.alpha in
    let ft = c.ranges.tau in
    simp to_z-of_z at c.better_turned.ensures.no_less

pub returns-in-None-clause-no_less : goal.returns-in-None-clause-no_less
returns-in-None-clause-no_less c =
    let t = c.args.tangent.now in
    let e : t.setting.instance.turnover ≡ None = grind (arith, c.requires.same, c.instance.ensures, c.in-None.ensures.value) in
    none_less t.setting c.args.part.now (lots_at t.eighths) c.args.alpha c.args.tau c.plain_multipliers.result.theta c.requires.multipliers e c.plain_multipliers.ensures.most
