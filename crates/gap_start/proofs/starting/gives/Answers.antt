use Rattle.std.proofs.Common.{◌≤◌, pos, ℤ, subst, sym, arith}
use Rattle.std.proofs.Common.{◌≤ℤ◌}
use Rattle.gap_instance.specs.Selections.{is_marked}
use Rattle.gap_start.proofs.StartLaws.{gives_all, start_turnover_is}
use Rattle.gap_start.proofs.starting.gives.Goals as goal

pub returns : goal.returns
returns c =
    let I = c.args.inst.now in
    let marks = c.args.marks.now in
    let turnover = start_turnover_is I marks c.args.first.now c.requires.first in
    let least : c.least_sum.result ≤ I.lots = omega arith in
    let greatest : I.lots ≤ c.greatest_sum.result = omega arith in (
      λ h. gives_all I (is_marked marks) c.least_sum.result c.greatest_sum.result c.least_sum.ensures c.greatest_sum.ensures least greatest (λ t e. subst (λ (z : ℤ). z ≤ℤ pos t) (sym turnover) (c.turns_enough.ensures.0 h t e)),
      λ g. c.turns_enough.ensures.1 (λ t e. subst (λ (z : ℤ). z ≤ℤ pos t) turnover (g.turnover_fits t e)),
    )
