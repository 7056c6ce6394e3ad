use Rattle.std.proofs.Common.{◌≡◌, ℕ, List, pos, replicate, subst}
use Rattle.gap_instance.specs.Limits.{turnover_of}
use Rattle.gap_objective.proofs.HoldingLaws.{IsKept-nothing}
use Rattle.gap_objective.proofs.holding.Holding.nothing.Goals as goal

pub invariant_of-result : goal.invariant_of-result
invariant_of-result c =
    let I = c.args.inst.now in
    let zeros : c.zeros-lots.result ≡ replicate I.market.assets 0 = rw c.n.ensures.value at c.zeros-lots.ensures in
    let turned = subst (λ (y : List ℕ). pos c.turnover_to-turnover.result ≡ turnover_of I.market.assets I.present y) zeros c.turnover_to-turnover.ensures.value in
    rw zeros (IsKept-nothing I c.args.w.p c.args.w.q c.first_slopes.result c.turnover_to-turnover.result c.first_slopes.ensures.instance c.first_slopes.ensures.risk c.first_slopes.ensures.whole c.first_slopes.ensures.room c.first_slopes.ensures.slopes turned)
