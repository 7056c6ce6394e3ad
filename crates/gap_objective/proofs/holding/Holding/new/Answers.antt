use Rattle.std.proofs.Common.{◌≡◌, length, subst, ℕ, arith}
use Rattle.gap_objective.specs.Holdings.{IsFront}
use Rattle.gap_objective.proofs.HoldingLaws.{IsFront-whole, holding_is}
use Rattle.gap_objective.proofs.holding.Holding.new.Goals as goal

pub returns : goal.returns
returns c =
    let whole : c.loop-i.i ≡ length c.args.x.now = omega arith in
    let front = subst (λ (k : ℕ). IsFront c.args.x.now k c.loop-i.holding.lots) whole c.loop-i.invariant.front in
    holding_is c.loop-i.holding c.args.inst.now c.args.w c.args.x.now c.loop-i.invariant.instance_is c.loop-i.invariant.weight_is (IsFront-whole c.args.x.now c.loop-i.holding.lots front)
