use Rattle.std.proofs.Common.{refl, ◌+◌}
use Rattle.std.proofs.lemmas.Result.{err_from_is_err_and}
use Rattle.gap_sweep.proofs.TryLaws.{swept_warm, swept_more, sweeps_stopped}
use Rattle.gap_sweep.proofs.weights.try_weights.Goals as goal

pub try_weight-requires-clause-warm : goal.try_weight-requires-clause-warm
try_weight-requires-clause-warm g c = swept_warm c.args.inst.now c.args.shift.now c.args.nodes c.args.weights.now c.loop-k.k _ _ _ _ _ _ c.loop-k.invariant

pub returns-in_err-try_weight : goal.returns-in_err-try_weight
returns-in_err-try_weight g c =
    let p = err_from_is_err_and c.from_residual.result c.from_residual.ensures.1 in
    rw (p.1, p.2) (sweeps_stopped c.args.inst.now c.args.shift.now c.args.nodes c.args.weights.now c.get-weight.result c.loop-k.k (c.loop-k.k + 1) _ _ _ _ _ _ _ _ _ _
    c.loop-k.invariant c.get-weight.ensures c.in_err-try_weight.ensures)

pub loop-k-preserved : goal.loop-k-preserved
loop-k-preserved g c =
    swept_more c.args.inst.now c.args.shift.now c.args.nodes c.args.weights.now c.get-weight.result c.loop-k.k (c.loop-k.k + 1) _ _ _ _ _ _ _ _ _
    refl c.loop-k.invariant c.get-weight.ensures c.in_ok-try_weight.ensures
