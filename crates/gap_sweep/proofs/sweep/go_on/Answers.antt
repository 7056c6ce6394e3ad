use Rattle.std.proofs.Common.{refl}
use Rattle.std.proofs.lemmas.Result.{err_from_is_err_and}
use Rattle.gap_sweep.proofs.TryLaws.{carried_rows}
use Rattle.gap_sweep.proofs.SweepLaws.{goes_unopened, goes_under_way, goes_to_the_end}
use Rattle.gap_sweep.proofs.sweep.go_on.Goals as goal

pub returns-in_err-open : goal.returns-in_err-open
returns-in_err-open g c =
    let p = err_from_is_err_and c.from_residual.result c.from_residual.ensures.1 in
    rw (p.1, p.2) (goes_unopened (record { instance = c.args.inst.now; rounded = c.args.rounded; weights = c.args.weights.now; nodes = c.args.nodes; style = c.args.style })
    c.args.shift.now _ _ _ _ _ _ c.requires.shift c.in_err-open.ensures)

pub returns-in_err-try_weights : goal.returns-in_err-try_weights
returns-in_err-try_weights g c =
    let p = err_from_is_err_and c.from_residual-in_err-try_weights.result c.from_residual-in_err-try_weights.ensures.1 in
    rw (p.1, p.2) (goes_under_way (record { instance = c.args.inst.now; rounded = c.args.rounded; weights = c.args.weights.now; nodes = c.args.nodes; style = c.args.style })
    c.args.shift.now _ _ _ _ _ _ _ _ _ c.requires.shift c.in_ok-open.ensures c.in_err-try_weights.ensures)

pub close-requires : goal.close-requires
close-requires g c = carried_rows c.args.inst.now _ c.in_ok-try_weights.ensures.done (c.in_ok-try_weights.ensures.carries refl)

pub returns : goal.returns
returns g c =
    goes_to_the_end (record { instance = c.args.inst.now; rounded = c.args.rounded; weights = c.args.weights.now; nodes = c.args.nodes; style = c.args.style })
    c.args.shift.now _ _ _ _ _ _ _ _ _ _ _ c.requires.shift c.in_ok-open.ensures c.in_ok-try_weights.ensures
    (c.close.ensures c.in_ok-try_weights.ensures.done (c.in_ok-try_weights.ensures.carries refl))
