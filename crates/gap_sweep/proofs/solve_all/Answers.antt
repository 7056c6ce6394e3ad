use Rattle.std.proofs.lemmas.Result.{err_from_is_err_and}
use Rattle.gap_sweep.proofs.SweepLaws.{runs_unstarted, runs_without_shift, runs_on}
use Rattle.gap_sweep.proofs.solve_all.Goals as goal

pub returns-in_err-start : goal.returns-in_err-start
returns-in_err-start g c =
    let p = err_from_is_err_and c.from_residual.result c.from_residual.ensures.1 in
    rw (p.1, p.2) (runs_unstarted (record { instance = c.args.inst.now; rounded = c.args.rounded; weights = c.args.weights.now; nodes = c.args.nodes; style = c.args.style })
    _ _ _ _ _ (c.in_err-start.ensures (g.S.Sink.sink c.args.out.now)))

pub returns-in_err-shift : goal.returns-in_err-shift
returns-in_err-shift g c =
    let p = err_from_is_err_and c.from_residual-in_err-shift.result c.from_residual-in_err-shift.ensures.1 in
    rw (p.1, p.2) (runs_without_shift (record { instance = c.args.inst.now; rounded = c.args.rounded; weights = c.args.weights.now; nodes = c.args.nodes; style = c.args.style })
    _ _ _ _ (c.in_ok-start.ensures (g.S.Sink.sink c.args.out.now)))

pub returns : goal.returns
returns g c =
    runs_on (record { instance = c.args.inst.now; rounded = c.args.rounded; weights = c.args.weights.now; nodes = c.args.nodes; style = c.args.style })
    _ _ _ _ _ _ _ (c.in_ok-start.ensures (g.S.Sink.sink c.args.out.now)) c.go_on.ensures
