use Rattle.std.proofs.lemmas.Result.{err_from_is_err_and}
use Rattle.gap_sweep.proofs.SweepLaws.{closes_early, closes_behind}
use Rattle.gap_sweep.proofs.closing.close.Goals as goal

pub returns-in_err-print_frontier : goal.returns-in_err-print_frontier
returns-in_err-print_frontier g c = λ done carried.
    let p = err_from_is_err_and c.from_residual.result c.from_residual.ensures.1 in
    rw (p.1, p.2) (closes_early c.args.inst.now c.args.style done _ _ _ _ _ _ (c.in_err-print_frontier.ensures done carried c.args.name.now (g.F.Files.files c.args.files.now)))

pub returns : goal.returns
returns g c = λ done carried.
    closes_behind c.args.inst.now c.args.style done _ _ _ _ _ _ _ _ (c.in_ok-print_frontier.ensures done carried c.args.name.now (g.F.Files.files c.args.files.now))
    (c.append_end.ensures (g.S.Sink.sink c.print_frontier.new.out))
