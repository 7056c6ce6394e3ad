use Rattle.std.proofs.lemmas.Result.{err_from_is_err_and}
use Rattle.gap_upgrade.proofs.UpgradeLaws.{upgrade_unopened, opened, upgrade_uncopied, upgrade_closed}
use Rattle.gap_upgrade.proofs.upgrade.Goals as goal

pub returns-in_err-stopped : goal.returns-in_err-stopped
returns-in_err-stopped g c =
    let p = err_from_is_err_and c.from_residual.result c.from_residual.ensures.1 in
    rw (p.1, p.2) (upgrade_unopened c.args.cert.now c.args.new.now _ _ _ c.start.result c.in_err-stopped.field-0.0 c.in_err-stopped.ensures (c.start.ensures (g.S.Sink.sink c.args.out.now)))

pub returns-in_err-verdict : goal.returns-in_err-verdict
returns-in_err-verdict g c =
    let p = err_from_is_err_and c.from_residual-in_err-verdict.result c.from_residual-in_err-verdict.ensures.1 in
    rw (p.1, p.2) (upgrade_uncopied c.args.cert.now c.args.new.now _ _ _ _ _ (opened c.args.new.now _ _ _ c.start.result _ c.in_ok-stopped.ensures (c.start.ensures (g.S.Sink.sink c.args.out.now))) c.in_err-verdict.ensures)

pub returns : goal.returns
returns g c =
    upgrade_closed c.args.cert.now c.args.new.now _ _ _ _ _ _ _ c.close.result _ c.stopped-2.ensures (opened c.args.new.now _ _ _ c.start.result _ c.in_ok-stopped.ensures (c.start.ensures (g.S.Sink.sink c.args.out.now))) c.in_ok-verdict.ensures c.close.ensures
