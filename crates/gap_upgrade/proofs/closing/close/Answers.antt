use Rattle.std.proofs.Common.{◌∙◌}
use Rattle.std.proofs.lemmas.Result.{err_from_is_err_and}
use Rattle.gap_upgrade.proofs.CloseLaws.{closes_untold, closes_early, closes_behind}
use Rattle.gap_upgrade.proofs.closing.close.Goals as goal

pub returns-in_err-text : goal.returns-in_err-text
returns-in_err-text g c =
    let p = err_from_is_err_and c.from_residual.result c.from_residual.ensures.1 in
    rw (p.1, p.2) (closes_untold c.args.verdict.now c.args.new.now (g.F.Files.files c.args.files.now) (g.S.Sink.sink c.args.out.now))

pub returns-in_err-print : goal.returns-in_err-print
returns-in_err-print g c =
    let p = err_from_is_err_and c.from_residual-in_err-print.result c.from_residual-in_err-print.ensures.1 in
    rw (p.1, p.2) (closes_early c.args.verdict.now c.as_slice.result.now c.args.new.now _ _ _ _ _ (c.as_slice.ensures.value ∙ c.in_ok-text.ensures) (c.in_err-print.ensures c.args.new.now (g.F.Files.files c.args.files.now)))

pub returns : goal.returns
returns g c =
    closes_behind c.args.verdict.now c.as_slice.result.now c.args.new.now _ _ _ _ _ _ _ (c.as_slice.ensures.value ∙ c.in_ok-text.ensures) (c.in_ok-print.ensures c.args.new.now (g.F.Files.files c.args.files.now)) (c.append_end.ensures (g.S.Sink.sink c.print.new.out))
