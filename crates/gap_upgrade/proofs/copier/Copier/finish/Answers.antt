use Rattle.std.proofs.Common.{sym, ◌∙◌}
use Rattle.std.proofs.lemmas.Result.{err_from_is_err_and}
use Rattle.gap_upgrade.proofs.CopierLaws.{same_err, finish_whole, finish_refused}
use Rattle.gap_upgrade.proofs.copier.Copier.finish.Goals as goal

pub returns-in_err-verdict-clause-refused : goal.returns-in_err-verdict-clause-refused
returns-in_err-verdict-clause-refused c = λ fault e fed gone h.
    let p = err_from_is_err_and c.from_residual.result c.from_residual.ensures.1 in
    finish_refused c.in_err-verdict.field-0.0 fault fed (λ v accepted. c.in_err-verdict.ensures.all fed v h.read accepted) (sym p.2 ∙ same_err _ _ (sym p.1 ∙ e))

pub returns-clause-whole : goal.returns-clause-whole
returns-clause-whole c = λ fed gone h empty. finish_whole c.args.self.checker c.args.self.scanner c.args.self.writer fed gone c.in_ok-verdict.verdict empty h (c.in_ok-verdict.ensures.yes fed h.read)
