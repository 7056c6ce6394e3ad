use Rattle.std.proofs.Common.{ℕ, List, ◌++◌, ap, ◌∙◌, sym, refl, Some}
use Rattle.gap_report.specs.Report.{lots_line}
use Rattle.gap_solve.specs.Ends.{best_in}
use Rattle.gap_sweep.specs.Texts.{portfolio_text}
use Rattle.gap_sweep.proofs.LineLaws.{printed_as, printed_none, portfolio_some, portfolio_none}
use Rattle.gap_sweep.proofs.weights.print_portfolio.Goals as goal

pub returns-in_ok-lots_line-in-Some : goal.returns-in_ok-lots_line-in-Some
returns-in_ok-lots_line-in-Some g c = λ name files.
    printed_as c.deref.result.now (portfolio_text (best_in c.args.outcome.now)) name files _ _ _
    (c.deref.ensures.value ∙ c.in_ok-lots_line-in-Some.ensures.ok ∙ ap (λ (x : List ℕ). x ++ lots_line c.in-Some.best.now.lots) c.new-line.ensures.items
    ∙ portfolio_some (best_in c.args.outcome.now) c.in-Some.best.now (sym c.in-Some.ensures))
    (c.print.ensures name files)

pub returns-in-None : goal.returns-in-None
returns-in-None g c = λ name files.
    printed_none (portfolio_text (best_in c.args.outcome.now)) name files _ (portfolio_none (best_in c.args.outcome.now) (sym c.in-None.ensures))
