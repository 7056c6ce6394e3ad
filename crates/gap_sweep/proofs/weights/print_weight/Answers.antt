use Rattle.std.proofs.Common.{ℕ, List, ◌++◌, ap, ◌∙◌}
use Rattle.gap_report.specs.Report.{weight_line}
use Rattle.gap_sweep.specs.Texts.{weight_text}
use Rattle.gap_sweep.proofs.LineLaws.{printed_as, weight_is}
use Rattle.gap_sweep.proofs.weights.print_weight.Goals as goal

pub returns : goal.returns
returns g c = λ name files.
    printed_as c.deref.result.now (weight_text c.args.lots c.args.solved.now) name files _ _ _
    (c.deref.ensures.value ∙ c.in_ok-weight_line.ensures.ok ∙ ap (λ (x : List ℕ). x ++ weight_line c.args.lots c.line.result c.inner.result) c.new-line.ensures.items
    ∙ weight_is c.args.lots c.args.solved.now c.line.result c.inner.result c.line.ensures c.inner.ensures)
    (c.print.ensures name files)
