use Rattle.std.proofs.Common.{ℕ, List, ◌++◌, ap, ◌∙◌}
use Rattle.gap_report.specs.Report.{front_line}
use Rattle.gap_sweep.proofs.LineLaws.{printed_as}
use Rattle.gap_sweep.proofs.rows.print_row.Goals as goal

pub returns : goal.returns
returns g c = λ name files.
    let text : List ℕ = front_line c.args.lots c.args.number c.args.row c.args.efficient in
    printed_as c.deref.result.now (front_line c.args.lots c.args.number c.args.row c.args.efficient) name files _ _ _
    (c.deref.ensures.value ∙ c.in_ok-front_line.ensures.ok ∙ ap (λ (x : List ℕ). x ++ text) c.new-line.ensures.items) (c.print.ensures name files)
