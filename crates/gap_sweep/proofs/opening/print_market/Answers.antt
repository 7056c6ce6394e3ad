use Rattle.std.proofs.Common.{ℕ, List, ◌++◌, ap, ◌∙◌, to_z, of_z}
use Rattle.std.specs.Int.{w128}
use Rattle.std.proofs.lemmas.Int.{to_z-of_z}
use Rattle.gap_report.specs.Report.{market_line}
use Rattle.gap_sweep.specs.Texts.{market_text}
use Rattle.gap_sweep.proofs.LineLaws.{printed_as, printed_none, market_whole, market_single}
use Rattle.gap_sweep.proofs.opening.print_market.Goals as goal

pub returns-in_ok-market_line-in-Whole : goal.returns-in_ok-market_line-in-Whole
returns-in_ok-market_line-in-Whole g c = λ name files.
    let back = to_z-of_z w128 c.total.result (record { sfits = c.total.type_inv }) in
    printed_as c.deref.result.now (market_text c.args.style c.args.inst.now c.args.rounded c.args.shift.now) name files _ _ _
    (c.deref.ensures.value ∙ c.in_ok-market_line-in-Whole.ensures.ok
    ∙ ap (λ (x : List ℕ). x ++ market_line c.n.result c.args.rounded (to_z w128 (of_z w128 c.total.result))) c.new-line.ensures.items
    ∙ market_whole c.args.style c.args.inst.now c.args.rounded c.args.shift.now c.n.result (to_z w128 (of_z w128 c.total.result)) c.in-Whole.is c.n.ensures.value
    (back ∙ c.total.ensures.value))
    (c.print.ensures name files)

pub returns-in-Single : goal.returns-in-Single
returns-in-Single g c = λ name files.
    printed_none (market_text c.args.style c.args.inst.now c.args.rounded c.args.shift.now) name files _
    (market_single c.args.style c.args.inst.now c.args.rounded c.args.shift.now c.in-Single.is)
