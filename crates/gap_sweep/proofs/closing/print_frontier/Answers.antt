use Rattle.gap_sweep.specs.Texts.{frontier_text}
use Rattle.gap_sweep.proofs.LineLaws.{printed_as, printed_none, frontier_is, frontier_none}
use Rattle.gap_sweep.specs.Texts.{front_text}
use Rattle.gap_sweep.proofs.closing.print_frontier.Goals as goal

pub returns-in-Whole : goal.returns-in-Whole
returns-in-Whole g c = λ done carried name files.
    printed_as (front_text c.lots.result c.args.carried.now.rows.items c.args.carried.now.numbers.items c.args.carried.now.rows.items)
    (frontier_text c.args.inst.now c.args.style done) name files _ _ _
    (frontier_is c.args.inst.now c.args.style done c.lots.result c.args.carried.now.rows.items c.args.carried.now.numbers.items c.in-Whole.is c.lots.ensures.value
    carried.rows_are carried.numbers_are) (c.print_rows.ensures name files)

pub returns-in-Single : goal.returns-in-Single
returns-in-Single g c = λ done carried name files.
    printed_none (frontier_text c.args.inst.now c.args.style done) name files _ (frontier_none c.args.inst.now c.args.style done c.in-Single.is)
