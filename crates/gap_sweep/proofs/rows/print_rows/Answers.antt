use Rattle.std.proofs.Common.{refl, sym, ◌≡◌, ◌<◌, ◌≤◌, length, arith}
use Rattle.std.proofs.lemmas.Result.{err_from_is_err_and}
use Rattle.std.proofs.lemmas.Option.{get_or_from_slice_get}
use Rattle.gap_sweep.proofs.LineLaws.{printed_none}
use Rattle.gap_sweep.proofs.RowLaws.{rows_more, rows_stopped, rows_all, row_printed}
use Rattle.gap_sweep.proofs.rows.print_rows.Goals as goal

pub loop-k-init : goal.loop-k-init
loop-k-init g c = λ name files. printed_none _ name files _ refl

pub loop-k-preserved : goal.loop-k-preserved
loop-k-preserved g c = λ name files.
    rows_more c.args.lots c.args.carried.now.rows.items c.args.carried.now.numbers.items c.args.carried.now.rows.items c.loop-k.k c.row_at-row.result name files _ _ _
    (omega (arith, c.requires, c.len-k-end.ensures)) (omega (arith, c.len-k-end.ensures)) (get_or_from_slice_get c.args.carried.now.rows.items c.loop-k.k c.row_at-row.result c.row_at-row.result c.row_at-row.ensures)
    (c.loop-k.invariant name files)
    (row_printed c.args.lots c.args.carried.now.rows.items _ _ _ _ name files _ _ _ c.number_at.ensures c.rank_of-rank.ensures (c.in_ok-print_row.ensures name files))

pub returns-in_err-print_row : goal.returns-in_err-print_row
returns-in_err-print_row g c = λ name files.
    let p = err_from_is_err_and c.from_residual.result c.from_residual.ensures.1 in
    rw (p.1, p.2) (rows_stopped c.args.lots c.args.carried.now.rows.items c.args.carried.now.numbers.items c.args.carried.now.rows.items c.loop-k.k c.row_at-row.result _ name files _ _ _
    (omega (arith, c.requires, c.len-k-end.ensures)) (omega (arith, c.len-k-end.ensures)) (get_or_from_slice_get c.args.carried.now.rows.items c.loop-k.k c.row_at-row.result c.row_at-row.result c.row_at-row.ensures)
    (c.loop-k.invariant name files)
    (row_printed c.args.lots c.args.carried.now.rows.items _ _ _ _ name files _ _ _ c.number_at.ensures c.rank_of-rank.ensures (c.in_err-print_row.ensures name files)))

pub returns : goal.returns
returns g c = λ name files.
    rows_all c.args.lots c.args.carried.now.rows.items c.args.carried.now.numbers.items c.args.carried.now.rows.items c.loop-k.k name files _ _
    (omega (arith, c.len-k-end.ensures)) c.requires (c.loop-k.invariant name files)
