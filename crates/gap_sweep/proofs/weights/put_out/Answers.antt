use Rattle.std.proofs.lemmas.Result.{err_from_is_err_and}
use Rattle.gap_sweep.proofs.PutLaws.{put_unfilled, put_unlined, put_all_out}
use Rattle.gap_sweep.proofs.weights.put_out.Goals as goal

pub returns-in_err-write_section : goal.returns-in_err-write_section
returns-in_err-write_section g c = λ section is.
    let p = err_from_is_err_and c.from_residual.result c.from_residual.ensures.1 in
    rw (p.1, p.2) (put_unfilled c.args.inst.now.lots c.args.solved.now section _ _ _ _ _ (c.in_err-write_section.ensures (g.S.Sink.sink c.args.out.now) section is))

pub returns-in_err-print_weight : goal.returns-in_err-print_weight
returns-in_err-print_weight g c = λ section is.
    let p = err_from_is_err_and c.from_residual-in_err-print_weight.result c.from_residual-in_err-print_weight.ensures.1 in
    rw (p.1, p.2) (put_unlined c.args.inst.now.lots c.lots.result c.args.solved.now section _ _ _ _ _ _ c.lots.ensures.value
    (c.in_ok-write_section.ensures (g.S.Sink.sink c.args.out.now) section is)
    (c.in_err-print_weight.ensures c.args.name.now (g.F.Files.files c.write_section.new.files)))

pub returns : goal.returns
returns g c = λ section is.
    put_all_out c.args.inst.now.lots c.lots.result c.args.solved.now c.outcome.result.now section _ _ _ _ _ _ _ c.lots.ensures.value c.outcome.ensures
    (c.in_ok-write_section.ensures (g.S.Sink.sink c.args.out.now) section is)
    (c.in_ok-print_weight.ensures c.args.name.now (g.F.Files.files c.write_section.new.files))
    (c.print_portfolio.ensures c.args.name.now (g.F.Files.files c.write_section.new.files))
