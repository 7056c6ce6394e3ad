use Rattle.std.proofs.Common.{sym, ◌∙◌}
use Rattle.std.proofs.lemmas.Result.{err_from_is_err_and}
use Rattle.gap_sweep.proofs.TryLaws.{tries_unsolved, tries_stopped, tries_unkept, tries_done}
use Rattle.gap_sweep.proofs.PutLaws.{solved_from, notes_from}
use Rattle.gap_sweep.proofs.weights.try_weight.Goals as goal

pub solve_one-requires-clause-warm : goal.solve_one-requires-clause-warm
solve_one-requires-clause-warm g c = λ x same. c.requires.warm x (sym c.as_ref-warm.ensures.value ∙ same)

pub returns-in_err-solved : goal.returns-in_err-solved
returns-in_err-solved g c =
    let p = err_from_is_err_and c.from_residual.result c.from_residual.ensures.1 in
    rw (p.1, p.2) (tries_unsolved c.args.inst.now c.args.shift.now c.args.nodes c.args.weight c.args.number c.args.carried.now c.args.name.now
    (g.F.Files.files c.args.files.now) (g.S.Sink.sink c.args.out.now))

pub returns-in_err-put_out : goal.returns-in_err-put_out
returns-in_err-put_out g c =
    let p = err_from_is_err_and c.from_residual-in_err-put_out.result c.from_residual-in_err-put_out.ensures.1 in
    rw (p.1, p.2) (tries_stopped c.args.inst.now c.args.shift.now c.args.nodes c.args.weight c.args.number c.args.carried.now c.args.carried.now c.args.name.now
    _ _ _ _ _ _ (solved_from _ _ _ _ _ _ _ c.as_ref-warm.ensures.value c.in_ok-solved.ensures) c.in_err-put_out.ensures)

pub returns-in_err-go_behind : goal.returns-in_err-go_behind
returns-in_err-go_behind g c =
    let p = err_from_is_err_and c.from_residual-in_err-go_behind.result c.from_residual-in_err-go_behind.ensures.1 in
    rw (p.1, p.2) (tries_unkept c.args.inst.now c.args.shift.now c.args.nodes c.args.weight c.args.number c.args.carried.now _ c.args.name.now
    _ _ _ _ _ (solved_from _ _ _ _ _ _ _ c.as_ref-warm.ensures.value c.in_ok-solved.ensures) c.in_ok-put_out.ensures)

pub returns : goal.returns
returns g c =
    tries_done c.args.inst.now c.args.shift.now c.args.nodes c.args.weight c.args.number c.args.carried.now _ c.args.name.now _ _ _ _ _
    (solved_from _ _ _ _ _ _ _ c.as_ref-warm.ensures.value c.in_ok-solved.ensures) c.in_ok-put_out.ensures
    (notes_from c.args.inst.now c.args.number _ _ _ _ _ c.args.carried.now _ c.weight.ensures c.found.ensures c.outcome.ensures (record {
      warm_is = c.in_ok-go_behind.ensures.warm;
      numbers_are = c.in_ok-go_behind.ensures.numbers;
      rows_are = c.in_ok-go_behind.ensures.rows;
    }))
