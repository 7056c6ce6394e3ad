use Rattle.std.proofs.Common.{ℕ, ap, List, ◌++◌, sym}
use Rattle.std.proofs.lemmas.Result.{err_from_is_err_and}
use Rattle.gap_sweep.specs.Traces.{opening_trace}
use Rattle.gap_sweep.proofs.OpenLaws.{opens_stopped, opens_both}
use Rattle.gap_sweep.proofs.opening.open.Goals as goal

pub returns-in_err-append_head : goal.returns-in_err-append_head
returns-in_err-append_head g c =
    let p = err_from_is_err_and c.from_residual.result c.from_residual.ensures.1 in
    rw (p.1, p.2) (opens_stopped (record { instance = c.args.inst.now; rounded = c.args.rounded; weights = c.args.weights.now; nodes = c.args.nodes; style = c.args.style }) c.args.shift.now
    c.len.result c.len.ensures.length _ _ _ _ _ (c.in_err-append_head.ensures (g.S.Sink.sink c.args.out.now)))

pub returns : goal.returns
returns g c =
    opens_both (record { instance = c.args.inst.now; rounded = c.args.rounded; weights = c.args.weights.now; nodes = c.args.nodes; style = c.args.style }) c.args.shift.now
    c.len.result c.len.ensures.length _ _ _ _ _ _ (c.in_ok-append_head.ensures (g.S.Sink.sink c.args.out.now))
    (c.print_market.ensures c.args.name.now (g.F.Files.files c.append_head.new.files))
