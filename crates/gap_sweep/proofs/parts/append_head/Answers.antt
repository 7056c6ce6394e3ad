use Rattle.std.proofs.lemmas.Result.{err_from_is_err_and}
use Rattle.gap_files.specs.Marks.{appends}
use Rattle.gap_files.proofs.StepLaws.{gives_up_at_once}
use Rattle.gap_sweep.specs.Texts.{head_bytes}
use Rattle.gap_sweep.proofs.PartLaws.{head_appended, head_written}
use Rattle.gap_sweep.proofs.parts.append_head.Goals as goal

pub returns-in_err-head : goal.returns-in_err-head
returns-in_err-head g c = λ sink.
    let p = err_from_is_err_and c.from_residual.result c.from_residual.ensures.1 in
    rw (p.1, p.2) (gives_up_at_once c.args.name.now (g.F.Files.files c.args.files.now) sink (appends (head_bytes c.args.inst.now c.args.shift.now c.args.nodes c.args.count)))

pub returns : goal.returns
returns g c = λ sink.
    head_appended c.args.inst.now c.args.shift.now c.args.nodes c.args.count c.args.name.now (g.F.Files.files c.args.files.now) (g.F.Files.files c.append.new.files) sink
    c.bytes.result.now c.append.result
    (head_written c.args.inst.now c.args.shift.now c.args.nodes c.args.count _ _ c.bytes.result.now c.new-writer.ensures c.in_ok-head.ensures.ok c.bytes.ensures)
    (c.append.ensures.step sink)
