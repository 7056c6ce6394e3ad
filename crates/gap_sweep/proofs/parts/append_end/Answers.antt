use Rattle.std.proofs.lemmas.Result.{err_from_is_err_and}
use Rattle.gap_files.specs.Marks.{appends}
use Rattle.gap_files.proofs.MarkLaws.{appends_some}
use Rattle.gap_files.proofs.StepLaws.{closes_refused, closes_with}
use Rattle.gap_writer.specs.Writing.{end_bytes}
use Rattle.gap_writer.proofs.ItemLaws.{end_some, end_written}
use Rattle.gap_sweep.proofs.parts.append_end.Goals as goal

pub returns-in_err-end : goal.returns-in_err-end
returns-in_err-end g c = λ sink.
    let p = err_from_is_err_and c.from_residual.result c.from_residual.ensures.1 in
    rw (p.1, p.2) (closes_refused c.args.name.now (g.F.Files.files c.args.files.now) sink (appends end_bytes) (appends_some end_bytes end_some))

pub returns : goal.returns
returns g c = λ sink.
    closes_with c.args.name.now (g.F.Files.files c.args.files.now) (g.F.Files.files c.append.new.files) sink c.bytes.result.now end_bytes c.append.result
    (end_written _ _ c.bytes.result.now c.new-writer.ensures c.in_ok-end.ensures.ok c.bytes.ensures) end_some c.append.ensures.step c.append.ensures.less
