use Rattle.std.proofs.Common.{refl, ◌∙◌}
use Rattle.std.proofs.lemmas.Result.{err_from_is_err_and}
use Rattle.gap_files.proofs.DrainLaws.{flows_none, flows_both, breaks_end}
use Rattle.gap_writer.proofs.pieces.drain.Goals as goal

pub pieces-init : goal.pieces-init
pieces-init g c = record { flows = λ sink. flows_none c.args.name.now (g.F.Files.files c.args.files.now) sink c.args.writer.now.bytes; last = refl; some = c.requires.some }

pub pieces-preserved : goal.pieces-preserved
pieces-preserved g c = record {
  flows = λ sink. flows_both c.args.name.now (g.F.Files.files c.args.files.now) (g.F.Files.files c.pieces.files) (g.F.Files.files c.append_piece.new.files) sink c.args.writer.now.bytes c.pieces.writer.bytes c.append_piece.new.writer.bytes
      (c.pieces.invariant.flows sink) (c.in_ok-append_piece.ensures.drains sink);
  last = c.in_ok-append_piece.ensures.last ∙ c.pieces.invariant.last;
  some = c.in_ok-append_piece.ensures.some;
}

pub returns-in_err-append_piece-clause-drains : goal.returns-in_err-append_piece-clause-drains
returns-in_err-append_piece-clause-drains g c = λ sink.
    let p = err_from_is_err_and c.from_residual.result c.from_residual.ensures.1 in
    rw (p.1, p.2) (breaks_end c.args.name.now (g.F.Files.files c.args.files.now) (g.F.Files.files c.pieces.files) (g.F.Files.files c.append_piece.new.files) sink c.args.writer.now.bytes c.pieces.writer.bytes c.in_err-append_piece.field-0.0
    (c.pieces.invariant.flows sink) (c.in_err-append_piece.ensures.drains sink))
