use Rattle.std.proofs.Common.{rules, ◌≡◌, length, refl, sym, ap, ◌∙◌}
use Rattle.std.proofs.lemmas.List.{nil_from_length}
use Rattle.std.proofs.lemmas.Result.{err_from_is_err_and}
use Rattle.gap_files.proofs.DrainLaws.{flows_none, flows_both, flows_end}
use Rattle.gap_upgrade.proofs.CloseLaws.{all_gone}
use Rattle.gap_upgrade.proofs.pouring.pour.Goals as goal

pub pieces-init : goal.pieces-init
pieces-init g c = record { flows = λ sink. flows_none c.args.name.now (g.F.Files.files c.args.files.now) sink c.args.writer.now.bytes; last = refl }

pub pieces-preserved : goal.pieces-preserved
pieces-preserved g c = record {
  flows = λ sink. flows_both c.args.name.now (g.F.Files.files c.args.files.now) (g.F.Files.files c.pieces.files) (g.F.Files.files c.pour_piece.new.files) sink c.args.writer.now.bytes c.pieces.writer.bytes c.pour_piece.new.writer.bytes
      (c.pieces.invariant.flows sink) (c.in_ok-pour_piece.ensures.pours sink);
  last = c.in_ok-pour_piece.ensures.last ∙ c.pieces.invariant.last;
}

pub returns-in_err-pour_piece-clause-step : goal.returns-in_err-pour_piece-clause-step
returns-in_err-pour_piece-clause-step g c = λ sink.
    let p = err_from_is_err_and c.from_residual.result c.from_residual.ensures.1 in
    rw (p.1, p.2) (flows_end c.args.name.now (g.F.Files.files c.args.files.now) (g.F.Files.files c.pieces.files) (g.F.Files.files c.pour_piece.new.files) sink c.args.writer.now.bytes c.pieces.writer.bytes _
    (c.pieces.invariant.flows sink) (c.in_err-pour_piece.ensures.pours sink))

pub returns-clause-step : goal.returns-clause-step
returns-clause-step g c = λ sink.
    let zero : length c.bytes.result.now ≡ 0 = search rules in
    let none = nil_from_length c.pieces.writer.bytes (ap length (sym c.bytes.ensures) ∙ zero) in
    all_gone c.args.name.now (g.F.Files.files c.args.files.now) (g.F.Files.files c.pieces.files) sink c.args.writer.now.bytes c.pieces.writer.bytes none (c.pieces.invariant.flows sink)
