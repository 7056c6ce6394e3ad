use Rattle.std.proofs.Common.{ap}
use Rattle.std.proofs.lemmas.Result.{err_from_is_err_and}
use Rattle.gap_writer.specs.Writing.{Written}
use Rattle.gap_upgrade.proofs.CloseLaws.{pour_ok, pour_err}
use Rattle.gap_upgrade.proofs.pouring.pour_piece.Goals as goal

pub returns-in_err-append-clause-pours : goal.returns-in_err-append-clause-pours
returns-in_err-append-clause-pours g c = λ sink.
    let p = err_from_is_err_and c.from_residual.result c.from_residual.ensures.1 in
    rw (p.1, p.2) (pour_err c.args.name.now (g.F.Files.files c.args.files.now) (g.F.Files.files c.append.new.files) sink c.args.writer.now.bytes c.bytes.result.now _ c.in_err-append.field-0.0 c.bytes.ensures (c.in_err-append.ensures.step sink))

pub returns-clause-pours : goal.returns-clause-pours
returns-clause-pours g c = λ sink.
    pour_ok c.args.name.now (g.F.Files.files c.args.files.now) (g.F.Files.files c.append.new.files) sink c.args.writer.now.bytes c.bytes.result.now _ _ c.bytes.ensures (ap (λ (x : Written). x.bytes) c.drop_front.ensures) (c.in_ok-append.ensures.step sink)
