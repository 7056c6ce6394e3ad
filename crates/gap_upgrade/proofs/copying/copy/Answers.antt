use Rattle.std.proofs.lemmas.Result.{err_from_is_err_and}
use Rattle.gap_upgrade.specs.declared.stop.Stop.TheVariants.{OutOfMemory}
use Rattle.gap_upgrade.proofs.CopyLaws.{stopped_before}
use Rattle.gap_upgrade.proofs.copying.copy.Goals as goal

pub returns-in_err-buffer : goal.returns-in_err-buffer
returns-in_err-buffer g c =
    let p = err_from_is_err_and c.from_residual.result c.from_residual.ensures.1 in
    rw (p.1, p.2) (stopped_before c.args.cert.now c.args.new.now (g.F.Files.files c.args.files.now) OutOfMemory tt tt)
