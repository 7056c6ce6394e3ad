use Rattle.gap_top.proofs.TellLaws.{does_check, does_verify}
use Rattle.gap_top.proofs.perform.perform.Goals as goal

pub returns-in-Check : goal.returns-in-Check
returns-in-Check g c =
    does_check c.args.task.now c.args.source.now c.args.name.now c.in-Check.verdict (g.F.Files.files c.args.files.now) (g.S.Sink.sink c.args.out.now) (g.S.Sink.sink c.tell.new.out) c.tell.result c.in-Check.is c.requires c.tell.ensures

pub returns-in-Verify : goal.returns-in-Verify
returns-in-Verify g c =
    does_verify c.args.task.now c.args.source.now c.args.name.now c.in-Verify.verdict (g.F.Files.files c.args.files.now) (g.S.Sink.sink c.args.out.now) (g.S.Sink.sink c.tell-in-Verify.new.out) c.tell-in-Verify.result c.in-Verify.is c.requires c.tell-in-Verify.ensures

pub returns-in-Upgrade : goal.returns-in-Upgrade
returns-in-Upgrade g c = rw c.in-Upgrade.is c.renew.ensures
