use Rattle.gap_upgrade.proofs.CopyLaws.{appended_read}
use Rattle.gap_upgrade.proofs.copying.read_some.Goals as goal

pub returns-in-Ok-clause-calm : goal.returns-in-Ok-clause-calm
returns-in-Ok-clause-calm g c = λ new.
    appended_read c.args.cert.now new (g.F.Files.files c.args.files.now) (g.F.Files.files c.read_at.new.self) c.read_at.ensures.contents c.read_at.ensures.others c.read_at.ensures.later c.read_at.ensures.writes
