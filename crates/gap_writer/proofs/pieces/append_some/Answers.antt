use Rattle.gap_writer.proofs.Pouring.{filled}
use Rattle.gap_writer.proofs.pieces.append_some.Goals as goal

pub returns : goal.returns
returns g c = λ sink. filled c.args.name.now (g.F.Files.files c.args.files.now) (g.F.Files.files c.append.new.files) sink c.args.bytes.now c.append.result c.requires (c.append.ensures.step sink) (λ e h. c.append.ensures.less e h sink)
