use Rattle.std.proofs.Common.{◌∙◌}
use Rattle.gap_top.proofs.PrintLaws.{refuses}
use Rattle.gap_top.proofs.print.refuse.Goals as goal

pub returns : goal.returns
returns g c =
    refuses c.args.refusal c.as_bytes.result.now _ _ c.print.result _ (c.as_bytes.ensures.value ∙ c.in-Ok.ensures) c.print.ensures.prints c.print.ensures.quiet c.refused_stop.ensures
