use Rattle.std.proofs.Common.{Result, Ok, Err, refl, ap, ◌∙◌}
use Rattle.gap_upgrade.specs.declared.stop.Stop.{Stop}
use Rattle.gap_upgrade.specs.declared.stop.Stop.TheVariants.{Refused, ReadFault, WriteFault, OutOfMemory}
use Rattle.gap_top.proofs.AnswerLaws.{renews_as}
use Rattle.gap_top.proofs.perform.renew.Goals as goal

abbrev stopped : Stop → Result (Unit {0}) Stop
stopped stop = Err stop

pub returns-in-Ok : goal.returns-in-Ok
returns-in-Ok g c = renews_as _ _ _ _ _ (g.S.Sink.sink c.upgrade.new.out) _ c.upgrade.result (Ok tt) _ c.in-Ok.is c.upgrade.ensures (refl, refl)

pub returns-in-Err-Refused : goal.returns-in-Err-Refused
returns-in-Err-Refused g c =
    renews_as _ _ _ _ _ (g.S.Sink.sink c.upgrade.new.out) _ c.upgrade.result (Err (Refused c.in-Err-Refused.fault)) _ (c.in-Err-Refused.is ∙ ap stopped c.in-Err-Refused.field-0-is) c.upgrade.ensures (c.end_by.result, refl, c.end_by.ensures)

pub returns-in-Err-ReadFault : goal.returns-in-Err-ReadFault
returns-in-Err-ReadFault g c =
    renews_as _ _ _ _ _ (g.S.Sink.sink c.upgrade.new.out) _ c.upgrade.result (Err ReadFault) _ (c.in-Err-ReadFault.is ∙ ap stopped c.in-Err-ReadFault.field-0-is) c.upgrade.ensures (refl, refl)

pub returns-in-Err-WriteFault : goal.returns-in-Err-WriteFault
returns-in-Err-WriteFault g c =
    renews_as _ _ _ _ _ (g.S.Sink.sink c.upgrade.new.out) _ c.upgrade.result (Err WriteFault) _ (c.in-Err-WriteFault.is ∙ ap stopped c.in-Err-WriteFault.field-0-is) c.upgrade.ensures (refl, refl)

pub returns-in-Err-OutOfMemory : goal.returns-in-Err-OutOfMemory
returns-in-Err-OutOfMemory g c =
    renews_as _ _ _ _ _ (g.S.Sink.sink c.upgrade.new.out) _ c.upgrade.result (Err OutOfMemory) _ (c.in-Err-OutOfMemory.is ∙ ap stopped c.in-Err-OutOfMemory.field-0-is) c.upgrade.ensures (refl, refl)
