use Rattle.std.proofs.Common.{Option, Result, Ok, sym, ap, ◌∙◌}
use Rattle.gap_model.specs.declared.cert_fault.CertFault.{CertFault}
use Rattle.gap_cert.specs.declared.field.Item.{Item}
use Rattle.gap_upgrade.proofs.ItemLaws.{written_item, written_all, at_fault}
use Rattle.gap_upgrade.proofs.copier.copy_item.Goals as goal

abbrev ok : Option Item → Result (Option Item) CertFault
ok o = Ok o

pub returns-in-Err-clause-steps : goal.returns-in-Err-clause-steps
returns-in-Err-clause-steps c = λ fed gone h. at_fault c.args.scanner.now c.args.writer.now fed gone c.in-Err.fault (sym c.next.ensures.answer ∙ c.in-Err.is) h

pub returns-in-Ok-None-clause-steps : goal.returns-in-Ok-None-clause-steps
returns-in-Ok-None-clause-steps c = λ fed gone h. written_all c.args.scanner.now c.next.new.self c.args.writer.now fed gone c.next.ensures.stands (sym c.next.ensures.answer ∙ c.in-Ok-None.is ∙ ap ok c.in-Ok-None.field-0-is) h

pub returns-in_ok-write_item-in-Ok-Some-clause-steps : goal.returns-in_ok-write_item-in-Ok-Some-clause-steps
returns-in_ok-write_item-in-Ok-Some-clause-steps c = λ fed gone h.
    written_item c.args.scanner.now c.next.new.self c.args.writer.now c.write_item.new.writer fed gone c.in-Ok-Some.item c.next.ensures.stands (sym c.next.ensures.answer ∙ c.in-Ok-Some.is ∙ ap ok c.in-Ok-Some.field-0-is) c.in_ok-write_item-in-Ok-Some.ensures h
