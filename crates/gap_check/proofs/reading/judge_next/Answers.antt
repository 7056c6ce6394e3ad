use Rattle.std.proofs.Common.{Option, Result, Ok, sym, ap, ◌∙◌}
use Rattle.gap_model.specs.declared.cert_fault.CertFault.{CertFault}
use Rattle.gap_cert.specs.declared.field.Item.{Item}
use Rattle.gap_check.proofs.HistoryLaws.{judged_item}
use Rattle.gap_check.proofs.NextLaws.{shorter, due, on_behind}
use Rattle.gap_check.proofs.CheckerLaws.{none_on, none_read}
use Rattle.gap_check.proofs.reading.judge_next.Goals as goal

abbrev ok : Option Item → Result (Option Item) CertFault
ok o = Ok o

pub take-requires : goal.take-requires
take-requires c =
    let s = c.args.scanner.now in
    let p = c.args.judge.now in
    let e = sym c.next.ensures.answer ∙ c.in-Ok-Some.is ∙ ap ok c.in-Ok-Some.field-0-is in
    due s p c.in-Ok-Some.item c.requires e

pub returns-in-Ok-None-clause-on : goal.returns-in-Ok-None-clause-on
returns-in-Ok-None-clause-on c = none_on c.args.scanner.now c.next.new.self c.args.judge.now c.requires c.next.ensures.stands (sym c.next.ensures.answer ∙ c.in-Ok-None.is ∙ ap ok c.in-Ok-None.field-0-is)

pub returns-in-Ok-None-clause-steps : goal.returns-in-Ok-None-clause-steps
returns-in-Ok-None-clause-steps c = λ seen h. none_read c.args.scanner.now c.next.new.self c.args.judge.now seen c.requires c.next.ensures.stands (sym c.next.ensures.answer ∙ c.in-Ok-None.is ∙ ap ok c.in-Ok-None.field-0-is) h

pub returns-in_ok-take-in-Ok-Some-clause-on : goal.returns-in_ok-take-in-Ok-Some-clause-on
returns-in_ok-take-in-Ok-Some-clause-on c =
    let s = c.args.scanner.now in
    let p = c.args.judge.now in
    let e = sym c.next.ensures.answer ∙ c.in-Ok-Some.is ∙ ap ok c.in-Ok-Some.field-0-is in
    rw c.next.ensures.stands (rw c.in_ok-take-in-Ok-Some.ensures.ok (on_behind s p c.in-Ok-Some.item c.requires e c.in_ok-take-in-Ok-Some.ensures.right))

pub returns-in_ok-take-in-Ok-Some-clause-fewer : goal.returns-in_ok-take-in-Ok-Some-clause-fewer
returns-in_ok-take-in-Ok-Some-clause-fewer c = λ t.
    let s = c.args.scanner.now in
    let p = c.args.judge.now in
    let e = sym c.next.ensures.answer ∙ c.in-Ok-Some.is ∙ ap ok c.in-Ok-Some.field-0-is in
    rw c.next.ensures.stands (shorter s p c.in-Ok-Some.item c.requires e)

pub returns-in_ok-take-in-Ok-Some-clause-steps : goal.returns-in_ok-take-in-Ok-Some-clause-steps
returns-in_ok-take-in-Ok-Some-clause-steps c = λ seen h.
    let s = c.args.scanner.now in
    let p = c.args.judge.now in
    let e = sym c.next.ensures.answer ∙ c.in-Ok-Some.is ∙ ap ok c.in-Ok-Some.field-0-is in
    rw c.next.ensures.stands (rw c.in_ok-take-in-Ok-Some.ensures.ok (judged_item seen s p c.in-Ok-Some.item h e c.in_ok-take-in-Ok-Some.ensures.right))
