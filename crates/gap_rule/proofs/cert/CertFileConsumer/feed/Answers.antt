use Rattle.std.proofs.Common.{◌≡◌, ◌++◌, Result, Err, sym, ap, ◌∙◌}
use Rattle.gap_model.specs.declared.cert_fault.CertFault.{CertFault}
use Rattle.gap_judge.specs.declared.stop.CertStop.{CertStop}
use Rattle.gap_judge.specs.declared.stop.CertStop.TheVariants.{Fault}
use Rattle.gap_rule.proofs.CertLaws.{refused_certificate}
use Rattle.gap_rule.proofs.cert.CertFileConsumer.feed.Goals as goal

abbrev stopped : CertFault → Result (Unit {0}) CertStop
stopped fault = Err (Fault fault)

pub returns-in-Err-Fault-clause-refused : goal.returns-in-Err-Fault-clause-refused
returns-in-Err-Fault-clause-refused c = λ fault e fed rest h.
    let same : c.in-Err-Fault.fault ≡ fault = cc in
    refused_certificate c.feed.new.self (fed ++ c.args.piece.now) rest fault (c.feed.ensures.read fed h.read) (sym c.feed.ensures.answer ∙ c.in-Err-Fault.is ∙ ap (λ (x : CertStop). Err x) c.in-Err-Fault.field-0-is ∙ ap stopped same)
