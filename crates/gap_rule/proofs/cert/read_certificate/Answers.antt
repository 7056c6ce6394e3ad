use Rattle.std.proofs.Common.{Ok, Err}
use Rattle.gap_words.specs.declared.refusal.Refusal.TheVariants.{Certificate}
use Rattle.gap_rule.specs.Certificates.{SaysCertificate, RulesCertificate}
use Rattle.gap_rule.specs.declared.consumer.ReadStop.TheVariants.{Refused}
use Rattle.gap_rule.proofs.CertLaws.{ruled_certificate}
use Rattle.gap_rule.proofs.RuleLaws.{looked_as}
use Rattle.gap_rule.proofs.cert.read_certificate.Goals as goal

pub returns-in-Ok-clause-looked : goal.returns-in-Ok-clause-looked
returns-in-Ok-clause-looked g c =
    looked_as c.args.name.now Certificate SaysCertificate RulesCertificate _ _ (Ok c.in-Ok.verdict) ruled_certificate c.in-Ok.ensures.told tt c.in-Ok.ensures.frame

pub returns-in-Err-Refused-clause-looked : goal.returns-in-Err-Refused-clause-looked
returns-in-Err-Refused-clause-looked g c =
    looked_as c.args.name.now Certificate SaysCertificate RulesCertificate (g.F.Files.files c.args.files.now) (g.F.Files.files c.read_file.new.files) (Err (Refused c.in-Err-Refused.fault)) ruled_certificate
    (rw c.in-Err-Refused.field-0-is at c.in-Err-Refused.ensures.told) tt c.in-Err-Refused.ensures.frame
