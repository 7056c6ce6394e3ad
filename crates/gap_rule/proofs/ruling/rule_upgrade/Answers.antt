use Rattle.std.proofs.Common.{◌≡◌, Ok, refl}
use Rattle.gap_rule.specs.Certificates.{RulesCertificate}
use Rattle.gap_rule.specs.declared.task.Task.TheVariants.{Upgrade}
use Rattle.gap_rule.proofs.RuleLaws.{is_value, looked_goes, looked_halts}
use Rattle.gap_rule.proofs.ruling.rule_upgrade.Goals as goal

pub returns-in-Ok-clause-ruled : goal.returns-in-Ok-clause-ruled
returns-in-Ok-clause-ruled g c = λ new.
    looked_goes c.args.cert.now RulesCertificate (λ v r. r ≡ Ok (Upgrade v)) (g.F.Files.files c.args.files.now) (g.F.Files.files c.read_certificate.new.files) c.in-Ok.verdict (Ok (Upgrade c.in-Ok.verdict))
    c.in-Ok.ensures.looked (is_value (Ok (Upgrade c.in-Ok.verdict)) (Ok (Upgrade c.in-Ok.verdict)) refl) tt

pub returns-in-Err-clause-ruled : goal.returns-in-Err-clause-ruled
returns-in-Err-clause-ruled g c = λ new.
    looked_halts c.args.cert.now RulesCertificate (λ v r. r ≡ Ok (Upgrade v)) (g.F.Files.files c.args.files.now) (g.F.Files.files c.read_certificate.new.files) c.in-Err.halt c.in-Err.ensures.looked
