use Rattle.std.proofs.Common.{◌≡◌, Ok, refl}
use Rattle.gap_rule.specs.Certificates.{RulesCertificate}
use Rattle.gap_rule.specs.declared.task.Task.TheVariants.{Check}
use Rattle.gap_rule.proofs.RuleLaws.{is_value, looked_goes, looked_halts}
use Rattle.gap_rule.proofs.ruling.rule_check.Goals as goal

pub returns-in-Ok-clause-ruled : goal.returns-in-Ok-clause-ruled
returns-in-Ok-clause-ruled g c =
    looked_goes c.args.cert.now RulesCertificate (λ v r. r ≡ Ok (Check v)) (g.F.Files.files c.args.files.now) (g.F.Files.files c.read_certificate.new.files) c.in-Ok.verdict (Ok (Check c.in-Ok.verdict))
    c.in-Ok.ensures.looked (is_value (Ok (Check c.in-Ok.verdict)) (Ok (Check c.in-Ok.verdict)) refl) tt

pub returns-in-Err-clause-ruled : goal.returns-in-Err-clause-ruled
returns-in-Err-clause-ruled g c =
    looked_halts c.args.cert.now RulesCertificate (λ v r. r ≡ Ok (Check v)) (g.F.Files.files c.args.files.now) (g.F.Files.files c.read_certificate.new.files) c.in-Err.halt c.in-Err.ensures.looked
