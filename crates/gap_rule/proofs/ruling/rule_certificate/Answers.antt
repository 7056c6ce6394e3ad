use Rattle.gap_rule.specs.Certificates.{RulesCertificate}
use Rattle.gap_rule.specs.Rules.{RulesClaim}
use Rattle.gap_rule.proofs.RuleLaws.{looked_goes, looked_halts}
use Rattle.gap_rule.proofs.ruling.rule_certificate.Goals as goal

pub returns-in-Ok-clause-ruled : goal.returns-in-Ok-clause-ruled
returns-in-Ok-clause-ruled g c =
    looked_goes c.args.name.now RulesCertificate (RulesClaim c.args.market.now c.args.job.now) (g.F.Files.files c.args.files.now) (g.F.Files.files c.read_certificate.new.files) c.in-Ok.verdict c.rule_claim.result
    c.in-Ok.ensures.looked c.rule_claim.ensures.tells c.rule_claim.ensures.calm

pub returns-in-Err-clause-ruled : goal.returns-in-Err-clause-ruled
returns-in-Err-clause-ruled g c =
    looked_halts c.args.name.now RulesCertificate (RulesClaim c.args.market.now c.args.job.now) (g.F.Files.files c.args.files.now) (g.F.Files.files c.read_certificate.new.files) c.in-Err.halt c.in-Err.ensures.looked
