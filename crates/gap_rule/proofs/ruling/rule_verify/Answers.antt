use Rattle.std.proofs.Common.{[], ◌∷◌}
use Rattle.gap_rule.specs.Rules.{market_ruling, job_ruling, behind, RulesClaimed}
use Rattle.gap_rule.proofs.RuleLaws.{looked_then}
use Rattle.gap_rule.proofs.ruling.rule_verify.Goals as goal

pub returns-clause-ruled : goal.returns-clause-ruled
returns-clause-ruled g c =
    looked_then c.args.port.now (c.args.job.now ∷ c.args.cert.now ∷ []) market_ruling (λ market holds. c.args.job.now ∷ behind (job_ruling market.assets (holds c.args.job.now)) (λ asked. c.args.cert.now ∷ []))
    (λ market holds. RulesClaimed market (holds c.args.job.now) (holds c.args.cert.now))
    (g.F.Files.files c.args.files.now) (g.F.Files.files c.read_market.new.files) (g.F.Files.files c.rule_claimed.new.files) c.in_ok-market.market c.rule_claimed.result c.in_ok-market.ensures.looked c.rule_claimed.ensures.ruled
