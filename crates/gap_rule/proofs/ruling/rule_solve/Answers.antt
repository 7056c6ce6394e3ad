use Rattle.gap_rule.specs.Rules.{market_ruling, RulesJob}
use Rattle.gap_rule.proofs.RuleLaws.{looked_then}
use Rattle.std.proofs.Common.{[], ◌∷◌}
use Rattle.gap_rule.proofs.ruling.rule_solve.Goals as goal

pub returns-clause-ruled : goal.returns-clause-ruled
returns-clause-ruled g c = λ cert.
    looked_then c.args.port.now (c.args.job.now ∷ []) market_ruling (λ market holds. c.args.job.now ∷ []) (λ market holds. RulesJob market (holds c.args.job.now))
    (g.F.Files.files c.args.files.now) _ (g.F.Files.files c.rule_job.new.files) c.in_ok-market.market c.rule_job.result c.in_ok-market.ensures.looked c.rule_job.ensures.ruled
