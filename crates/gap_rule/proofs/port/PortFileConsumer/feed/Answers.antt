use Rattle.std.proofs.Common.{◌++◌, sym, ◌∙◌}
use Rattle.gap_rule.proofs.PortLaws.{going_within}
use Rattle.gap_rule.proofs.port.PortFileConsumer.feed.Goals as goal

pub returns-in-Ok-clause-within : goal.returns-in-Ok-clause-within
returns-in-Ok-clause-within c = λ ok fed h. going_within _ (fed ++ c.args.piece.now) (c.feed.ensures.read fed h) (sym c.feed.ensures.answer ∙ c.in-Ok.is)
