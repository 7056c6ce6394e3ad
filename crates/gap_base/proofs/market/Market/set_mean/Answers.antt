use Rattle.std.proofs.Common.{rules, arith}
use Rattle.std.proofs.lemmas.Int.{to_z-of_z}
use Rattle.gap_base.proofs.MarketLaws.{IsMarket-mean}
use Rattle.gap_base.proofs.market.Market.set_mean.Goals as goal

pub invariant_of-self : goal.invariant_of-self
invariant_of-self c = IsMarket-mean _ _ _ c.self.invariant (search rules) (search rules)
