use Rattle.std.proofs.Common.{rules, arith}
use Rattle.gap_base.proofs.MarketLaws.{IsMarket-deviation}
use Rattle.gap_base.proofs.market.Market.set_dev.Goals as goal

pub invariant_of-self : goal.invariant_of-self
invariant_of-self c = IsMarket-deviation _ _ _ c.self.invariant (search rules) (search rules)
