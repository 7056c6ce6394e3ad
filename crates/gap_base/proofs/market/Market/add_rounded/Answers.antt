use Rattle.gap_base.proofs.MarketLaws.{IsMarket-rounded}
use Rattle.gap_base.proofs.market.Market.add_rounded.Goals as goal

pub invariant_of-self : goal.invariant_of-self
invariant_of-self c = IsMarket-rounded _ c.self.invariant
