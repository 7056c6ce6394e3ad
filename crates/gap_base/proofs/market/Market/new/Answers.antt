use Rattle.std.proofs.Common.{rules}
use Rattle.gap_base.proofs.MarketLaws.{IsMarket-made}
use Rattle.gap_base.proofs.market.Market.new.Goals as goal

pub invariant_of-result : goal.invariant_of-result
invariant_of-result c =
    IsMarket-made _ _ _ _ c.requires.few c.requires.many (search rules) (search rules) (search rules)
