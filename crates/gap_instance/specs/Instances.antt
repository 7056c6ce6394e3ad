-- An instance: a market with the limits of a job.
-- Source: the model of Chang, Meade, Beasley and Sharaiha, in whole lots; the turnover limit is own to portgap.
use Rattle.std.specs.Prelude.{◌≡◌, ℕ, ◌<◌, ◌≤◌, List, length, slice_index_or, Option}
use Rattle.std.specs.Option.{ForSome}
use Rattle.gap_base.specs.Markets.{MarketValue, IsMarket}
use Rattle.gap_base.specs.declared.job.Job.{Job}

-- what contracts see of an instance: its market, how many lots are placed, the least and the greatest number of assets
-- that are held, the least and the greatest lots of each asset where it is held, the present lots, and the greatest
-- turnover where one is set
pub record InstanceValue : Type 0 where
  pub market : MarketValue
  pub lots : ℕ
  pub held : ℕ
  pub held_most : ℕ
  pub least : List ℕ
  pub greatest : List ℕ
  pub present : List ℕ
  pub turnover : Option ℕ

-- a list has a number for each of n assets, and each is in low..high
pub record AreBetween (n low high : ℕ) (xs : List ℕ) : Type 0 where
  pub count : length xs ≡ n
  pub least : (i : ℕ) → i < n → low ≤ slice_index_or xs i 0
  pub most : (i : ℕ) → i < n → slice_index_or xs i 0 ≤ high

-- the limits of a job are in their ranges, for n assets
pub record AreLimits (n lots fewest most : ℕ) (least greatest present : List ℕ) (turnover : Option ℕ) : Type 0 where
  pub lots_least : 1 ≤ lots
  pub lots_most : lots ≤ 10000
  pub held_least : 1 ≤ fewest
  pub held_range : fewest ≤ most
  pub held_most : most ≤ n
  pub least_within : AreBetween n 1 lots least
  pub greatest_within : AreBetween n 1 lots greatest
  pub present_within : AreBetween n 0 10000 present
  pub turnover_most : ForSome turnover (λ t. t ≤ 3000000)

-- what holds of every instance: its market is one, and its limits are in their ranges
pub record IsInstance (I : InstanceValue) : Type 0 where
  pub market_is : IsMarket I.market
  pub limits_are : AreLimits I.market.assets I.lots I.held I.held_most I.least I.greatest I.present I.turnover

-- the instance of a market and a job
abbrev pub instance_of : MarketValue → Job → InstanceValue
instance_of market job = record {
  market = market;
  lots = job.lots;
  held = job.held;
  held_most = job.held_most;
  least = job.least;
  greatest = job.greatest;
  present = job.present;
  turnover = job.turnover;
}
