-- Plain limits: those under which each order of the assets gives a list. Own to portgap.
use Rattle.std.specs.Prelude.{◌≡◌, ℕ, ◌*◌, ◌<◌, ◌≤◌, List, slice_index_or, Option, None}
use Rattle.gap_base.specs.declared.job.Job.{Job}
use Rattle.gap_instance.specs.Instances.{InstanceValue}

-- the limits of n assets are plain: one least and one greatest number of lots for all of them, no turnover limit, and a
-- number of assets from K1 to K2 that can have the L lots among them
pub record ArePlain (n lots fewest most : ℕ) (least greatest : List ℕ) (turnover : Option ℕ) : Type 0 where
  pub low : ℕ
  pub high : ℕ
  pub count : ℕ
  pub low_is : (i : ℕ) → i < n → slice_index_or least i 0 ≡ low
  pub high_is : (i : ℕ) → i < n → slice_index_or greatest i 0 ≡ high
  pub no_turnover : turnover ≡ None
  pub fewest_held : fewest ≤ count
  pub most_held : count ≤ most
  pub least_fits : count * low ≤ lots
  pub greatest_fits : lots ≤ count * high

-- an instance is plain
abbrev pub IsPlain : InstanceValue → Type 0
IsPlain I = ArePlain I.market.assets I.lots I.held I.held_most I.least I.greatest I.turnover

-- a job for n assets is plain
abbrev pub IsPlainJob : ℕ → Job → Type 0
IsPlainJob n job = ArePlain n job.lots job.held job.held_most job.least job.greatest job.turnover
