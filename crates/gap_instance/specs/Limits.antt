-- When a list of lots meets the limits of an instance, and which limit is the first that it breaks.
-- Source: the constraints of Chang, Meade, Beasley and Sharaiha, in whole lots; the turnover is own to portgap.
use Rattle.std.specs.Prelude.{◌≡◌, ◌≢◌, ℕ, ◌<◌, ◌≤◌, ◌⊎◌, List, length, slice_index_or, nat_lt, ℤ, pos, ◌-ℤ◌, ◌≤ℤ◌, ◌<ℤ◌, Some}
use Rattle.std.specs.Option.{ForSome}
use Rattle.gap_base.specs.Lots.{lots_at}
use Rattle.gap_base.specs.Sums.{sum_below, count_if, abs_z}
use Rattle.gap_instance.specs.Instances.{InstanceValue}
use Rattle.gap_instance.specs.declared.keeps.Broken.{Broken}
use Rattle.gap_instance.specs.declared.keeps.Broken.TheVariants.{Length, Lots, Held, Least, Greatest, Turnover}

-- the sum of the first n numbers of a list
abbrev pub sum_of : ℕ → List ℕ → ℤ
sum_of n x = sum_below n (lots_at x)

-- how many of the first n numbers of a list are positive
abbrev pub held_of : ℕ → List ℕ → ℕ
held_of n x = count_if n (λ i. nat_lt 0 (slice_index_or x i 0))

-- the turnover from the list b to the list x: the sum of |x_i - b_i| over n assets
abbrev pub turnover_of : ℕ → List ℕ → List ℕ → ℤ
turnover_of n b x = sum_below n (λ i. abs_z (lots_at x i -ℤ lots_at b i))

-- asset i is held with fewer lots than its least
abbrev pub IsBelowLeast : InstanceValue → List ℕ → ℕ → Type 0
IsBelowLeast I x i = (0 < slice_index_or x i 0) × (slice_index_or x i 0 < slice_index_or I.least i 0)

-- asset i is held with more lots than its greatest
abbrev pub IsAboveGreatest : InstanceValue → List ℕ → ℕ → Type 0
IsAboveGreatest I x i = slice_index_or I.greatest i 0 < slice_index_or x i 0

-- x holds fewer than K1 or more than K2 assets
abbrev pub HoldsOutside : InstanceValue → List ℕ → Type 0
HoldsOutside I x = (held_of I.market.assets x < I.held) ⊎ (I.held_most < held_of I.market.assets x)

-- a turnover limit is set, and the turnover is above it
abbrev pub TurnsTooMuch : InstanceValue → List ℕ → Type 0
TurnsTooMuch I x = (t : ℕ) × (I.turnover ≡ Some t) × (pos t <ℤ turnover_of I.market.assets I.present x)

-- x meets the limits: a number for each asset, their sum is L, from K1 to K2 of them are positive, each positive one is
-- from the least to the greatest lots of its asset, and the turnover is at most T where T is set
pub record MeetsLimits (I : InstanceValue) (x : List ℕ) : Type 0 where
  pub assets_are : length x ≡ I.market.assets
  pub lots_are : sum_of I.market.assets x ≡ pos I.lots
  pub fewest : I.held ≤ held_of I.market.assets x
  pub many : held_of I.market.assets x ≤ I.held_most
  pub least_kept : (i : ℕ) → i < I.market.assets → 0 < slice_index_or x i 0
      → slice_index_or I.least i 0 ≤ slice_index_or x i 0
  pub greatest_kept : (i : ℕ) → i < I.market.assets → slice_index_or x i 0 ≤ slice_index_or I.greatest i 0
  pub turnover_kept : ForSome I.turnover (λ t. turnover_of I.market.assets I.present x ≤ℤ pos t)

-- the number of assets, the sum of the lots and the number of held assets are right
pub record CountsAreMet (I : InstanceValue) (x : List ℕ) : Type 0 where
  pub assets_are : length x ≡ I.market.assets
  pub lots_are : sum_of I.market.assets x ≡ pos I.lots
  pub fewest : I.held ≤ held_of I.market.assets x
  pub many : held_of I.market.assets x ≤ I.held_most

-- asset i is the first of n assets of which P holds
pub record IsFirstWhere (P : ℕ → Type 0) (n i : ℕ) : Type 0 where
  pub below : i < n
  pub here : P i
  pub before : (k : ℕ) → k < i → P k → ⊥

-- P holds of none of n assets
abbrev pub IsOfNone : (ℕ → Type 0) → ℕ → Type 0
IsOfNone P n = (k : ℕ) → k < n → P k → ⊥

-- the first limit that x breaks, in the order length, lots, held, least, greatest, turnover, with the first such asset
abbrev pub IsFirstBroken : InstanceValue → List ℕ → Broken → Type 0
IsFirstBroken I x Length = length x ≢ I.market.assets
IsFirstBroken I x Lots = (length x ≡ I.market.assets) × (sum_of I.market.assets x ≢ pos I.lots)
IsFirstBroken I x Held = (length x ≡ I.market.assets) × (sum_of I.market.assets x ≡ pos I.lots) × HoldsOutside I x
IsFirstBroken I x (Least i) = CountsAreMet I x × IsFirstWhere (IsBelowLeast I x) I.market.assets i
IsFirstBroken I x (Greatest i) =
    CountsAreMet I x × IsOfNone (IsBelowLeast I x) I.market.assets × IsFirstWhere (IsAboveGreatest I x) I.market.assets i
IsFirstBroken I x Turnover =
    CountsAreMet I x × IsOfNone (IsBelowLeast I x) I.market.assets × IsOfNone (IsAboveGreatest I x) I.market.assets
    × TurnsTooMuch I x
