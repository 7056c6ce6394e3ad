-- The test of whether a list of lots meets the limits of an instance. Own to portgap; the limits are those of the
-- model of Chang, Meade, Beasley and Sharaiha, in whole lots, with a turnover limit.

use Rattle.std.specs.Prelude.{ℕ, zero, suc, Bool, true, ◌&&◌, ◌||◌, eqb, leb, List, length, sum, Option, Some, None, slice_index_or, pos, int_le}
use Rattle.gap_instance.specs.Instances.{InstanceValue}
use Rattle.gap_instance.specs.Limits.{held_of, turnover_of}

-- does a test hold at each place below n?
abbrev pub all_below : ℕ → (ℕ → Bool) → Bool
all_below zero p = true
all_below (suc n) p = all_below n p && p n

-- is the number of an asset at most its greatest, and 0 or at least its least?
abbrev pub keeps_range : InstanceValue → List ℕ → ℕ → Bool
keeps_range I x i =
    leb (slice_index_or x i 0) (slice_index_or I.greatest i 0)
    && (eqb (slice_index_or x i 0) 0 || leb (slice_index_or I.least i 0) (slice_index_or x i 0))

-- is the turnover at most T, where T is set?
abbrev pub keeps_turnover : InstanceValue → Option ℕ → List ℕ → Bool
keeps_turnover I None x = true
keeps_turnover I (Some t) x = int_le (turnover_of I.market.assets I.present x) (pos t)

-- does the list meet the limits of the instance?
unfoldable pub meets_limits : InstanceValue → List ℕ → Bool
meets_limits I x =
    eqb (length x) I.market.assets
    && (eqb (sum x) I.lots
    && ((leb I.held (held_of I.market.assets x) && leb (held_of I.market.assets x) I.held_most)
    && (all_below I.market.assets (keeps_range I x) && keeps_turnover I I.turnover x)))
