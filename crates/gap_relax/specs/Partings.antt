-- The price that parts the numbers of a least sum from the others. Own to portgap.

use Rattle.std.specs.Prelude.{◌≡◌, ℕ, ◌<◌, ◌≤◌, Bool, not, ◌&&◌, ◌||◌, ltb, if◌then◌else◌, List, length, slice_set, ℤ, pos, ◌<ℤ◌, ◌≤ℤ◌, int_lt}
use Rattle.gap_base.specs.Sums.{count_if, at}

-- a price has at most count numbers below it and at least count at or below it
pub record IsAround (n : ℕ) (numbers : ℕ → ℤ) (count : ℕ) (price : ℤ) : Type 0 where
  pub low : count_if n (λ i. int_lt (numbers i) price) ≤ count
  pub high : count ≤ count_if n (λ i. not (int_lt price (numbers i)))

-- a price parts a count of fewest to most numbers from the others: only where most are taken is it negative, and only
-- where fewest are taken is it positive
pub record IsParted (n fewest most : ℕ) (numbers : ℕ → ℤ) (price : ℤ) (count : ℕ) : Type 0 where
  pub few : fewest ≤ count
  pub many : count ≤ most
  pub around : IsAround n numbers count price
  pub negative : price <ℤ pos 0 → count ≡ most
  pub positive : pos 0 <ℤ price → count ≡ fewest

-- is a number at the price?
abbrev pub is_tie : ℤ → ℤ → Bool
is_tie price x = not (int_lt x price) && not (int_lt price x)

-- is a number taken at a price, where so many of those at the price may be?
abbrev pub takes : ℤ → ℤ → ℕ → Bool
takes price x left = int_lt x price || (not (int_lt price x) && ltb 0 left)

-- no number of a row is greater than that at a place
pub record IsGreatestAt (row : List ℤ) (top : ℕ) : Type 0 where
  pub each : (j : ℕ) → j < length row → at row j ≤ℤ at row top

-- a row after a number took a place where it is below what stood there
abbrev pub with_less : List ℤ → ℕ → ℤ → List ℤ
with_less row top number = if int_lt number (at row top) then slice_set row top number else row

-- a row has the least of n numbers, as many as it has room for: as many of both are below any price, unless all of the row
-- are
pub record HasLeast (n : ℕ) (numbers : ℕ → ℤ) (row : List ℤ) : Type 0 where
  pub few : (t : ℤ) → count_if (length row) (λ j. int_lt (at row j) t) ≤ count_if n (λ i. int_lt (numbers i) t)
  pub all : (t : ℤ) → count_if (length row) (λ j. int_lt (at row j) t) < length row
      → count_if n (λ i. int_lt (numbers i) t) ≤ count_if (length row) (λ j. int_lt (at row j) t)
