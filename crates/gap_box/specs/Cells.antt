-- The cells of a part: which numbers of lots one asset may have. Own to portgap.

use Rattle.std.specs.Prelude.{ℕ, ◌+◌, ◌-◌, ◌≤◌, Bool, true, false, ◌&&◌, ◌||◌, eqb, leb, List, slice_index_or}
use Rattle.gap_box.specs.declared.cell.Cell.{Cell}
use Rattle.gap_box.specs.declared.cell.Cell.TheVariants.{Out, Held, Free}

-- a cell in range: its numbers go from at least 1 up to at most 10000
abbrev pub IsCell : Cell → Type 0
IsCell Out = Unit {0}
IsCell (Held l u) = (1 ≤ l) × (l ≤ u) × (u ≤ 10000)
IsCell (Free l u) = (1 ≤ l) × (l ≤ u) × (u ≤ 10000)

-- each cell of a list is in range
pub record AreCells (cells : List Cell) : Type 0 where
  pub each : (k : ℕ) → IsCell (slice_index_or cells k Out)

-- does a cell allow a number of lots? Out allows 0, Held a range, Free both
abbrev pub in_cell : Cell → ℕ → Bool
in_cell Out v = eqb v 0
in_cell (Held l u) v = leb l v && leb v u
in_cell (Free l u) v = eqb v 0 || (leb l v && leb v u)

-- must an asset of this cell be held?
abbrev pub is_held : Cell → Bool
is_held Out = false
is_held (Held l u) = true
is_held (Free l u) = false

-- is it free whether an asset of this cell is held?
abbrev pub is_free : Cell → Bool
is_free Out = false
is_free (Held l u) = false
is_free (Free l u) = true

-- how many numbers of lots a cell allows
abbrev pub choices : Cell → ℕ
choices Out = 1
choices (Held l u) = (u - l) + 1
choices (Free l u) = (u - l) + 2
