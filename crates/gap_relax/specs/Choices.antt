-- Ways to hold a number of assets in a range, each at a cost. Own to portgap.

use Rattle.std.specs.Prelude.{◌≡◌, ℕ, ◌*◌, ◌^◌, ◌<◌, ◌≤◌, Bool, true, not, if◌then◌else◌, List, length, slice_index_or, ℤ, ◌≤ℤ◌, IsTrue}
use Rattle.gap_base.specs.Sums.{sum_below, count_if}
use Rattle.gap_box.specs.declared.cell.Cell.{Cell}
use Rattle.gap_box.specs.declared.cell.Cell.TheVariants.{Out, Held, Free}

-- the greatest size of a cost
abbrev pub most_cost : ℕ
most_cost = 3 * 10 ^ 34

-- does a cell allow its asset to be held (true), or not (false)? Held is held, Out isn't, Free may be
abbrev pub allows : Cell → Bool → Bool
allows Out held = not held
allows (Held l u) held = held
allows (Free l u) held = true

-- the cell at a place
abbrev pub cell_at : List Cell → ℕ → Cell
cell_at cells i = slice_index_or cells i Out

-- a way to hold from `fewest` to `most` assets: for each place whether it is held, as its cell allows
pub record IsChoice (cells : List Cell) (fewest most : ℕ) (held : ℕ → Bool) : Type 0 where
  pub allowed : (i : ℕ) → i < length cells → IsTrue (allows (cell_at cells i) (held i))
  pub few : fewest ≤ count_if (length cells) held
  pub many : count_if (length cells) held ≤ most

-- the cost of a way over n places: of each place the cost of being held or of not being
abbrev pub total : ℕ → (ℕ → ℤ) → (ℕ → ℤ) → (ℕ → Bool) → ℤ
total n held_cost out_cost held = sum_below n (λ i. if held i then held_cost i else out_cost i)

-- the least cost over all ways to hold from `fewest` to `most` assets
pub record IsLeastChoice (cells : List Cell) (held_cost out_cost : ℕ → ℤ) (fewest most : ℕ) (least : ℤ) : Type 0 where
  pub reached : (held : ℕ → Bool) × IsChoice cells fewest most held × (total (length cells) held_cost out_cost held ≡ least)
  pub below : (held : ℕ → Bool) → IsChoice cells fewest most held → least ≤ℤ total (length cells) held_cost out_cost held

-- a value and a slope are those of one way, and no way costs less than the value
pub record IsLeastWay (cells : List Cell) (held_cost out_cost held_slope out_slope : ℕ → ℤ) (fewest most : ℕ)
    (value slope : ℤ) : Type 0 where
  pub reached : (held : ℕ → Bool) × IsChoice cells fewest most held
      × (total (length cells) held_cost out_cost held ≡ value) × (total (length cells) held_slope out_slope held ≡ slope)
  pub below : (held : ℕ → Bool) → IsChoice cells fewest most held → value ≤ℤ total (length cells) held_cost out_cost held
