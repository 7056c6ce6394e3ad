-- Parts: lists of cells, and the lists of lots that they have. Own to portgap.

use Rattle.std.specs.Prelude.{◌≡◌, ℕ, ◌+◌, ◌*◌, ◌≤◌, ◌<◌, Bool, true, false, ◌&&◌, ltb, leb, List, [], ◌∷◌, length, count_by, slice_index_or, IsTrue, cond}
use Rattle.gap_box.specs.declared.cell.Cell.{Cell}
use Rattle.gap_box.specs.declared.cell.Cell.TheVariants.{Out, Free}
use Rattle.gap_box.specs.Cells.{in_cell, is_held, is_free, choices}

-- is a list of lots one of the part's? It has a number for each cell, which the cell allows
abbrev pub in_part : List Cell → List ℕ → Bool
in_part [] [] = true
in_part [] (v ∷ x) = false
in_part (cell ∷ cells) [] = false
in_part (cell ∷ cells) (v ∷ x) = in_cell cell v && in_part cells x

-- 1 where a test holds, else 0
abbrev pub indicator : Bool → ℕ
indicator true = 1
indicator false = 0

-- how many lists of lots a part has
abbrev pub points : List Cell → ℕ
points [] = 1
points (cell ∷ cells) = choices cell * points cells

-- how many assets a list of lots holds: its numbers that are positive
abbrev pub held_count : List ℕ → ℕ
held_count x = count_by (λ v. ltb 0 v) x

-- how many cells must be held
abbrev pub helds : List Cell → ℕ
helds cells = count_by is_held cells

-- how many cells are free to be held or not
abbrev pub frees : List Cell → ℕ
frees cells = count_by is_free cells

-- can a number of assets from `fewest` to `most` be held? At most `most` cells must be, and at least `fewest` may be
abbrev pub can_meet : List Cell → ℕ → ℕ → Bool
can_meet cells fewest most = leb (helds cells) most && leb fewest (helds cells + frees cells)

-- a list of the part that holds from `fewest` to `most` assets
pub record IsPick (cells : List Cell) (fewest most : ℕ) (x : List ℕ) : Type 0 where
  pub inside : IsTrue (in_part cells x)
  pub few : fewest ≤ held_count x
  pub many : held_count x ≤ most

-- the only list of the part that holds from `fewest` to `most` assets
pub record IsSingle (cells : List Cell) (fewest most : ℕ) (x : List ℕ) : Type 0 where
  pub pick : IsPick cells fewest most x
  pub only : (z : List ℕ) → IsPick cells fewest most z → z ≡ x

-- a part within another of the same length: each list of the one is a list of the other
pub record IsWithin (cells whole : List Cell) : Type 0 where
  pub same_length : length cells ≡ length whole
  pub inside : (x : List ℕ) → IsTrue (in_part cells x) → IsTrue (in_part whole x)

-- limits of assets: each is 1 to 10000
pub record AreLimits (limits : List ℕ) : Type 0 where
  pub least : (k : ℕ) → k < length limits → 1 ≤ slice_index_or limits k 0
  pub most : (k : ℕ) → slice_index_or limits k 0 ≤ 10000

-- the cell of an asset that may have 0 or its least to its greatest number of lots; only 0 where the least is above
-- the greatest
abbrev pub root_cell : ℕ → ℕ → Cell
root_cell least greatest = cond (ltb greatest least) Out (Free least greatest)

-- the part of all lists between the least and the greatest numbers of lots
abbrev pub root_cells : List ℕ → List ℕ → List Cell
root_cells [] greatest = []
root_cells (l ∷ least) [] = []
root_cells (l ∷ least) (u ∷ greatest) = root_cell l u ∷ root_cells least greatest
