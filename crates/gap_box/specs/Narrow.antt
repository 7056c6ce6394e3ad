-- What a side of a split leaves of any cell, whatever the cell is, with Out where nothing is left. At a lawful split it
-- is the child, and two of them may be done in either order, so a part may be found from its decisions in any order.
-- Own to portgap.

use Rattle.std.specs.Prelude.{ℕ, ◌+◌, leb, cond, min, max, List, slice_index_or, slice_set}
use Rattle.gap_box.specs.declared.cell.Cell.{Cell}
use Rattle.gap_box.specs.declared.cell.Cell.TheVariants.{Out, Held, Free}
use Rattle.gap_box.specs.declared.split.Split.{Split}
use Rattle.gap_box.specs.declared.split.Split.TheVariants.{Held as Hold, Lots as Cut}
use Rattle.gap_box.specs.declared.split.Side.{Side}
use Rattle.gap_box.specs.declared.split.Side.TheVariants.{First, Second}

-- the cell that must have l to u lots, Out where there is no such number
abbrev pub range_cell : ℕ → ℕ → Cell
range_cell l u = cond (leb l u) (Held l u) Out

-- what is left of a cell where its asset isn't held (first) or is (second)
abbrev pub held_narrow : Cell → Side → Cell
held_narrow Out side = Out
held_narrow (Held l u) First = Out
held_narrow (Held l u) Second = Held l u
held_narrow (Free l u) First = Out
held_narrow (Free l u) Second = Held l u

-- what is left of a cell where its asset is held with at most t lots (first) or more (second)
abbrev pub cut_narrow : ℕ → Cell → Side → Cell
cut_narrow t Out side = Out
cut_narrow t (Held l u) First = range_cell l (min u t)
cut_narrow t (Held l u) Second = range_cell (max l (t + 1)) u
cut_narrow t (Free l u) First = range_cell l (min u t)
cut_narrow t (Free l u) Second = range_cell (max l (t + 1)) u

-- what a side of a split leaves of a cell of its asset
abbrev pub narrow_cell : Split → Cell → Side → Cell
narrow_cell (Hold i) cell side = held_narrow cell side
narrow_cell (Cut i t) cell side = cut_narrow t cell side

-- the asset that a split speaks of
abbrev pub asset_of : Split → ℕ
asset_of (Hold i) = i
asset_of (Cut i t) = i

-- what a side of a split leaves of a part: only the cell of its asset is made smaller
abbrev pub narrowed : List Cell → Split → Side → List Cell
narrowed cells split side =
    slice_set cells (asset_of split) (narrow_cell split (slice_index_or cells (asset_of split) Out) side)
