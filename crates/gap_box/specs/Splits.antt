-- Splits of a part into two. Own to portgap.

use Rattle.std.specs.Prelude.{◌≡◌, ℕ, ◌+◌, ◌-◌, ◌<◌, ◌≤◌, Bool, false, ◌&&◌, ◌||◌, eqb, ltb, leb, List, slice_index_or, slice_set, IsTrue}
use Rattle.gap_box.specs.declared.cell.Cell.{Cell}
use Rattle.gap_box.specs.declared.cell.Cell.TheVariants.{Out, Held, Free}
use Rattle.gap_box.specs.declared.split.Split.{Split}
use Rattle.gap_box.specs.declared.split.Split.TheVariants.{Held as Hold, Lots as Cut}
use Rattle.gap_box.specs.declared.split.Side.{Side}
use Rattle.gap_box.specs.declared.split.Side.TheVariants.{First, Second}
use Rattle.gap_box.specs.Cells.{is_free}
use Rattle.gap_box.specs.Parts.{helds, frees}

-- can the range of a cell that must be held be cut behind t?
abbrev pub can_cut : Cell → ℕ → Bool
can_cut Out t = false
can_cut (Held l u) t = leb l t && ltb t u
can_cut (Free l u) t = false

-- a split by whether an asset is held needs a free cell, a split of its lots a cell whose range it cuts
abbrev pub lawful_split : List Cell → Split → Bool
lawful_split cells (Hold i) = is_free (slice_index_or cells i Out)
lawful_split cells (Cut i t) = can_cut (slice_index_or cells i Out) t

-- a free cell, made one that isn't held (first) or must be (second)
abbrev pub held_side : Cell → Side → Cell
held_side Out side = Out
held_side (Held l u) side = Held l u
held_side (Free l u) First = Out
held_side (Free l u) Second = Held l u

-- the part of a cell's range up to t (first) or above t (second)
abbrev pub cut_side : ℕ → Cell → Side → Cell
cut_side t Out side = Out
cut_side t (Held l u) First = Held l t
cut_side t (Held l u) Second = Held (t + 1) u
cut_side t (Free l u) side = Free l u

-- a child of a part: the part with the cell of the split asset made smaller
abbrev pub child_cells : List Cell → Split → Side → List Cell
child_cells cells (Hold i) side = slice_set cells i (held_side (slice_index_or cells i Out) side)
child_cells cells (Cut i t) side = slice_set cells i (cut_side t (slice_index_or cells i Out) side)

-- how much a cell that must be held leaves open: its greatest number of lots less its least
abbrev pub width : Cell → ℕ
width Out = 0
width (Held l u) = u - l
width (Free l u) = 0

-- the first of the cells whose width is the greatest of all
pub record IsWidest (cells : List Cell) (i : ℕ) : Type 0 where
  pub greatest : (j : ℕ) → width (slice_index_or cells j Out) ≤ width (slice_index_or cells i Out)
  pub first : (j : ℕ) → j < i → width (slice_index_or cells j Out) < width (slice_index_or cells i Out)

-- is it settled which assets are held? As many cells must be held as may be, or none is free
abbrev pub is_settled : List Cell → ℕ → Bool
is_settled cells most = eqb (helds cells) most || eqb (frees cells) 0

-- a split cuts a part of which at most `most` assets may be held: it is lawful, and is by whether an asset is held until
-- that is settled, then by the lots of the widest cell that must be held
abbrev pub Cuts : List Cell → ℕ → Split → Type 0
Cuts cells most (Hold i) = IsTrue (lawful_split cells (Hold i)) × (is_settled cells most ≡ false)
Cuts cells most (Cut i t) = IsTrue (lawful_split cells (Cut i t)) × IsTrue (is_settled cells most) × IsWidest cells i
