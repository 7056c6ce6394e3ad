-- Which split of a part a search makes, by the tangent point of its leaf. Own to portgap.
use Rattle.std.specs.Prelude.{◌≡◌, ℕ, ◌-◌, ◌/◌, min, max, false, true, List, length, slice_index_or}
use Rattle.gap_base.specs.Lots.{lots_at}
use Rattle.gap_box.specs.declared.cell.Cell.{Cell}
use Rattle.gap_box.specs.declared.cell.Cell.TheVariants.{Out, Held, Free}
use Rattle.gap_box.specs.declared.split.Split.{Split}
use Rattle.gap_box.specs.declared.split.Split.TheVariants.{Held as Hold, Lots as Cut}
use Rattle.gap_box.specs.Cells.{is_free}
use Rattle.gap_box.specs.Splits.{IsWidest, is_settled}
use Rattle.gap_witness.specs.Places.{IsFirstGreatest}

-- the number behind which the range of a cell that must be held is cut: the whole lots of its eighths, brought into l..u - 1
abbrev pub cut_behind : Cell → ℕ → ℕ
cut_behind Out v = 0
cut_behind (Held l u) v = max l (min (v / 8) (u - 1))
cut_behind (Free l u) v = 0

-- a split is the one for a part of which at most `most` assets may be held, and a point y in eighths: where it is settled
-- which assets are held, the widest cell that must be held is cut behind its whole lots; else the first of the free cells
-- with the most eighths is the one to be held or not
abbrev pub IsSplitFor : List Cell → ℕ → List ℕ → Split → Type 0
IsSplitFor cells most y (Hold i) =
    (is_settled cells most ≡ false)
    × IsFirstGreatest (length cells) (λ k. is_free (slice_index_or cells k Out)) (lots_at y) i
IsSplitFor cells most y (Cut i t) =
    (is_settled cells most ≡ true) × IsWidest cells i
    × (t ≡ cut_behind (slice_index_or cells i Out) (slice_index_or y i 0))
