-- The fewest and the most lots of a part's lists that hold a number of assets in a range, by a price that parts the free
-- cells that are held from the others. Own to portgap.
use Rattle.std.specs.Prelude.{◌≡◌, ℕ, ◌+◌, ◌-◌, ◌≤◌, Bool, false, ltb, List, sum, sum_by, count_by}
use Rattle.gap_box.specs.declared.cell.Cell.{Cell}
use Rattle.gap_box.specs.declared.cell.Cell.TheVariants.{Out, Held, Free}
use Rattle.gap_box.specs.Parts.{IsPick}
use Rattle.gap_tangent.specs.declared.lots.End.{End}
use Rattle.gap_tangent.specs.declared.lots.End.TheVariants.{Least, Greatest}

-- a number of lots is the fewest, or the most, of all lists of a part that hold from `fewest` to `most` assets
pub record AreFewestLots (cells : List Cell) (fewest most lots : ℕ) : Type 0 where
  pub reached : (x : List ℕ) × IsPick cells fewest most x × (sum x ≡ lots)
  pub below : (x : List ℕ) → IsPick cells fewest most x → lots ≤ sum x

pub record AreMostLots (cells : List Cell) (fewest most lots : ℕ) : Type 0 where
  pub reached : (x : List ℕ) × IsPick cells fewest most x × (sum x ≡ lots)
  pub above : (x : List ℕ) → IsPick cells fewest most x → sum x ≤ lots

-- the lots at an end of a range
abbrev pub end_of : End → ℕ → ℕ → ℕ
end_of Least l u = l
end_of Greatest l u = u

-- how far that end is from the best that there could be: the least from 0, the greatest from 10000
abbrev pub distance_of : End → ℕ → ℕ → ℕ
distance_of Least l u = l
distance_of Greatest l u = 10000 - u

-- the lots at the end of a cell that must be held
abbrev pub held_end : End → Cell → ℕ
held_end end Out = 0
held_end end (Held l u) = end_of end l u
held_end end (Free l u) = 0

-- is a cell free, with a distance below t?
abbrev pub is_under : End → ℕ → Cell → Bool
is_under end t Out = false
is_under end t (Held l u) = false
is_under end t (Free l u) = ltb (distance_of end l u) t

-- how far the distance of a free cell is below t
abbrev pub short_of : End → ℕ → Cell → ℕ
short_of end t Out = 0
short_of end t (Held l u) = 0
short_of end t (Free l u) = t - distance_of end l u

-- all together
abbrev pub held_ends : End → List Cell → ℕ
held_ends end cells = sum_by (held_end end) cells

abbrev pub unders : End → ℕ → List Cell → ℕ
unders end t cells = count_by (is_under end t) cells

abbrev pub shorts : End → ℕ → List Cell → ℕ
shorts end t cells = sum_by (short_of end t) cells

-- a distance parts k free cells from the others: no more than k are below it, and no fewer than k are at most it
pub record IsParting (end : End) (cells : List Cell) (k t : ℕ) : Type 0 where
  pub few : unders end t cells ≤ k
  pub enough : k ≤ unders end (t + 1) cells
