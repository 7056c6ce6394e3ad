-- What it costs more to hold the free cells than not to, and the way that a price of these differences gives. Own to
-- portgap.

use Rattle.std.specs.Prelude.{◌≡◌, ℕ, zero, suc, ◌-◌, Bool, true, false, ◌&&◌, if◌then◌else◌, List, [], ◌∷◌, ◌++◌, length, ℤ, ◌-ℤ◌, int_lt}
use Rattle.gap_base.specs.Sums.{count_if, at}
use Rattle.gap_box.specs.declared.cell.Cell.{Cell}
use Rattle.gap_box.specs.declared.cell.Cell.TheVariants.{Out, Held, Free}
use Rattle.gap_box.specs.Cells.{is_free}
use Rattle.gap_box.specs.Parts.{helds}
use Rattle.gap_relax.specs.Choices.{cell_at}
use Rattle.gap_relax.specs.Partings.{is_tie, takes, IsParted}

-- by how much the cost grows where a place is held
abbrev pub difference : List ℤ → List ℤ → ℕ → ℤ
difference held_cost out_cost i = at held_cost i -ℤ at out_cost i

-- the differences of the free cells among the first n, in their order
unfoldable pub free_differences : ℕ → List Cell → List ℤ → List ℤ → List ℤ
free_differences zero cells held_cost out_cost = []
free_differences (suc n) cells held_cost out_cost =
    free_differences n cells held_cost out_cost
    ++ (if is_free (cell_at cells n) then difference held_cost out_cost n ∷ [] else [])

-- a price parts the free cells that a least way holds from those that it doesn't, and so many of those at the price are held
pub record IsShare (cells : List Cell) (held_cost out_cost : List ℤ) (fewest most : ℕ) (price : ℤ) (ties : ℕ) : Type 0 where
  pub count : ℕ
  pub parted : IsParted (length (free_differences (length cells) cells held_cost out_cost)) (fewest - helds cells)
      (most - helds cells) (at (free_differences (length cells) cells held_cost out_cost)) price count
  pub ties_are : ties ≡ count - count_if (length (free_differences (length cells) cells held_cost out_cost))
      (λ k. int_lt (at (free_differences (length cells) cells held_cost out_cost) k) price)

-- is a cell held at a price, where so many of the free cells at the price may be?
abbrev pub holds_at : Cell → ℤ → ℤ → ℕ → Bool
holds_at Out price x left = false
holds_at (Held l u) price x left = true
holds_at (Free l u) price x left = takes price x left

-- is a place a free cell at the price?
abbrev pub is_tied : List Cell → List ℤ → List ℤ → ℤ → ℕ → Bool
is_tied cells held_cost out_cost price i = is_free (cell_at cells i) && is_tie price (difference held_cost out_cost i)

-- the way that holds the free cells below a price, and the first ones at it
abbrev pub way : List Cell → List ℤ → List ℤ → ℤ → ℕ → ℕ → Bool
way cells held_cost out_cost price ties i =
    holds_at (cell_at cells i) price (difference held_cost out_cost i)
    (ties - count_if i (is_tied cells held_cost out_cost price))
