-- Laws of cells in range.

use Rattle.std.proofs.Common.{◌≡◌, ℕ, zero, suc, ◌<◌, ◌≤◌, ◌⊎◌, inl, inr, Bool, true, false, List, [], ◌∷◌, length, take, replicate, slice_index_or, slice_set, ◌∙◌, ap}
use Rattle.std.proofs.lemmas.Bool.{cases_lt}
use Rattle.std.proofs.lemmas.List.{get_or_past}
use Rattle.gap_box.specs.declared.cell.Cell.{Cell}
use Rattle.gap_box.specs.declared.cell.Cell.TheVariants.{Out}
use Rattle.gap_box.specs.Cells.{IsCell, AreCells}

-- the cells behind the first
pub rest_are : (cell : Cell) (cells : List Cell) → AreCells (cell ∷ cells) → AreCells cells
rest_are cell cells h = record { each = λ k. h.each (suc k) }

pub first_is : (cell : Cell) (cells : List Cell) → AreCells (cell ∷ cells) → IsCell cell
first_is cell cells h = h.each 0

pub take_each : (n : ℕ) (cells : List Cell) → ((k : ℕ) → IsCell (slice_index_or cells k Out)) → (k : ℕ) → IsCell (slice_index_or (take n cells) k Out)
take_each zero cells h k = tt
take_each (suc n) [] h k = tt
take_each (suc n) (c ∷ cells) h zero = h 0
take_each (suc n) (c ∷ cells) h (suc k) = take_each n cells (λ j. h (suc j)) k

pub take_are : (n : ℕ) (cells : List Cell) → AreCells cells → AreCells (take n cells)
take_are n cells h = record { each = take_each n cells h.each }

pub all_out_each : (n : ℕ) → (k : ℕ) → IsCell (slice_index_or (replicate n Out) k Out)
all_out_each zero k = tt
all_out_each (suc n) zero = tt
all_out_each (suc n) (suc k) = all_out_each n k

pub all_out_are : (n : ℕ) → AreCells (replicate n Out)
all_out_are n = record { each = all_out_each n }

pub set_each : (cells : List Cell) (i : ℕ) (cell : Cell) → IsCell cell → ((k : ℕ) → IsCell (slice_index_or cells k Out)) → (k : ℕ) → IsCell (slice_index_or (slice_set cells i cell) k Out)
set_each [] i cell p h k = tt
set_each (c ∷ cells) zero cell p h zero = p
set_each (c ∷ cells) zero cell p h (suc k) = h (suc k)
set_each (c ∷ cells) (suc i) cell p h zero = h 0
set_each (c ∷ cells) (suc i) cell p h (suc k) = set_each cells i cell p (λ j. h (suc j)) k

pub set_are : (cells : List Cell) (i : ℕ) (cell : Cell) → IsCell cell → AreCells cells → AreCells (slice_set cells i cell)
set_are cells i cell p h = record { each = set_each cells i cell p h.each }

-- a place whose cell passes a test that Out doesn't is one of the list
pub place_in : (cells : List Cell) (i : ℕ) (test : Cell → Bool) → test Out ≡ false → test (slice_index_or cells i Out) ≡ true → i < length cells
place_in cells i test o t = by_place (cases_lt i (length cells))
  where
    differ : {b : Bool} → b ≡ true → b ≡ false → ⊥
    differ p q = cc

    by_place : (i < length cells) ⊎ (length cells ≤ i) → i < length cells
    by_place (inl l) = l
    by_place (inr l) = absurd (differ t (ap test (get_or_past cells i Out l) ∙ o))
