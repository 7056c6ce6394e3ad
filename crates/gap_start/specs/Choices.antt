-- What is known while the assets that a rounding holds are chosen. Own to portgap.
use Rattle.std.specs.Prelude.{◌≡◌, ◌≢◌, ℕ, ◌+◌, ◌<◌, ◌≤◌, Bool, true, ◌&&◌, not, cond, List, length, slice_index_or, Option, None, Some}
use Rattle.gap_base.specs.Sums.{count_if}
use Rattle.gap_box.specs.declared.cell.Cell.{Cell}
use Rattle.gap_box.specs.declared.cell.Cell.TheVariants.{Out}
use Rattle.gap_box.specs.Cells.{is_held, is_free}
use Rattle.gap_box.specs.Parts.{helds}
use Rattle.gap_instance.specs.Instances.{InstanceValue}
use Rattle.gap_instance.specs.Selections.{is_marked}
use Rattle.gap_start.specs.Roundings.{has_more, is_chosen}

-- an asset is left: it is free to be held, and not marked
abbrev pub is_left : List Cell → List ℕ → ℕ → Bool
is_left cells marks i = is_free (slice_index_or cells i Out) && not (is_marked marks i)

-- of the assets below n that are left, i stands before all others
pub record IsNext (cells : List Cell) (marks y : List ℕ) (n i : ℕ) : Type 0 where
  pub inside : i < n
  pub left : is_left cells marks i ≡ true
  pub before : (j : ℕ) → j < n → is_left cells marks j ≡ true → j ≢ i → has_more y i j ≡ true

-- what is known of the assets below n: one is the next, or none is left
abbrev pub IsNextSoFar : List Cell → List ℕ → List ℕ → ℕ → Option ℕ → Type 0
IsNextSoFar cells marks y n None = (i : ℕ) → i < n → is_left cells marks i ≡ true → ⊥
IsNextSoFar cells marks y n (Some i) = IsNext cells marks y n i

-- the marks as far as `held` assets are chosen: those that must be held are marked, each that is marked is chosen, and
-- each free one that is marked stands before each that is left
pub record AreChosenSoFar (I : InstanceValue) (cells : List Cell) (y marks : List ℕ) (held : ℕ) : Type 0 where
  pub size : length marks ≡ I.market.assets
  pub ones : (i : ℕ) → slice_index_or marks i 0 ≡ cond (is_marked marks i) 1 0
  pub musts : (i : ℕ) → i < I.market.assets → is_held (slice_index_or cells i Out) ≡ true → is_marked marks i ≡ true
  pub chosen : (i : ℕ) → i < I.market.assets → is_marked marks i ≡ true → is_chosen I cells y i ≡ true
  pub ahead : (i j : ℕ) → i < I.market.assets → j < I.market.assets → is_marked marks i ≡ true
      → is_free (slice_index_or cells i Out) ≡ true → is_left cells marks j ≡ true → has_more y i j ≡ true
  pub count : helds cells + count_if (length cells) (λ i. is_free (slice_index_or cells i Out) && is_marked marks i) ≡ held

-- the marks of the assets below n that must be held
pub record AreMusts (cells : List Cell) (n k : ℕ) (marks : List ℕ) : Type 0 where
  pub size : length marks ≡ n
  pub below : (i : ℕ) → i < k → slice_index_or marks i 0 ≡ cond (is_held (slice_index_or cells i Out)) 1 0
  pub above : (i : ℕ) → k ≤ i → slice_index_or marks i 0 ≡ 0
