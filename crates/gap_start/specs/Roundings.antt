-- The list to which a point in eighths is rounded on a part. Own to portgap.
use Rattle.std.specs.Prelude.{◌≡◌, ℕ, ◌+◌, ◌/◌, ◌<◌, min, max, Bool, ◌&&◌, ◌||◌, ◌==◌, cond, nat_lt, List, length, slice_index_or}
use Rattle.gap_base.specs.Sums.{count_if}
use Rattle.gap_box.specs.declared.cell.Cell.{Cell}
use Rattle.gap_box.specs.declared.cell.Cell.TheVariants.{Out}
use Rattle.gap_box.specs.Cells.{is_held, is_free}
use Rattle.gap_box.specs.Parts.{helds}
use Rattle.gap_instance.specs.Instances.{InstanceValue}
use Rattle.gap_start.specs.Fills.{IsBroughtToSum}

-- the asset j stands before the asset i: by more eighths, or by as many as the lower one
abbrev pub has_more : List ℕ → ℕ → ℕ → Bool
has_more y j i =
    nat_lt (slice_index_or y i 0) (slice_index_or y j 0) || (slice_index_or y j 0 == slice_index_or y i 0 && nat_lt j i)

-- how many of the assets that are free to be held stand before the asset i
unfoldable pub free_before : List Cell → List ℕ → ℕ → ℕ
free_before cells y i = count_if (length cells) (λ j. is_free (slice_index_or cells j Out) && has_more y j i)

-- is one more asset with v eighths held, where `held` are? Always below K1, and below K2 where v is positive
abbrev pub is_wanted : ℕ → ℕ → ℕ → ℕ → Bool
is_wanted fewest most held v = nat_lt held fewest || (nat_lt held most && nat_lt 0 v)

-- is the asset i held? Where its cell must be, or is free and it is wanted beside those and the free ones before it
abbrev pub is_chosen : InstanceValue → List Cell → List ℕ → ℕ → Bool
is_chosen I cells y i =
    is_held (slice_index_or cells i Out)
    || (is_free (slice_index_or cells i Out)
    && is_wanted I.held I.held_most (helds cells + free_before cells y i) (slice_index_or y i 0))

-- one for each asset that is held, zero for the others
pub record AreChosen (I : InstanceValue) (cells : List Cell) (y marks : List ℕ) : Type 0 where
  pub size : length marks ≡ I.market.assets
  pub each : (i : ℕ) → i < I.market.assets → slice_index_or marks i 0 ≡ cond (is_chosen I cells y i) 1 0

-- each asset that is held has its eighths in whole lots, rounded down and brought into its limits, and the others none
pub record IsRoundedDown (I : InstanceValue) (marks y x : List ℕ) : Type 0 where
  pub size : length x ≡ I.market.assets
  pub held : (i : ℕ) → i < I.market.assets → 0 < slice_index_or marks i 0
      → slice_index_or x i 0
      ≡ max (slice_index_or I.least i 0) (min (slice_index_or y i 0 / 8) (slice_index_or I.greatest i 0))
  pub others : (i : ℕ) → i < I.market.assets → slice_index_or marks i 0 ≡ 0 → slice_index_or x i 0 ≡ 0

-- x is the list to which the point y is rounded on a part: the chosen assets in whole lots, brought to the sum L
pub record IsRounding (I : InstanceValue) (p q : ℕ) (cells : List Cell) (y x : List ℕ) : Type 0 where
  pub marks : List ℕ
  pub first : List ℕ
  pub chosen : AreChosen I cells y marks
  pub down : IsRoundedDown I marks y first
  pub brought : IsBroughtToSum I p q marks first x
