-- What stands of a shift while a column of its factor is written. Own to portgap.
use Rattle.std.specs.Prelude.{◌≡◌, ◌≢◌, ℕ, ◌<◌, ◌≤◌, ℤ, length, unsigned_abs}
use Rattle.gap_psd.specs.Shifts.{ShiftValue, r_of}
use Rattle.gap_psd.specs.Factors.{IsRoundedColumn}

-- nothing changed but column j of R
pub record SameBeside (old new : ShiftValue) (j : ℕ) : Type 0 where
  pub assets : new.assets ≡ old.assets
  pub diagonal : new.diagonal ≡ old.diagonal
  pub size : length new.factor ≡ length old.factor
  pub columns : (a b : ℕ) → a < old.assets → b < old.assets → b ≢ j → r_of new a b ≡ r_of old a b

-- column j was written in the rows below i, and nothing else
pub record IsWritten (entries : ℕ → ℤ) (old new : ShiftValue) (j i : ℕ) : Type 0 where
  pub kept : SameBeside old new j
  pub written : (a : ℕ) → a < i → r_of new a j ≡ entries a

-- no entry in the rows below i has a size above 10^15
abbrev pub AreSmallBelow : (ℕ → ℤ) → ℕ → Type 0
AreSmallBelow entries i = (a : ℕ) → a < i → unsigned_abs (entries a) ≤ 1000000000000000

-- the columns before j are rounded ones, and nothing changed but R
pub record AreRounded (C : ℕ → ℕ → ℤ) (old new : ShiftValue) (j : ℕ) : Type 0 where
  pub assets : new.assets ≡ old.assets
  pub diagonal : new.diagonal ≡ old.diagonal
  pub columns : (k : ℕ) → k < j → IsRoundedColumn old.assets C (r_of new) k
