-- The least diagonal where R is zero. Own to portgap.
use Rattle.std.specs.Prelude.{◌≡◌, ℕ, ◌<◌, ℤ, pos, ◌-ℤ◌, length}
use Rattle.std.specs.Int.{int_max}
use Rattle.gap_psd.specs.Forms.{others}
use Rattle.gap_psd.specs.Shifts.{ShiftValue, r_of, d_of}

-- what the sizes of the others in row i of C are above C_ii, and 0 where they aren't
abbrev pub plain_of : ℕ → (ℕ → ℕ → ℤ) → ℕ → ℤ
plain_of n C i = int_max (pos 0) (others n C i -ℤ C i i)

-- the columns of R before i are zero, and D has the least for that in the rows before i
pub record ArePlain (C : ℕ → ℕ → ℤ) (old new : ShiftValue) (i : ℕ) : Type 0 where
  pub assets : new.assets ≡ old.assets
  pub size : length new.diagonal ≡ length old.diagonal
  pub zero_before : (a b : ℕ) → a < old.assets → b < i → r_of new a b ≡ pos 0
  pub plain_before : (k : ℕ) → k < i → d_of new k ≡ plain_of old.assets C k
