-- The least diagonal of a row, and a factor that needs too much of it. Own to portgap.
use Rattle.std.specs.Prelude.{◌≡◌, ℕ, ◌<◌, ◌≤◌, ℤ, pos, ◌*ℤ◌, ◌≤ℤ◌, ◌<ℤ◌, length}
use Rattle.gap_psd.specs.Shifts.{ShiftValue, r_of, d_of}
use Rattle.gap_psd.specs.Factors.{IsLeastAt}

-- d is the least whole number from 0 on whose 10^12-fold is at least what is short
pub record IsLeastStep (short d : ℤ) : Type 0 where
  pub not_negative : pos 0 ≤ℤ d
  pub enough : short ≤ℤ (pos 1000000000000 *ℤ d)
  pub least : (e : ℤ) → pos 0 ≤ℤ e → short ≤ℤ (pos 1000000000000 *ℤ e) → d ≤ℤ e

-- a row of the shift needs more than 10^21
abbrev pub IsTooMuch : (ℕ → ℕ → ℤ) → ShiftValue → Type 0
IsTooMuch C s =
    (i : ℕ) × (i < s.assets) × ((d : ℤ) × (IsLeastAt s.assets C (r_of s) i d) × (pos 1000000000000000000000 <ℤ d))

-- the rows below i have their least diagonal, the others none yet, and nothing else changed
pub record AreSet (C : ℕ → ℕ → ℤ) (old new : ShiftValue) (i : ℕ) : Type 0 where
  pub assets : new.assets ≡ old.assets
  pub factor : new.factor ≡ old.factor
  pub size : length new.diagonal ≡ length old.diagonal
  pub least : (k : ℕ) → k < i → IsLeastAt old.assets C (r_of old) k (d_of new k)
  pub none : (k : ℕ) → i ≤ k → d_of new k ≡ pos 0
