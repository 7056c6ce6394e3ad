-- What stands while the shift of a head is made. Own to portgap.

use Rattle.std.specs.Prelude.{◌≡◌, ℕ, ◌+◌, ◌*◌, ◌<◌, ◌≤◌, ◌⊎◌, List, length, pos}
use Rattle.gap_base.specs.Sums.{at}
use Rattle.gap_psd.specs.Shifts.{ShiftValue}
use Rattle.gap_cert.specs.Certificates.{CertHead}
use Rattle.gap_valid.specs.Heads.{row_number}

-- of a shift s has the first entries of the triangle: those of the rows below a number, and in the row of that number those
-- of the columns below another; and the first entries of D
pub record IsShiftUpTo (h : CertHead) (s : ShiftValue) (row column entries : ℕ) : Type 0 where
  pub assets_are : s.assets ≡ h.n
  pub factor_room : length s.factor ≡ h.n * h.n
  pub diagonal_room : length s.diagonal ≡ h.n
  pub above : (a b : ℕ) → a < b → b < h.n → at s.factor (a * h.n + b) ≡ pos 0
  pub triangle : (a b : ℕ) → b ≤ a → a < h.n → (a < row) ⊎ ((a ≡ row) × (b < column))
      → at s.factor (a * h.n + b) ≡ at h.factor (row_number a b)
  pub diagonal : (a : ℕ) → a < entries → at s.diagonal a ≡ at h.diagonal a
