-- The shift of a table of covariances C of n assets: a lower triangular matrix R and numbers D on the diagonal. It is
-- dominant where 10^12 (C + diag(D)) - R R' is. Own to portgap.
use Rattle.std.specs.Prelude.{◌≡◌, ℕ, ◌+◌, ◌*◌, ◌<◌, ◌≤◌, if◌then◌else◌, ◌==◌, List, length, ℤ, pos, ◌+ℤ◌, ◌-ℤ◌, ◌*ℤ◌, ◌≤ℤ◌, ◌<ℤ◌, unsigned_abs, replicate, slice_set}
use Rattle.gap_base.specs.declared.row.Row.{Row}
use Rattle.gap_base.specs.Sums.{sum_below, at, lower}
use Rattle.gap_psd.specs.Forms.{others, gram, remainder, IsDominant}

-- what contracts see of a shift: how many assets it is for, R row by row with n numbers a row (those above the
-- diagonal are not read), and D
pub record ShiftValue : Type 0 where
  pub assets : ℕ
  pub factor : List ℤ
  pub diagonal : List ℤ

-- R_ij, which is 0 above the diagonal
abbrev pub r_of : ShiftValue → ℕ → ℕ → ℤ
r_of s i j = lower s.assets s.factor i j

-- D_i
abbrev pub d_of : ShiftValue → ℕ → ℤ
d_of s i = at s.diagonal i

-- what holds of every shift: it is for 2 to 256 assets, no R_ij has a size above 10^15, each D_i is in 0..10^21
pub record IsShift (s : ShiftValue) : Type 0 where
  pub few : 2 ≤ s.assets
  pub many : s.assets ≤ 256
  pub factor_length : length s.factor ≡ s.assets * s.assets
  pub diagonal_length : length s.diagonal ≡ s.assets
  pub factor_sizes : (k : ℕ) → unsigned_abs (at s.factor k) ≤ 1000000000000000
  pub diagonal_sizes : (i : ℕ) → unsigned_abs (d_of s i) ≤ 1000000000000000000000
  pub diagonal_signs : (i : ℕ) → pos 0 ≤ℤ d_of s i

-- the shift of n assets with R = 0 and D = 0
abbrev pub zero_shift : ℕ → ShiftValue
zero_shift n = record { assets = n; factor = replicate (n * n) (pos 0); diagonal = replicate n (pos 0) }

-- the shift with another R_ij
abbrev pub with_r : ShiftValue → ℕ → ℕ → ℤ → ShiftValue
with_r s i j v = record s { factor = slice_set s.factor (i * s.assets + j) v }

-- the shift with another D_i
abbrev pub with_d : ShiftValue → ℕ → ℤ → ShiftValue
with_d s i v = record s { diagonal = slice_set s.diagonal i v }

-- A = C + diag(D)
abbrev pub with_diagonal : (ℕ → ℕ → ℤ) → (ℕ → ℤ) → ℕ → ℕ → ℤ
with_diagonal C D i j = C i j +ℤ (if j == i then D i else pos 0)

-- the matrix A of a shift of C
abbrev pub shifted : (ℕ → ℕ → ℤ) → ShiftValue → ℕ → ℕ → ℤ
shifted C s i j = with_diagonal C (d_of s) i j

-- E = 10^12 A - R R'
abbrev pub rest : (ℕ → ℕ → ℤ) → ShiftValue → ℕ → ℕ → ℤ
rest C s i j = remainder s.assets (pos 1000000000000) (shifted C s) (r_of s) i j

-- the shift is dominant for the table C
abbrev pub IsDominantShift : (ℕ → ℕ → ℤ) → ShiftValue → Type 0
IsDominantShift C s = IsDominant s.assets (rest C s)

-- what is told of a row of the rest: its place, its entry on the diagonal and the sum of the sizes of the others
pub record IsRowOf (C : ℕ → ℕ → ℤ) (s : ShiftValue) (told : Row) : Type 0 where
  pub below : told.row < s.assets
  pub diagonal_is : told.diagonal ≡ rest C s told.row told.row
  pub others_are : told.others ≡ others s.assets (rest C s) told.row

-- what is told is the first row that is not dominant
pub record IsFirstRow (C : ℕ → ℕ → ℤ) (s : ShiftValue) (told : Row) : Type 0 where
  pub is_row : IsRowOf C s told
  pub outweighed : told.diagonal <ℤ told.others
  pub dominant_before : (k : ℕ) → k < told.row → others s.assets (rest C s) k ≤ℤ rest C s k k

-- the sum of D
abbrev pub total_of : ShiftValue → ℤ
total_of s = sum_below s.assets (d_of s)
