-- The rounded factor of a table of covariances, by the equations of its columns, and the least diagonal for a factor.
-- Source: Cholesky's factorization, in whole numbers; what is done where it cannot go on is own to portgap.
use Rattle.std.specs.Prelude.{◌≡◌, ℕ, ◌+◌, ◌*◌, ◌<◌, ◌≤◌, Bool, ◌&&◌, ◌⊎◌, if◌then◌else◌, ◌==◌, nat_lt, nat_le, ℤ, pos, ◌+ℤ◌, ◌-ℤ◌, ◌*ℤ◌, ◌≤ℤ◌, ◌<ℤ◌, int_lt, int_div, unsigned_abs}
use Rattle.gap_base.specs.Sums.{sum_below, count_if}
use Rattle.gap_psd.specs.Forms.{others, gram, remainder}
use Rattle.gap_psd.specs.Shifts.{ShiftValue, r_of, d_of, total_of}

-- the whole square root of a number, rounded down: how many positive whole numbers have a square of at most d
unfoldable pub whole_root : ℕ → ℕ
whole_root d = count_if d (λ r. nat_le ((r + 1) * (r + 1)) d)

-- what column j has to give in row i after the columns before it: 10^12 C_ij less the sum of R_ik R_jk over k < j
unfoldable pub owed : (ℕ → ℕ → ℤ) → (ℕ → ℕ → ℤ) → ℕ → ℕ → ℤ
owed C R j i = pos 1000000000000 *ℤ C i j -ℤ sum_below j (λ k. R i k *ℤ R j k)

-- the entry of column j on the diagonal: the whole root of what is owed there
abbrev pub pivot_root : (ℕ → ℕ → ℤ) → (ℕ → ℕ → ℤ) → ℕ → ℕ
pivot_root C R j = whole_root (unsigned_abs (owed C R j j))

-- the entry of column j in row i: 0 above the diagonal, the root on it, and below it what is owed, divided by the
-- root and rounded toward zero
unfoldable pub wanted : (ℕ → ℕ → ℤ) → (ℕ → ℕ → ℤ) → ℕ → ℕ → ℤ
wanted C R j i =
    if nat_lt i j then pos 0
    else (if i == j then pos (pivot_root C R j) else int_div (owed C R j i) (pos (pivot_root C R j)))

-- how many entries of column j would have a size above 10^15
unfoldable pub too_large : ℕ → (ℕ → ℕ → ℤ) → (ℕ → ℕ → ℤ) → ℕ → ℕ
too_large n C R j = count_if n (λ i. nat_lt 1000000000000000 (unsigned_abs (wanted C R j i)))

-- whether column j is taken: what is owed on the diagonal is positive, and no entry is too large
unfoldable pub takes_column : ℕ → (ℕ → ℕ → ℤ) → (ℕ → ℕ → ℤ) → ℕ → Bool
takes_column n C R j = int_lt (pos 0) (owed C R j j) && (too_large n C R j == 0)

-- column j of R is the rounded one after the columns before it; a column that is not taken is zero
abbrev pub IsRoundedColumn : ℕ → (ℕ → ℕ → ℤ) → (ℕ → ℕ → ℤ) → ℕ → Type 0
IsRoundedColumn n C R j = (i : ℕ) → i < n → R i j ≡ (if takes_column n C R j then wanted C R j i else pos 0)

-- R is the rounded factor of the table C of n assets
abbrev pub IsRoundedFactor : ℕ → (ℕ → ℕ → ℤ) → (ℕ → ℕ → ℤ) → Type 0
IsRoundedFactor n C R = (j : ℕ) → j < n → IsRoundedColumn n C R j

-- with d added to C_ii, row i of 10^12 C - R R' is dominant
abbrev pub IsEnough : ℕ → (ℕ → ℕ → ℤ) → (ℕ → ℕ → ℤ) → ℕ → ℤ → Type 0
IsEnough n C R i d = others n (remainder n (pos 1000000000000) C R) i ≤ℤ (pos 1000000000000 *ℤ (C i i +ℤ d) -ℤ gram n R i i)

-- d is the least whole number from 0 on that makes row i dominant
pub record IsLeastAt (n : ℕ) (C R : ℕ → ℕ → ℤ) (i : ℕ) (d : ℤ) : Type 0 where
  pub not_negative : pos 0 ≤ℤ d
  pub enough : IsEnough n C R i d
  pub least : (e : ℤ) → pos 0 ≤ℤ e → IsEnough n C R i e → d ≤ℤ e

-- D has in each row the least whole number from 0 on that makes the row dominant
abbrev pub AreLeast : ℕ → (ℕ → ℕ → ℤ) → (ℕ → ℕ → ℤ) → (ℕ → ℤ) → Type 0
AreLeast n C R D = (i : ℕ) → i < n → IsLeastAt n C R i (D i)

-- no number of D is above 10^21
abbrev pub AreSmall : ℕ → (ℕ → ℤ) → Type 0
AreSmall n D = (i : ℕ) → i < n → D i ≤ℤ pos 1000000000000000000000

-- the matrix of zeros
abbrev pub no_factor : ℕ → ℕ → ℤ
no_factor i k = pos 0

-- each D that the rounded factor needs, with no number above 10^21, has a total of at least that, or of more
abbrev pub IsAtMostRounded : ℕ → (ℕ → ℕ → ℤ) → ℤ → Type 0
IsAtMostRounded n C total =
    (R : ℕ → ℕ → ℤ) (D : ℕ → ℤ) → IsRoundedFactor n C R → AreLeast n C R D → AreSmall n D → total ≤ℤ sum_below n D

abbrev pub IsBelowRounded : ℕ → (ℕ → ℕ → ℤ) → ℤ → Type 0
IsBelowRounded n C total =
    (R : ℕ → ℕ → ℤ) (D : ℕ → ℤ) → IsRoundedFactor n C R → AreLeast n C R D → AreSmall n D → total <ℤ sum_below n D

-- R is the rounded factor, or it is zero and needs less than the rounded factor
abbrev pub IsChosen : (ℕ → ℕ → ℤ) → ShiftValue → Type 0
IsChosen C s =
    IsRoundedFactor s.assets C (r_of s)
    ⊎ (((i k : ℕ) → i < s.assets → k < s.assets → r_of s i k ≡ pos 0) × IsBelowRounded s.assets C (total_of s))
