-- Quadratic forms over whole numbers, semidefinite and dominant matrices. A matrix is a function of two places, a
-- list of numbers one of one place.
-- Source: linear algebra; a dominant matrix is a symmetric one whose diagonal is in each row at least the sum of the
-- sizes of the others.
use Rattle.std.specs.Prelude.{◌≡◌, ℕ, ◌<◌, if◌then◌else◌, ◌==◌, List, length, ℤ, pos, ◌-ℤ◌, ◌*ℤ◌, ◌≤ℤ◌}
use Rattle.gap_base.specs.Sums.{sum_below, at, abs_z}

-- v' A w: the sum of A_ij v_i w_j over all i, j below n
unfoldable pub form : ℕ → (ℕ → ℕ → ℤ) → (ℕ → ℤ) → (ℕ → ℤ) → ℤ
form n A v w = sum_below n (λ i. sum_below n (λ j. A i j *ℤ v i *ℤ w j))

-- A is semidefinite: v' A v is not negative, whatever n whole numbers of either sign v has
abbrev pub IsSemi : ℕ → (ℕ → ℕ → ℤ) → Type 0
IsSemi n A = (v : List ℤ) → length v ≡ n → pos 0 ≤ℤ form n A (at v) (at v)

abbrev pub IsSymmetric : ℕ → (ℕ → ℕ → ℤ) → Type 0
IsSymmetric n A = (i j : ℕ) → i < n → j < n → A i j ≡ A j i

-- (R R')_ij: row i of R times row j of R
unfoldable pub gram : ℕ → (ℕ → ℕ → ℤ) → ℕ → ℕ → ℤ
gram n R i j = sum_below n (λ k. R i k *ℤ R j k)

-- the sum of the sizes of the entries of row i off the diagonal
unfoldable pub others : ℕ → (ℕ → ℕ → ℤ) → ℕ → ℤ
others n E i = sum_below n (λ j. if j == i then pos 0 else abs_z (E i j))

-- in each row the entry on the diagonal is at least the sum of the sizes of the others
abbrev pub IsDominant : ℕ → (ℕ → ℕ → ℤ) → Type 0
IsDominant n E = (i : ℕ) → i < n → others n E i ≤ℤ E i i

-- s A - R R': what is left of s A beside the semidefinite R R'
abbrev pub remainder : ℕ → ℤ → (ℕ → ℕ → ℤ) → (ℕ → ℕ → ℤ) → ℕ → ℕ → ℤ
remainder n s A R i j = s *ℤ A i j -ℤ gram n R i j
