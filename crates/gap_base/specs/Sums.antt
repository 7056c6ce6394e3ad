-- Sums and counts over the places below a number, and the reading of lists as functions of the place. Own to portgap.
use Rattle.std.specs.Prelude.{ℕ, zero, suc, ◌+◌, ◌*◌, ◌<◌, ◌≤◌, Bool, cond, if◌then◌else◌, ◌==◌, List, length, slice_index_or, ℤ, pos, neg_ℤ, ◌+ℤ◌, ◌*ℤ◌, nat_le, unsigned_abs}

-- f 0 + f 1 + .. + f (n - 1)
unfoldable pub sum_below : ℕ → (ℕ → ℤ) → ℤ
sum_below zero f = pos 0
sum_below (suc n) f = sum_below n f +ℤ f n

-- how many places below n meet the test
unfoldable pub count_if : ℕ → (ℕ → Bool) → ℕ
count_if zero p = 0
count_if (suc n) p = count_if n p + cond (p n) 1 0

-- the number at a place of a list, 0 outside it
abbrev pub at : List ℤ → ℕ → ℤ
at xs i = slice_index_or xs i (pos 0)

-- the natural number at a place of a list, 0 outside it, as an integer
abbrev pub natural_at : List ℕ → ℕ → ℤ
natural_at xs i = pos (slice_index_or xs i 0)

-- the entry in row i and column j of a table of n columns that is kept row by row
abbrev pub entry : ℕ → List ℤ → ℕ → ℕ → ℤ
entry n xs i j = at xs (i * n + j)

-- the same of a lower triangle: the places above the diagonal read as 0
abbrev pub lower : ℕ → List ℤ → ℕ → ℕ → ℤ
lower n xs i k = if nat_le k i then entry n xs i k else pos 0

-- the size of a number
abbrev pub abs_z : ℤ → ℤ
abs_z z = pos (unsigned_abs z)

-- 1 at the place i, 0 elsewhere
abbrev pub unit : ℕ → ℕ → ℤ
unit i k = if k == i then pos 1 else pos 0

-- v after s was taken from the place i and given to the place j
abbrev pub moved : (ℕ → ℤ) → ℤ → ℕ → ℕ → ℕ → ℤ
moved v s i j k = v k +ℤ s *ℤ (unit j k +ℤ neg_ℤ (unit i k))

-- no number of the list has a size above b
abbrev pub AreWithin : ℕ → List ℤ → Type 0
AreWithin b xs = (k : ℕ) → k < length xs → unsigned_abs (at xs k) ≤ b
