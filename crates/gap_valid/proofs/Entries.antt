-- The pairs and the rows of a head stand at their numbers.

use Rattle.std.proofs.Common.{◌≡◌, ℕ, zero, suc, ◌+◌, ◌-◌, ◌<◌, ◌≤◌, map, length, All, get_or, ◌⊎◌, inl, inr, ℤ, pos, refl, sym, ◌∙◌, subst, arith, length-append}
use Rattle.std.specs.List.{range_with_len}
use Rattle.std.proofs.Math.ListN.{get_or-append}
use Rattle.std.proofs.lemmas.Bool.{cases_lt}
use Rattle.std.proofs.lemmas.List.{get_or-append-add}
use Rattle.std.proofs.lemmas.List.Elements.{All-append, All-nil, All-from_get_or}
use Rattle.std.proofs.lemmas.List.FromFn.{get_or-map-range_with_len, length-map-range_with_len}
use Rattle.gap_base.specs.Sums.{at}
use Rattle.gap_valid.specs.Heads.{pairs_before, pair_number, rows_before, row_number}
use Rattle.gap_valid.specs.HeadOf.{pairs_below, rows_below}

-- ---- pairs
pub length-pairs : (n : ℕ) (f : ℕ → ℕ → ℤ) (m : ℕ) → length (pairs_below n f m) ≡ pairs_before n m
unfolding pairs_below
length-pairs n f zero = refl
length-pairs n f (suc i) =
    length-append (pairs_below n f i) (map (f i) (range_with_len (suc i) (n - suc i)))
    ∙ (let a = length-pairs n f i in let b = length-map-range_with_len (f i) (suc i) (n - suc i) in omega arith)

pairs_grow : (n i m : ℕ) → i ≤ m → pairs_before n i ≤ pairs_before n m
pairs_grow n i zero h = let e : i ≡ 0 = omega arith in rw e (omega arith)
pairs_grow n i (suc m) h = each (λ l. pairs_grow n i m l) (cases_lt m i)
  where
    each : (i ≤ m → pairs_before n i ≤ pairs_before n m) → (m < i) ⊎ (i ≤ m) → pairs_before n i ≤ pairs_before n (suc m)
    each before (inl l) = let e : i ≡ suc m = omega arith in rw e (omega arith)
    each before (inr l) = let a = before l in omega arith

-- an entry of the pairs of the assets below i, or of those of i
pairs_step : (n : ℕ) (f : ℕ → ℕ → ℤ) (m i j : ℕ) → i < j → j < n → (i < m → at (pairs_below n f m) (pair_number n i j) ≡ f i j) → i < suc m → (i < m) ⊎ (m ≤ i) → at (pairs_below n f (suc m)) (pair_number n i j) ≡ f i j
unfolding pairs_below
pairs_step n f m i j p q before r (inl l) =
    let size = length-pairs n f m in
    let grow = pairs_grow n (suc i) m l in
    let inside : pair_number n i j < length (pairs_below n f m) = omega arith in
    get_or-append (pairs_below n f m) (map (f m) (range_with_len (suc m) (n - suc m))) (pos 0) (pair_number n i j) inside ∙ before l
pairs_step n f m i j p q before r (inr l) =
    let e : i ≡ m = omega arith in
    let size = length-pairs n f m in
    let place : pair_number n m j ≡ length (pairs_below n f m) + (j - suc m) = omega arith in
    rw (e, place)
    (get_or-append-add (pairs_below n f m) (map (f m) (range_with_len (suc m) (n - suc m))) (j - suc m) (pos 0)
    ∙ get_or-map-range_with_len (f m) (suc m) (n - suc m) (j - suc m) j (pos 0) (omega arith) (omega arith))

pub pairs_at : (n : ℕ) (f : ℕ → ℕ → ℤ) (m i j : ℕ) → i < m → i < j → j < n → at (pairs_below n f m) (pair_number n i j) ≡ f i j
pairs_at n f zero i j h p q = absurd (omega arith)
pairs_at n f (suc m) i j h p q = pairs_step n f m i j p q (λ l. pairs_at n f m i j l p q) h (cases_lt i m)

-- ---- entries of a row, for each of which P holds
row_all : (P : ℤ → Type 0) (g : ℕ → ℤ) (a k : ℕ) → ((j : ℕ) → a ≤ j → j < a + k → P (g j)) → All P (map g (range_with_len a k))
row_all P g a k h = All-from_get_or P (map g (range_with_len a k)) (pos 0) each
  where
    each : (i : ℕ) → i < length (map g (range_with_len a k)) → P (get_or (map g (range_with_len a k)) i (pos 0))
    each i l =
        let inside : i < k = rw (length-map-range_with_len g a k) at l in
        subst P (sym (get_or-map-range_with_len g a k i (a + i) (pos 0) inside refl)) (h (a + i) (omega arith) (omega arith))

pub pairs_all : (P : ℤ → Type 0) (n : ℕ) (f : ℕ → ℕ → ℤ) (m : ℕ) → ((i j : ℕ) → P (f i j)) → All P (pairs_below n f m)
unfolding pairs_below
pairs_all P n f zero h = All-nil P
pairs_all P n f (suc m) h = All-append P (pairs_below n f m) (map (f m) (range_with_len (suc m) (n - suc m))) (pairs_all P n f m h) (row_all P (f m) (suc m) (n - suc m) (λ j a b. h m j))

-- ---- rows
pub length-rows : (f : ℕ → ℕ → ℤ) (m : ℕ) → length (rows_below f m) ≡ rows_before m
unfolding rows_below
length-rows f zero = refl
length-rows f (suc i) =
    length-append (rows_below f i) (map (f i) (range_with_len 0 (suc i)))
    ∙ (let a = length-rows f i in let b = length-map-range_with_len (f i) 0 (suc i) in omega arith)

rows_grow : (i m : ℕ) → i ≤ m → rows_before i ≤ rows_before m
rows_grow i zero h = let e : i ≡ 0 = omega arith in rw e (omega arith)
rows_grow i (suc m) h = each (λ l. rows_grow i m l) (cases_lt m i)
  where
    each : (i ≤ m → rows_before i ≤ rows_before m) → (m < i) ⊎ (i ≤ m) → rows_before i ≤ rows_before (suc m)
    each before (inl l) = let e : i ≡ suc m = omega arith in rw e (omega arith)
    each before (inr l) = let a = before l in omega arith

rows_step : (f : ℕ → ℕ → ℤ) (m i k : ℕ) → k ≤ i → (i < m → at (rows_below f m) (row_number i k) ≡ f i k) → i < suc m → (i < m) ⊎ (m ≤ i) → at (rows_below f (suc m)) (row_number i k) ≡ f i k
unfolding rows_below
rows_step f m i k p before r (inl l) =
    let size = length-rows f m in
    let grow = rows_grow (suc i) m l in
    let inside : row_number i k < length (rows_below f m) = omega arith in
    get_or-append (rows_below f m) (map (f m) (range_with_len 0 (suc m))) (pos 0) (row_number i k) inside ∙ before l
rows_step f m i k p before r (inr l) =
    let e : i ≡ m = omega arith in
    let size = length-rows f m in
    let place : row_number m k ≡ length (rows_below f m) + k = omega arith in
    rw (e, place)
    (get_or-append-add (rows_below f m) (map (f m) (range_with_len 0 (suc m))) k (pos 0)
    ∙ get_or-map-range_with_len (f m) 0 (suc m) k k (pos 0) (omega arith) (omega arith))

pub rows_at : (f : ℕ → ℕ → ℤ) (m i k : ℕ) → i < m → k ≤ i → at (rows_below f m) (row_number i k) ≡ f i k
rows_at f zero i k h p = absurd (omega arith)
rows_at f (suc m) i k h p = rows_step f m i k p (λ l. rows_at f m i k l p) h (cases_lt i m)

pub rows_all : (P : ℤ → Type 0) (f : ℕ → ℕ → ℤ) (m : ℕ) → ((i k : ℕ) → P (f i k)) → All P (rows_below f m)
unfolding rows_below
rows_all P f zero h = All-nil P
rows_all P f (suc m) h = All-append P (rows_below f m) (map (f m) (range_with_len 0 (suc m))) (rows_all P f m h) (row_all P (f m) 0 (suc m) (λ j a b. h m j))
