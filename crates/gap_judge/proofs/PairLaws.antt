-- How many pairs and entries of a triangle come before one, and in all.
use Rattle.std.proofs.Common.{◌≡◌, ℕ, zero, suc, ◌+◌, ◌-◌, ◌*◌, ◌/◌, ◌<◌, ◌≤◌, ◌⊎◌, inl, inr, refl, sym, ap, ◌∙◌, arith}
use Rattle.std.proofs.lemmas.Bool.{cases_eq}
use Rattle.std.proofs.lemmas.Nat.{div-mul-add}
use Rattle.gap_valid.specs.Heads.{pairs_before, rows_before, pair_number, row_number}

-- ---- counts

suc_square : (i : ℕ) → suc i * suc i ≡ i * i + 2 * i + 1
suc_square i = grind arith

pub mul_suc : (n i : ℕ) → n * suc i ≡ n * i + n
mul_suc n i = grind arith

pub pairs_twice : (n i : ℕ) → i ≤ n → 2 * pairs_before n i + i * i + i ≡ 2 * (n * i)
pairs_twice n zero h = let z : n * 0 ≡ 0 = grind arith in omega (arith, z)
pairs_twice n (suc i) h = let a = pairs_twice n i (omega arith) in let b = suc_square i in let c = mul_suc n i in omega (arith, a, b, c)

pub rows_twice : (i : ℕ) → 2 * rows_before i ≡ i * i + i
rows_twice zero = refl
rows_twice (suc i) = let a = rows_twice i in let b = suc_square i in omega (arith, a, b)

pub half_of : (a b : ℕ) → a ≡ b * 2 → a / 2 ≡ b
half_of a b e = let r = div-mul-add b 2 0 (omega arith) in let s : b * 2 + 0 ≡ a = omega (arith, e) in sym (ap (λ (k : ℕ). k / 2) s) ∙ r

pub less_one : (n : ℕ) → n * (n - 1) + n ≡ n * n
less_one zero = refl
less_one (suc n) = let e : suc n - 1 ≡ n = omega arith in let b = ap (λ (k : ℕ). suc n * k) e in let a = mul_suc (suc n) n in omega (arith, a, b)

more_one : (n : ℕ) → n * (n + 1) ≡ n * n + n
more_one n = grind arith

pub pairs_are : (n : ℕ) → (n * (n - 1)) / 2 ≡ pairs_before n n
pairs_are n = let a = pairs_twice n n (omega arith) in let b = less_one n in half_of (n * (n - 1)) (pairs_before n n) (omega (arith, a, b))

pub rows_are : (n : ℕ) → (n * (n + 1)) / 2 ≡ rows_before n
rows_are n = let a = rows_twice n in let b = more_one n in half_of (n * (n + 1)) (rows_before n) (omega (arith, a, b))

-- ---- places

spread : (i k : ℕ) → i * (k + i + 1) ≡ i * k + i * i + i
spread i k = grind arith

twice : (i n : ℕ) → i * (2 * n) ≡ 2 * (n * i)
twice i n = grind arith

-- the place of a pair in closed form
pub pair_place : (n i j : ℕ) → i < n → i * (2 * n - i - 1) / 2 + (j - i - 1) ≡ pair_number n i j
pair_place n i j h =
    let k = 2 * n - i - 1 in
    let e : k + i + 1 ≡ 2 * n = omega arith in
    let a = pairs_twice n i (omega arith) in
    let b = spread i k in
    let c = ap (λ (m : ℕ). i * m) e in
    let d = twice i n in
    let half = half_of (i * k) (pairs_before n i) (omega (arith, a, b, c, d)) in
    let f : j - i - 1 ≡ j - suc i = omega arith in omega (arith, half, f)

-- the place of an entry of a triangle
pub row_place : (i k : ℕ) → i * (i + 1) / 2 + k ≡ row_number i k
row_place i k = let a = rows_are i in omega (arith, a)

step_pairs : (n a b : ℕ) → a ≤ suc b → (a ≤ b → pairs_before n a ≤ pairs_before n b) → (a ≡ suc b) ⊎ (a ≡ suc b → ⊥) → pairs_before n a ≤ pairs_before n (suc b)
step_pairs n a b h g (inl e) = rw e (omega arith)
step_pairs n a b h g (inr other) = let m = g (omega (arith, h, other)) in omega (arith, m)

grows_pairs : (n a b : ℕ) → a ≤ b → pairs_before n a ≤ pairs_before n b
grows_pairs n a zero h = let e : a ≡ 0 = omega arith in rw e (omega arith)
grows_pairs n a (suc b) h = step_pairs n a b h (λ k. grows_pairs n a b k) (cases_eq a (suc b))

step_rows : (a b : ℕ) → a ≤ suc b → (a ≤ b → rows_before a ≤ rows_before b) → (a ≡ suc b) ⊎ (a ≡ suc b → ⊥) → rows_before a ≤ rows_before (suc b)
step_rows a b h g (inl e) = rw e (omega arith)
step_rows a b h g (inr other) = let m = g (omega (arith, h, other)) in omega (arith, m)

grows_rows : (a b : ℕ) → a ≤ b → rows_before a ≤ rows_before b
grows_rows a zero h = let e : a ≡ 0 = omega arith in rw e (omega arith)
grows_rows a (suc b) h = step_rows a b h (λ k. grows_rows a b k) (cases_eq a (suc b))

pub pair_there : (n i j : ℕ) → i < j → j < n → pair_number n i j < pairs_before n n
pair_there n i j p q = let g = grows_pairs n (suc i) n (omega arith) in omega (arith, g)

pub row_there : (n i k : ℕ) → k ≤ i → i < n → row_number i k < rows_before n
row_there n i k p q = let g = grows_rows (suc i) n (omega arith) in omega (arith, g)
