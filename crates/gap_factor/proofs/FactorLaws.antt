-- The laws of the rounded factor: a column reads only the columns before it, so the rounded factor is one.
use Rattle.std.proofs.Common.{◌≡◌, ℕ, zero, suc, ◌+◌, ◌*◌, ◌<◌, ◌≤◌, ◌==◌, Bool, true, false, cond, nat_lt, nat_le, if◌then◌else◌, ℤ, pos, ◌-ℤ◌, ◌*ℤ◌, int_lt, int_div, unsigned_abs, ◌&&◌, ◌⊎◌, inl, inr, refl, sym, ap, ◌∙◌, arith, mul-le-mul}
use Rattle.std.proofs.lemmas.Bool.{cases_lt}
use Rattle.std.proofs.lemmas.Bool.Decides.{nat_tests}
use Rattle.gap_base.specs.Sums.{count_if}
use Rattle.gap_base.proofs.Ring.{if_same, if_other}
use Rattle.gap_base.proofs.SumLaws.{sum_same}
use Rattle.gap_base.proofs.Counts.{count_same, count_all}
use Rattle.gap_psd.specs.Factors.{whole_root, owed, pivot_root, wanted, too_large, takes_column, IsRoundedColumn, IsRoundedFactor}

-- a prefix of places meets a test, the rest does not
count_prefix : (n r : ℕ) (p : ℕ → Bool) → r ≤ n → ((k : ℕ) → k < r → p k ≡ true) → ((k : ℕ) → r ≤ k → p k ≡ false) → count_if n p ≡ r
unfolding count_if
count_prefix zero r p h t f = omega arith
count_prefix (suc n) r p h t f = prefix_step n r p h t f (λ l. count_prefix n r p l t f) (cases_lt n r)
  where
    prefix_step : (n r : ℕ) (p : ℕ → Bool) → r ≤ suc n → ((k : ℕ) → k < r → p k ≡ true) → ((k : ℕ) → r ≤ k → p k ≡ false) → (r ≤ n → count_if n p ≡ r) → (n < r) ⊎ (r ≤ n) → count_if n p + cond (p n) 1 0 ≡ r
    prefix_step n r p h t f go (inl l) = let e : r ≡ suc n = omega arith in let a = count_all n p (λ k m. t k (omega arith)) in rw (t n l) (omega arith)
    prefix_step n r p h t f go (inr l) = let a = go l in rw (f n l) (omega arith)

le_true : (a b : ℕ) → a ≤ b → nat_le a b ≡ true
le_true a b h = grind (arith, nat_tests)

le_false : (a b : ℕ) → b < a → nat_le a b ≡ false
le_false a b h = grind (arith, nat_tests)

below_square : (r : ℕ) → r ≤ r * r
below_square zero = omega arith
below_square (suc m) = omega arith

-- the whole root is the number whose square is at most d, where the next square is above d
pub whole_root_is : (d r : ℕ) → r * r ≤ d → d < (r + 1) * (r + 1) → whole_root d ≡ r
unfolding whole_root
whole_root_is d r h k = count_prefix d r (λ k. nat_le ((k + 1) * (k + 1)) d) (omega (arith, below_square r)) (λ m l. let s : m + 1 ≤ r = omega arith in let q : (m + 1) * (m + 1) ≤ r * r = mul-le-mul s s in le_true ((m + 1) * (m + 1)) d (omega arith)) (λ m l. let s : r + 1 ≤ m + 1 = omega arith in let q : (r + 1) * (r + 1) ≤ (m + 1) * (m + 1) = mul-le-mul s s in le_false ((m + 1) * (m + 1)) d (omega arith))

-- ---- what a column reads
product_same : (a b c d : ℤ) → a ≡ b → c ≡ d → a *ℤ c ≡ b *ℤ d
product_same a b c d p q = rw p (rw q refl)

pub owed_same : (C R S : ℕ → ℕ → ℤ) (j i : ℕ) → ((k : ℕ) → k < j → R i k ≡ S i k) → ((k : ℕ) → k < j → R j k ≡ S j k) → owed C R j i ≡ owed C S j i
unfolding owed
owed_same C R S j i h g = ap (λ x. pos 1000000000000 *ℤ C i j -ℤ x) (sum_same j (λ k. R i k *ℤ R j k) (λ k. S i k *ℤ S j k) (λ k l. product_same (R i k) (S i k) (R j k) (S j k) (h k l) (g k l)))

shape : ℕ → ℕ → ℤ → ℤ → ℤ
shape i j x y = if nat_lt i j then pos 0 else (if i == j then pos (whole_root (unsigned_abs y)) else int_div x (pos (whole_root (unsigned_abs y))))

wanted_shape : (C R : ℕ → ℕ → ℤ) (j i : ℕ) → wanted C R j i ≡ shape i j (owed C R j i) (owed C R j j)
unfolding wanted shape
wanted_shape C R j i = refl

pub wanted_same : (n : ℕ) (C R S : ℕ → ℕ → ℤ) (j i : ℕ) → i < n → j < n → ((a b : ℕ) → a < n → b < j → R a b ≡ S a b) → wanted C R j i ≡ wanted C S j i
wanted_same n C R S j i p q h = wanted_shape C R j i ∙ ap (λ x. shape i j x (owed C R j j)) (owed_same C R S j i (λ k l. h i k p l) (λ k l. h j k q l)) ∙ ap (λ y. shape i j (owed C S j i) y) (owed_same C R S j j (λ k l. h j k q l) (λ k l. h j k q l)) ∙ sym (wanted_shape C S j i)

too_large_same : (n : ℕ) (C R S : ℕ → ℕ → ℤ) (j : ℕ) → j < n → ((a b : ℕ) → a < n → b < j → R a b ≡ S a b) → too_large n C R j ≡ too_large n C S j
unfolding too_large
too_large_same n C R S j q h = count_same n (λ i. nat_lt 1000000000000000 (unsigned_abs (wanted C R j i))) (λ i. nat_lt 1000000000000000 (unsigned_abs (wanted C S j i))) (λ i p. ap (λ x. nat_lt 1000000000000000 (unsigned_abs x)) (wanted_same n C R S j i p q h))

pub takes_same : (n : ℕ) (C R S : ℕ → ℕ → ℤ) (j : ℕ) → j < n → ((a b : ℕ) → a < n → b < j → R a b ≡ S a b) → takes_column n C R j ≡ takes_column n C S j
unfolding takes_column
takes_same n C R S j q h = ap (λ x. int_lt (pos 0) x && (too_large n C R j == 0)) (owed_same C R S j j (λ k l. h j k q l) (λ k l. h j k q l)) ∙ ap (λ (m : ℕ). int_lt (pos 0) (owed C S j j) && (m == 0)) (too_large_same n C R S j q h)

pub choice_same : (n : ℕ) (C R S : ℕ → ℕ → ℤ) (j i : ℕ) → i < n → j < n → ((a b : ℕ) → a < n → b < j → R a b ≡ S a b) → (if takes_column n C R j then wanted C R j i else pos 0) ≡ (if takes_column n C S j then wanted C S j i else pos 0)
choice_same n C R S j i p q h = ap (λ t. if t then wanted C R j i else pos 0) (takes_same n C R S j q h) ∙ ap (λ x. if takes_column n C S j then x else pos 0) (wanted_same n C R S j i p q h)

-- a column stays the rounded one where it and the columns before it stay
pub column_kept : (n : ℕ) (C R S : ℕ → ℕ → ℤ) (j : ℕ) → j < n → ((a b : ℕ) → a < n → b < j + 1 → R a b ≡ S a b) → IsRoundedColumn n C R j → IsRoundedColumn n C S j
column_kept n C R S j q h c i p = sym (h i j p (omega arith)) ∙ c i p ∙ choice_same n C R S j i p q (λ a b l m. h a b l (omega arith))

unique_step : (n : ℕ) (C R S : ℕ → ℕ → ℤ) (m : ℕ) → m < n → IsRoundedColumn n C R m → IsRoundedColumn n C S m → ((i k : ℕ) → i < n → k < m → R i k ≡ S i k) → (i k : ℕ) → i < n → (k < m) ⊎ (m ≤ k) → k < suc m → R i k ≡ S i k
unique_step n C R S m q r s h i k p (inl l) z = h i k p l
unique_step n C R S m q r s h i k p (inr l) z = let e : k ≡ m = omega arith in rw e (r i p ∙ choice_same n C R S m i p q h ∙ sym (s i p))

unique_below : (n : ℕ) (C R S : ℕ → ℕ → ℤ) → IsRoundedFactor n C R → IsRoundedFactor n C S → (m : ℕ) → m ≤ n → (i k : ℕ) → i < n → k < m → R i k ≡ S i k
unique_below n C R S r s zero l i k p q = absurd (omega arith)
unique_below n C R S r s (suc m) l i k p q = unique_step n C R S m (omega arith) (r m (omega arith)) (s m (omega arith)) (λ a b x y. unique_below n C R S r s m (omega arith) a b x y) i k p (cases_lt k m) q

-- there is one rounded factor
pub factor_unique : (n : ℕ) (C R S : ℕ → ℕ → ℤ) → IsRoundedFactor n C R → IsRoundedFactor n C S → (i k : ℕ) → i < n → k < n → R i k ≡ S i k
factor_unique n C R S r s i k p q = unique_below n C R S r s n (omega arith) i k p q

-- ---- an entry of a column, by where it stands
if_true : (t : Bool) (x y : ℤ) → t ≡ true → (if t then x else y) ≡ x
if_true t x y e = rw e refl

if_false : (t : Bool) (x y : ℤ) → t ≡ false → (if t then x else y) ≡ y
if_false t x y e = rw e refl

lt_true : (a b : ℕ) → a < b → nat_lt a b ≡ true
lt_true a b h = grind (arith, nat_tests)

lt_false : (a b : ℕ) → b ≤ a → nat_lt a b ≡ false
lt_false a b h = grind (arith, nat_tests)

pub wanted_above : (C R : ℕ → ℕ → ℤ) (j i : ℕ) → i < j → wanted C R j i ≡ pos 0
unfolding wanted
wanted_above C R j i h = if_true (nat_lt i j) (pos 0) (if i == j then pos (pivot_root C R j) else int_div (owed C R j i) (pos (pivot_root C R j))) (lt_true i j h)

pub wanted_on : (C R : ℕ → ℕ → ℤ) (j i : ℕ) → i ≡ j → wanted C R j i ≡ pos (pivot_root C R j)
unfolding wanted
wanted_on C R j i e = if_false (nat_lt i j) (pos 0) (if i == j then pos (pivot_root C R j) else int_div (owed C R j i) (pos (pivot_root C R j))) (lt_false i j (omega arith)) ∙ if_same i j (pos (pivot_root C R j)) (int_div (owed C R j i) (pos (pivot_root C R j))) e

pub wanted_below : (C R : ℕ → ℕ → ℤ) (j i : ℕ) → j < i → wanted C R j i ≡ int_div (owed C R j i) (pos (pivot_root C R j))
unfolding wanted
wanted_below C R j i h = if_false (nat_lt i j) (pos 0) (if i == j then pos (pivot_root C R j) else int_div (owed C R j i) (pos (pivot_root C R j))) (lt_false i j (omega arith)) ∙ if_other i j (pos (pivot_root C R j)) (int_div (owed C R j i) (pos (pivot_root C R j))) (λ e. omega arith)

pub ruleset wanted_steps = (wanted_on, wanted_below)
