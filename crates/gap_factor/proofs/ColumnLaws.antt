-- How a column of the factor is written entry by entry.
use Rattle.std.proofs.Common.{◌≡◌, ◌≢◌, ℕ, ◌+◌, ◌*◌, ◌<◌, ◌≤◌, ◌==◌, Bool, true, false, cond, IsTrue, ◌↔◌, nat_lt, if◌then◌else◌, length, slice_set, ℤ, pos, ◌≤ℤ◌, ◌<ℤ◌, int_lt, unsigned_abs, ◌&&◌, ◌⊎◌, inl, inr, refl, sym, ap, ◌∙◌, arith, mul-le-mul_right, length-set, get_or-set_same, get_or-set_other}
use Rattle.std.proofs.lemmas.Int.{ints}
use Rattle.std.proofs.lemmas.Bool.{cases_eq, cases_lt}
use Rattle.std.proofs.lemmas.Bool.Decides.{nat_tests}
use Rattle.gap_base.specs.Sums.{count_if}
use Rattle.gap_base.proofs.Counts.{count_nowhere, count_split}
use Rattle.gap_psd.specs.Shifts.{ShiftValue, r_of, with_r}
use Rattle.gap_psd.specs.Factors.{owed, wanted, too_large, takes_column, IsRoundedColumn}
use Rattle.gap_psd.proofs.ShiftLaws.{lower_above, lower_below}
use Rattle.gap_factor.specs.Columns.{SameBeside, IsWritten, AreSmallBelow, AreRounded}
use Rattle.gap_factor.proofs.FactorLaws.{owed_same, wanted_same, choice_same, column_kept, wanted_above}

-- ---- places of a table of n columns
pub place_below : (n i j : ℕ) → i < n → j < n → i * n + j < n * n
place_below n i j p q = let l : i + 1 ≤ n = omega arith in let h : (i + 1) * n ≤ n * n = mul-le-mul_right n l in omega arith

row_before : (n i j a b : ℕ) → a < i → b < n → a * n + b < i * n + j
row_before n i j a b p q = let l : a + 1 ≤ i = omega arith in let h : (a + 1) * n ≤ i * n = mul-le-mul_right n l in omega arith

places_apart_by : (n i j a b : ℕ) → j < n → b < n → a * n + b ≡ i * n + j → (a < i) ⊎ (i ≤ a) → (i < a) ⊎ (a ≤ i) → a ≡ i
places_apart_by n i j a b p q e (inl l) _ = let h = row_before n i j a b l q in absurd (omega arith)
places_apart_by n i j a b p q e (inr l) (inl m) = let h = row_before n a b i j m p in absurd (omega arith)
places_apart_by n i j a b p q e (inr l) (inr m) = omega arith

same_row : (n i j a b : ℕ) → j < n → b < n → a * n + b ≡ i * n + j → a ≡ i
same_row n i j a b p q e = places_apart_by n i j a b p q e (cases_lt a i) (cases_lt i a)

same_column : (n i j a b : ℕ) → j < n → b < n → a * n + b ≡ i * n + j → b ≡ j
same_column n i j a b p q e = let r : a ≡ i = same_row n i j a b p q e in let m : a * n ≡ i * n = ap (λ (x : ℕ). x * n) r in omega arith

-- ---- R after one entry was set
pub r_set_same : (s : ShiftValue) (i j : ℕ) (v : ℤ) → i < s.assets → j ≤ i → length s.factor ≡ s.assets * s.assets → r_of (with_r s i j v) i j ≡ v
r_set_same s i j v p q size = lower_below s.assets (slice_set s.factor (i * s.assets + j) v) i j q ∙ get_or-set_same s.factor (i * s.assets + j) v (pos 0) (let h = place_below s.assets i j p (omega arith) in omega arith)

r_set_by : (s : ShiftValue) (i j a b : ℕ) (v : ℤ) → (a * s.assets + b ≡ i * s.assets + j → ⊥) → (a < b) ⊎ (b ≤ a) → r_of (with_r s i j v) a b ≡ r_of s a b
r_set_by s i j a b v n (inl l) = lower_above s.assets (slice_set s.factor (i * s.assets + j) v) a b l ∙ sym (lower_above s.assets s.factor a b l)
r_set_by s i j a b v n (inr l) = lower_below s.assets (slice_set s.factor (i * s.assets + j) v) a b l ∙ get_or-set_other s.factor (i * s.assets + j) (a * s.assets + b) v (pos 0) n ∙ sym (lower_below s.assets s.factor a b l)

pub r_set_other_row : (s : ShiftValue) (i j a b : ℕ) (v : ℤ) → j < s.assets → b < s.assets → (a ≡ i → ⊥) → r_of (with_r s i j v) a b ≡ r_of s a b
r_set_other_row s i j a b v p q n = r_set_by s i j a b v (λ e. n (same_row s.assets i j a b p q e)) (cases_lt a b)

pub r_set_other_column : (s : ShiftValue) (i j a b : ℕ) (v : ℤ) → j < s.assets → b < s.assets → (b ≡ j → ⊥) → r_of (with_r s i j v) a b ≡ r_of s a b
r_set_other_column s i j a b v p q n = r_set_by s i j a b v (λ e. n (same_column s.assets i j a b p q e)) (cases_lt a b)

-- ---- nothing changed beside a column
pub beside_refl : (s : ShiftValue) (j : ℕ) → SameBeside s s j
beside_refl s j = record { assets = refl; diagonal = refl; size = refl; columns = λ a b p q n. refl }

pub beside_trans : (s t u : ShiftValue) (j : ℕ) → SameBeside s t j → SameBeside t u j → SameBeside s u j
beside_trans s t u j h g = record {
  assets = g.assets ∙ h.assets;
  diagonal = g.diagonal ∙ h.diagonal;
  size = g.size ∙ h.size;
  columns = λ a b p q n. let e = h.assets in g.columns a b (omega arith) (omega arith) n ∙ h.columns a b p q n;
}

beside_set : (s t : ShiftValue) (j i : ℕ) (v : ℤ) → j < s.assets → SameBeside s t j → SameBeside s (with_r t i j v) j
beside_set s t j i v p h = record {
  assets = h.assets;
  diagonal = h.diagonal;
  size = length-set t.factor (i * t.assets + j) v ∙ h.size;
  columns = λ a b x y n. let e = h.assets in r_set_other_column t i j a b v (omega arith) (omega arith) n ∙ h.columns a b x y n;
}

pub pivot_kept : (C : ℕ → ℕ → ℤ) (s t : ShiftValue) (j : ℕ) → j < s.assets → SameBeside s t j → owed C (r_of t) j j ≡ owed C (r_of s) j j
pivot_kept C s t j p h = owed_same C (r_of t) (r_of s) j j (λ k l. h.columns j k p (omega arith) (λ e. omega arith)) (λ k l. h.columns j k p (omega arith) (λ e. omega arith))

pub wanted_kept : (C : ℕ → ℕ → ℤ) (s t : ShiftValue) (j i : ℕ) → i < s.assets → j < s.assets → SameBeside s t j → wanted C (r_of t) j i ≡ wanted C (r_of s) j i
wanted_kept C s t j i p q h = wanted_same s.assets C (r_of t) (r_of s) j i p q (λ a b x y. h.columns a b x (omega arith) (λ e. omega arith))

-- ---- a column written row by row
written_by : (entries : ℕ → ℤ) (s t : ShiftValue) (j i : ℕ) (v : ℤ) → j ≤ i → i < t.assets → length t.factor ≡ t.assets * t.assets → ((a : ℕ) → a < i → r_of t a j ≡ entries a) → v ≡ entries i → (a : ℕ) → a < i + 1 → (a ≡ i) ⊎ (a ≡ i → ⊥) → r_of (with_r t i j v) a j ≡ entries a
written_by entries s t j i v q p size h e a l (inl m) = rw m (r_set_same t i j v p q size ∙ e)
written_by entries s t j i v q p size h e a l (inr m) = r_set_other_row t i j a j v (omega arith) (omega arith) m ∙ h a (omega (arith, m))

written_set : (entries : ℕ → ℤ) (s t : ShiftValue) (j i : ℕ) (v : ℤ) → j ≤ i → i < s.assets → length s.factor ≡ s.assets * s.assets → IsWritten entries s t j i → v ≡ entries i → IsWritten entries s (with_r t i j v) j (i + 1)
written_set entries s t j i v q p size h e = let k = h.kept.assets in let z = h.kept.size in let m : length t.factor ≡ t.assets * t.assets = z ∙ size ∙ ap (λ (x : ℕ). x * x) (sym k) in record {
  kept = beside_set s t j i v (omega arith) h.kept;
  written = λ a l. written_by entries s t j i v q (omega arith) m h.written e a l (cases_eq a i);
}

pub written_step : (entries : ℕ → ℤ) (s t u : ShiftValue) (j i : ℕ) (v : ℤ) → j ≤ i → i < s.assets → length s.factor ≡ s.assets * s.assets → IsWritten entries s t j i → v ≡ entries i → u ≡ with_r t i j v → IsWritten entries s u j (i + 1)
written_step entries s t u j i v q p size h e w = rw w (written_set entries s t j i v q p size h e)

pub written_start : (C : ℕ → ℕ → ℤ) (s : ShiftValue) (j : ℕ) → IsWritten (wanted C (r_of s) j) s s j j
written_start C s j = record { kept = beside_refl s j; written = λ a l. lower_above s.assets s.factor a j l ∙ sym (wanted_above C (r_of s) j a l) }

zero_small : (z : ℤ) → z ≡ pos 0 → unsigned_abs z ≤ 1000000000000000
zero_small z e = rw e (omega arith)

pub small_start : (C : ℕ → ℕ → ℤ) (s : ShiftValue) (j : ℕ) → AreSmallBelow (wanted C (r_of s) j) j
small_start C s j a l = zero_small (wanted C (r_of s) j a) (wanted_above C (r_of s) j a l)

pub cleared_start : (s : ShiftValue) (j : ℕ) → IsWritten (λ a. pos 0) s s j j
cleared_start s j = record { kept = beside_refl s j; written = λ a l. lower_above s.assets s.factor a j l }

-- ---- whether a column fits
lt_false : (a b : ℕ) → b ≤ a → nat_lt a b ≡ false
lt_false a b h = grind (arith, nat_tests)

lt_true : (a b : ℕ) → a < b → nat_lt a b ≡ true
lt_true a b h = grind (arith, nat_tests)

pub all_fit : (n : ℕ) (C R : ℕ → ℕ → ℤ) (j : ℕ) → AreSmallBelow (wanted C R j) n → too_large n C R j ≡ 0
unfolding too_large
all_fit n C R j h = count_nowhere n (λ i. nat_lt 1000000000000000 (unsigned_abs (wanted C R j i))) (λ k l. lt_false 1000000000000000 (unsigned_abs (wanted C R j k)) (h k l))

one_of : (t : Bool) (m k : ℕ) → t ≡ true → m ≡ cond t 1 0 + k → m ≡ 0 → ⊥
one_of t m k h e z = let f : m ≡ 1 + k = e ∙ ap (λ (b : Bool). cond {A = ℕ} b 1 0 + k) h in omega arith

pub one_too_large : (n : ℕ) (C R : ℕ → ℕ → ℤ) (j i : ℕ) → i < n → 1000000000000000 < unsigned_abs (wanted C R j i) → too_large n C R j ≡ 0 → ⊥
unfolding too_large
one_too_large n C R j i l h = one_of (nat_lt 1000000000000000 (unsigned_abs (wanted C R j i))) (count_if n (λ i. nat_lt 1000000000000000 (unsigned_abs (wanted C R j i)))) (count_if n (λ k. if k == i then false else nat_lt 1000000000000000 (unsigned_abs (wanted C R j k)))) (lt_true 1000000000000000 (unsigned_abs (wanted C R j i)) h) (count_split n i (λ i. nat_lt 1000000000000000 (unsigned_abs (wanted C R j i))) l)

not_fit_by : (r : Bool) (m b : ℕ) → IsTrue r ↔ (m ≤ b) → r ≡ false → (b < m) ⊎ (m ≤ b) → b < m
not_fit_by r m b h e (inl l) = l
not_fit_by r m b h e (inr l) = let t : r ≡ true = h.1 l in cc

-- what a test of sizes says where it fails, and where it holds
pub not_fit : (r : Bool) (m b : ℕ) → IsTrue r ↔ (m ≤ b) → r ≡ false → b < m
not_fit r m b h e = not_fit_by r m b h e (cases_lt b m)

pub fit : (r : Bool) (m b : ℕ) → IsTrue r ↔ (m ≤ b) → r ≡ true → m ≤ b
fit r m b h e = h.0 e

size_over : (b : ℕ) (x y : ℤ) → x ≡ y → b < unsigned_abs x → b < unsigned_abs y
size_over b x y e h = rw e at h

size_under : (b : ℕ) (x y : ℤ) → x ≡ y → unsigned_abs x ≤ b → unsigned_abs y ≤ b
size_under b x y e h = rw e at h

pub too_large_at : (C : ℕ → ℕ → ℤ) (s t : ShiftValue) (j i : ℕ) (x : ℤ) → i < s.assets → j < s.assets → SameBeside s t j → x ≡ wanted C (r_of t) j i → 1000000000000000 < unsigned_abs x → too_large s.assets C (r_of s) j ≡ 0 → ⊥
too_large_at C s t j i x p q h e big = one_too_large s.assets C (r_of s) j i p (size_over 1000000000000000 x (wanted C (r_of s) j i) (e ∙ wanted_kept C s t j i p q h) big)

pub small_at : (C : ℕ → ℕ → ℤ) (s t : ShiftValue) (j i : ℕ) (x : ℤ) → i < s.assets → j < s.assets → SameBeside s t j → x ≡ wanted C (r_of t) j i → unsigned_abs x ≤ 1000000000000000 → unsigned_abs (wanted C (r_of s) j i) ≤ 1000000000000000
small_at C s t j i x p q h e small = size_under 1000000000000000 x (wanted C (r_of s) j i) (e ∙ wanted_kept C s t j i p q h) small

int_lt_false : (x : ℤ) → x ≤ℤ pos 0 → int_lt (pos 0) x ≡ false
int_lt_false x h = grind (arith, ints)

int_lt_true : (x : ℤ) → pos 0 <ℤ x → int_lt (pos 0) x ≡ true
int_lt_true x h = grind (arith, ints)

and_by : (s t : Bool) → s ≡ false → (s && t) ≡ false
and_by s t e = rw e refl

and_true : (s t : Bool) → s ≡ true → (s && t) ≡ t
and_true s t e = rw e refl

pub takes_none : (n : ℕ) (C R : ℕ → ℕ → ℤ) (j : ℕ) → owed C R j j ≤ℤ pos 0 → takes_column n C R j ≡ false
unfolding takes_column
takes_none n C R j h = and_by (int_lt (pos 0) (owed C R j j)) (too_large n C R j == 0) (int_lt_false (owed C R j j) h)

same_test : (r : Bool) (m : ℕ) → IsTrue r ↔ (m ≡ 0) → r ≡ (m == 0)
same_test r m h = grind (arith, nat_tests)

pub takes_some : (n : ℕ) (C R : ℕ → ℕ → ℤ) (j : ℕ) (r : Bool) → pos 0 <ℤ owed C R j j → IsTrue r ↔ (too_large n C R j ≡ 0) → r ≡ takes_column n C R j
unfolding takes_column
takes_some n C R j r p h = same_test r (too_large n C R j) h ∙ sym (and_true (int_lt (pos 0) (owed C R j j)) (too_large n C R j == 0) (int_lt_true (owed C R j j) p))

-- ---- a whole column
if_true : (t : Bool) (x y z : ℤ) → t ≡ true → x ≡ z → z ≡ (if t then x else y)
if_true t x y z e h = rw e (sym h)

if_false : (t : Bool) (x y z : ℤ) → t ≡ false → z ≡ y → z ≡ (if t then x else y)
if_false t x y z e h = rw e h

pub rounded_taken : (C : ℕ → ℕ → ℤ) (s t : ShiftValue) (j : ℕ) → j < s.assets → SameBeside s t j → true ≡ takes_column s.assets C (r_of s) j → ((a : ℕ) → a < s.assets → r_of t a j ≡ wanted C (r_of s) j a) → IsRoundedColumn s.assets C (r_of t) j
rounded_taken C s t j p h e w i l = if_true (takes_column s.assets C (r_of s) j) (wanted C (r_of s) j i) (pos 0) (r_of t i j) (sym e) (sym (w i l)) ∙ choice_same s.assets C (r_of s) (r_of t) j i l p (λ a b x y. sym (h.columns a b x (omega arith) (λ z. omega arith)))

pub rounded_cleared : (C : ℕ → ℕ → ℤ) (s t : ShiftValue) (j : ℕ) → j < s.assets → SameBeside s t j → false ≡ takes_column s.assets C (r_of s) j → ((a : ℕ) → a < s.assets → r_of t a j ≡ pos 0) → IsRoundedColumn s.assets C (r_of t) j
rounded_cleared C s t j p h e w i l = if_false (takes_column s.assets C (r_of s) j) (wanted C (r_of s) j i) (pos 0) (r_of t i j) (sym e) (w i l) ∙ choice_same s.assets C (r_of s) (r_of t) j i l p (λ a b x y. sym (h.columns a b x (omega arith) (λ z. omega arith)))

-- ---- column after column
pub rounded_start : (C : ℕ → ℕ → ℤ) (s : ShiftValue) → AreRounded C s s 0
rounded_start C s = record { assets = refl; diagonal = refl; columns = λ k l. absurd (omega arith) }

columns_by : (C : ℕ → ℕ → ℤ) (n : ℕ) (R S : ℕ → ℕ → ℤ) (j : ℕ) → j < n → ((a b : ℕ) → a < n → b < n → b ≢ j → S a b ≡ R a b) → ((k : ℕ) → k < j → IsRoundedColumn n C R k) → IsRoundedColumn n C S j → (k : ℕ) → k < j + 1 → (k ≡ j) ⊎ (k ≡ j → ⊥) → IsRoundedColumn n C S k
columns_by C n R S j p h before here k l (inl e) = rw e here
columns_by C n R S j p h before here k l (inr e) = column_kept n C R S k (omega arith) (λ a b x y. sym (h a b x (omega arith) (λ z. omega (arith, e)))) (before k (omega (arith, e)))

pub rounded_step : (C : ℕ → ℕ → ℤ) (s t u : ShiftValue) (j : ℕ) → j < s.assets → AreRounded C s t j → SameBeside t u j → IsRoundedColumn t.assets C (r_of u) j → AreRounded C s u (j + 1)
rounded_step C s t u j p h g c = let e = h.assets in let here : IsRoundedColumn s.assets C (r_of u) j = rw e at c in record {
  assets = g.assets ∙ h.assets;
  diagonal = g.diagonal ∙ h.diagonal;
  columns = λ k l. columns_by C s.assets (r_of t) (r_of u) j p (λ a b x y n. g.columns a b (omega arith) (omega arith) n) h.columns here k l (cases_eq k j);
}
