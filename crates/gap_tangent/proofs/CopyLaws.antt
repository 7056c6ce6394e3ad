-- A list written place by place from another.

use Rattle.std.proofs.Common.{◌≡◌, ◌≢◌, ◌↔◌, ℕ, ◌+◌, ◌<◌, ◌≤◌, true, false, IsTrue, List, length, slice_index_or, slice_set, ◌⊎◌, inl, inr, refl, sym, ap, ◌∙◌, subst, arith, length-set, get_or-set_same, get_or-set_other}
use Rattle.std.proofs.lemmas.Bool.{cases_eq}
use Rattle.std.proofs.lemmas.List.{ext_get_or}

-- the first places of a list of n numbers are those of another
pub record IsCopied (n : ℕ) (from : List ℕ) (i : ℕ) (to : List ℕ) : Type 0 where
  pub count : length to ≡ n
  pub same : (k : ℕ) → k < i → slice_index_or to k 0 ≡ slice_index_or from k 0

pub copied_none : (n : ℕ) (from to : List ℕ) → length to ≡ n → IsCopied n from 0 to
copied_none n from to e = record { count = e; same = λ k h. absurd (omega arith) }

pub copied_more : (n : ℕ) (from : List ℕ) (i : ℕ) (to : List ℕ) (v : ℕ) → i < n → IsCopied n from i to → v ≡ slice_index_or from i 0 → IsCopied n from (i + 1) (slice_set to i v)
copied_more n from i to v l before e = record { count = length-set to i v ∙ before.count; same = λ k h. same_by k h (cases_eq k i) }
  where
    same_by : (k : ℕ) → k < i + 1 → (k ≡ i) ⊎ (k ≡ i → ⊥) → slice_index_or (slice_set to i v) k 0 ≡ slice_index_or from k 0
    same_by k h (inl q) = subst (λ (j : ℕ). slice_index_or (slice_set to i v) j 0 ≡ slice_index_or from j 0) (sym q) (get_or-set_same to i v 0 (let c = before.count in omega arith) ∙ e)
    same_by k h (inr q) = get_or-set_other to i k v 0 q ∙ before.same k (omega (arith, q))

pub copied_all : (n : ℕ) (from : List ℕ) (i : ℕ) (to : List ℕ) → i ≡ n → length from ≡ n → IsCopied n from i to → to ≡ from
copied_all n from i to e f h = ext_get_or 0 to from (h.count ∙ sym f) (λ k l. h.same k (let c = h.count in omega arith))

-- ---- two lists compared place by place

pub copied_step : (n : ℕ) (from : List ℕ) (i : ℕ) (to : List ℕ) → IsCopied n from i to → slice_index_or to i 0 ≡ slice_index_or from i 0 → IsCopied n from (i + 1) to
copied_step n from i to before e = record { count = before.count; same = λ k h. same_by k h (cases_eq k i) }
  where
    same_by : (k : ℕ) → k < i + 1 → (k ≡ i) ⊎ (k ≡ i → ⊥) → slice_index_or to k 0 ≡ slice_index_or from k 0
    same_by k h (inl q) = subst (λ (j : ℕ). slice_index_or to j 0 ≡ slice_index_or from j 0) (sym q) e
    same_by k h (inr q) = before.same k (omega (arith, q))

pub copied_whole : (x y : List ℕ) (i : ℕ) → length x ≤ i → IsCopied (length y) y i x → IsTrue true ↔ (x ≡ y)
copied_whole x y i l h = (λ t. copied_all (length y) y (length x) x h.count refl (record { count = h.count; same = λ k m. h.same k (omega (arith, m, l)) }), λ e. refl)

pub other_lengths : (x y : List ℕ) → length x ≢ length y → IsTrue false ↔ (x ≡ y)
other_lengths x y h = (λ t. cc, λ e. absurd (h (ap length e)))

pub other_at : (x y : List ℕ) (i : ℕ) → slice_index_or x i 0 ≢ slice_index_or y i 0 → IsTrue false ↔ (x ≡ y)
other_at x y i h = (λ t. cc, λ e. absurd (h (ap (λ (z : List ℕ). slice_index_or z i 0) e)))
