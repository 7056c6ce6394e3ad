-- What a loop that writes a table place by place knows of it.

use Rattle.std.proofs.Common.{◌≡◌, ℕ, ◌+◌, ◌<◌, List, length, slice_set, ◌⊎◌, inl, inr, ℤ, pos, sym, subst, arith, get_or-set_same, get_or-set_other}
use Rattle.std.proofs.lemmas.Bool.{cases_eq}
use Rattle.gap_base.specs.Sums.{at}

pub at_set_same : (xs : List ℤ) (i : ℕ) (v : ℤ) → i < length xs → at (slice_set xs i v) i ≡ v
at_set_same xs i v h = get_or-set_same xs i v (pos 0) h

pub at_set_other : (xs : List ℤ) (i k : ℕ) (v : ℤ) → (k ≡ i → ⊥) → at (slice_set xs i v) k ≡ at xs k
at_set_other xs i k v n = get_or-set_other xs i k v (pos 0) n

-- one more place of a table
pub table_more : (P : ℕ → ℤ → Type 0) (xs : List ℤ) (i : ℕ) (v : ℤ) → i < length xs → ((k : ℕ) → k < i → P k (at xs k)) → P i v → (k : ℕ) → k < i + 1 → P k (at (slice_set xs i v) k)
table_more P xs i v h before here k l = by_place (cases_eq k i)
  where
    by_place : (k ≡ i) ⊎ (k ≡ i → ⊥) → P k (at (slice_set xs i v) k)
    by_place (inl e) = subst (λ (j : ℕ). P j (at (slice_set xs i v) j)) (sym e) (subst (λ (z : ℤ). P i z) (sym (at_set_same xs i v h)) here)
    by_place (inr n) = subst (λ (z : ℤ). P k z) (sym (at_set_other xs i k v n)) (before k (omega (arith, n)))

-- the same where the place that is written is known by an equation
pub table_more_at : (P : ℕ → ℤ → Type 0) (xs : List ℤ) (i j : ℕ) (v : ℤ) → j ≡ i → i < length xs → ((k : ℕ) → k < i → P k (at xs k)) → P i v → (k : ℕ) → k < i + 1 → P k (at (slice_set xs j v) k)
table_more_at P xs i j v e h before here = subst (λ (m : ℕ). (k : ℕ) → k < i + 1 → P k (at (slice_set xs m v) k)) (sym e) (table_more P xs i v h before here)
