-- What a loop that writes a table place by place knows of it.

use Rattle.std.proofs.Common.{◌≡◌, ℕ, ◌+◌, ◌<◌, List, length, slice_set, ◌⊎◌, inl, inr, ℤ, pos, sym, subst, arith, get_or-set_same, get_or-set_other}
use Rattle.std.proofs.lemmas.Bool.{cases_eq}
use Rattle.gap_base.specs.Sums.{at}

-- one more place of a table, written at a place that is known by an equation
pub table_more : (f : ℕ → ℤ) (xs : List ℤ) (i j : ℕ) (v : ℤ) → j ≡ i → i < length xs → ((k : ℕ) → k < i → at xs k ≡ f k) → v ≡ f i → (k : ℕ) → k < i + 1 → at (slice_set xs j v) k ≡ f k
table_more f xs i j v e h before here k l = subst (λ (m : ℕ). at (slice_set xs m v) k ≡ f k) (sym e) (by_place (cases_eq k i))
  where
    by_place : (k ≡ i) ⊎ (k ≡ i → ⊥) → at (slice_set xs i v) k ≡ f k
    by_place (inl q) = subst (λ (m : ℕ). at (slice_set xs i v) m ≡ f m) (sym q) (subst (λ (z : ℤ). z ≡ f i) (sym (get_or-set_same xs i v (pos 0) h)) here)
    by_place (inr n) = subst (λ (z : ℤ). z ≡ f k) (sym (get_or-set_other xs i k v (pos 0) n)) (before k (omega (arith, n)))
