-- Two lists are compared number by number.
use Rattle.std.proofs.Common.{◌≡◌, ◌≢◌, ℕ, zero, suc, ◌+◌, ◌<◌, ◌≤◌, ◌&&◌, ◌==◌, Bool, true, false, List, [], ◌∷◌, length, drop, slice_index_or, refl, sym, ap, ◌∙◌, arith, add-one}
use Rattle.std.proofs.lemmas.Bool.Decides.{nat_tests}
use Rattle.gap_cert.specs.Fields.{same_numbers}

pub different_lengths : (x y : List ℕ) → length x ≢ length y → same_numbers x y ≡ false
different_lengths [] [] h = absurd (h refl)
different_lengths [] (w ∷ y) h = refl
different_lengths (v ∷ x) [] h = refl
different_lengths (v ∷ x) (w ∷ y) h = and_false (v == w) (same_numbers x y) (different_lengths x y (λ e. h (ap suc e)))
  where
    and_false : (s t : Bool) → t ≡ false → (s && t) ≡ false
    and_false true t e = e
    and_false false t e = refl

equal_is : (v w : ℕ) → v ≡ w → (v == w) ≡ true
equal_is v w h = grind (arith, nat_tests)

differs_is : (v w : ℕ) → v ≢ w → (v == w) ≡ false
differs_is v w h = grind (arith, nat_tests)

same_behind : (x y : List ℕ) (i : ℕ) → i < length x → i < length y → slice_index_or x i 0 ≡ slice_index_or y i 0 → same_numbers (drop i x) (drop i y) ≡ same_numbers (drop (suc i) x) (drop (suc i) y)
same_behind [] y i h k e = absurd (omega arith)
same_behind (v ∷ x) [] i h k e = absurd (omega arith)
same_behind (v ∷ x) (w ∷ y) zero h k e = ap (λ (b : Bool). b && same_numbers x y) (equal_is v w e)
same_behind (v ∷ x) (w ∷ y) (suc i) h k e = same_behind x y i (omega arith) (omega arith) e

pub same_step : (x y : List ℕ) (i : ℕ) → i < length x → length x ≡ length y → slice_index_or x i 0 ≡ slice_index_or y i 0 → same_numbers (drop i x) (drop i y) ≡ same_numbers (drop (i + 1) x) (drop (i + 1) y)
same_step x y i h k e = same_behind x y i h (omega (arith, k)) e ∙ ap (λ (j : ℕ). same_numbers (drop j x) (drop j y)) (sym (add-one i))

pub same_differs : (x y : List ℕ) (i : ℕ) → i < length x → i < length y → slice_index_or x i 0 ≢ slice_index_or y i 0 → same_numbers (drop i x) (drop i y) ≡ false
same_differs [] y i h k e = absurd (omega arith)
same_differs (v ∷ x) [] i h k e = absurd (omega arith)
same_differs (v ∷ x) (w ∷ y) zero h k e = ap (λ (b : Bool). b && same_numbers x y) (differs_is v w e)
same_differs (v ∷ x) (w ∷ y) (suc i) h k e = same_differs x y i (omega arith) (omega arith) e

pub same_end : (x y : List ℕ) (i : ℕ) → length x ≤ i → length x ≡ length y → same_numbers (drop i x) (drop i y) ≡ true
same_end [] [] zero h e = refl
same_end [] [] (suc i) h e = refl
same_end [] (w ∷ y) i h e = absurd (omega (arith, e))
same_end (v ∷ x) [] i h e = absurd (omega (arith, e))
same_end (v ∷ x) (w ∷ y) zero h e = absurd (omega arith)
same_end (v ∷ x) (w ∷ y) (suc i) h e = same_end x y i (omega arith) (omega (arith, e))
