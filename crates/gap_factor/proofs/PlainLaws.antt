-- How the shift with R zero is made, column by column.
use Rattle.std.proofs.Common.{◌≡◌, ℕ, ◌+◌, ◌<◌, List, length, slice_set, ℤ, pos, ◌⊎◌, inl, inr, sym, ap, ◌∙◌, arith, length-set, get_or-set_same, get_or-set_other}
use Rattle.std.proofs.lemmas.Bool.{cases_eq}
use Rattle.gap_base.specs.Sums.{at}
use Rattle.gap_psd.specs.Shifts.{ShiftValue, r_of, with_d}
use Rattle.gap_factor.specs.Columns.{SameBeside}
use Rattle.gap_factor.specs.Plain.{plain_of, ArePlain}

zero_by : (s t u : ShiftValue) (i : ℕ) → i < s.assets → t.assets ≡ s.assets → SameBeside t u i → ((a : ℕ) → a < t.assets → r_of u a i ≡ pos 0) → ((a b : ℕ) → a < s.assets → b < i → r_of t a b ≡ pos 0) → (a b : ℕ) → a < s.assets → b < i + 1 → (b ≡ i) ⊎ (b ≡ i → ⊥) → r_of u a b ≡ pos 0
zero_by s t u i l e h here before a b p q (inl m) = rw m (here a (omega arith))
zero_by s t u i l e h here before a b p q (inr n) = h.columns a b (omega arith) (omega arith) n ∙ before a b p (omega (arith, n))

plain_by : (C : ℕ → ℕ → ℤ) (n : ℕ) (ds es : List ℤ) (i : ℕ) (v : ℤ) → i < length ds → v ≡ plain_of n C i → es ≡ ds → ((k : ℕ) → k < i → at es k ≡ plain_of n C k) → (k : ℕ) → k < i + 1 → (k ≡ i) ⊎ (k ≡ i → ⊥) → at (slice_set ds i v) k ≡ plain_of n C k
plain_by C n ds es i v l e f before k p (inl m) = rw m (get_or-set_same ds i v (pos 0) l ∙ e)
plain_by C n ds es i v l e f before k p (inr m) = get_or-set_other ds i k v (pos 0) m ∙ ap (λ xs. at xs k) (sym f) ∙ before k (omega (arith, m))

plain_at : (C : ℕ → ℕ → ℤ) (s t u : ShiftValue) (i : ℕ) (v : ℤ) → length s.diagonal ≡ s.assets → i < s.assets → ArePlain C s t i → SameBeside t u i → ((a : ℕ) → a < t.assets → r_of u a i ≡ pos 0) → v ≡ plain_of s.assets C i → ArePlain C s (with_d u i v) (i + 1)
plain_at C s t u i v size l h g here e = let z = h.size in let y : length u.diagonal ≡ length t.diagonal = ap length g.diagonal in record {
  assets = g.assets ∙ h.assets;
  size = length-set u.diagonal i v ∙ y ∙ h.size;
  zero_before = λ a b p q. zero_by s t u i l h.assets g here h.zero_before a b p q (cases_eq b i);
  plain_before = λ k p. plain_by C s.assets u.diagonal t.diagonal i v (omega arith) e (sym g.diagonal) h.plain_before k p (cases_eq k i);
}

pub plain_step : (C : ℕ → ℕ → ℤ) (s t u w : ShiftValue) (i : ℕ) (v : ℤ) → length s.diagonal ≡ s.assets → i < s.assets → ArePlain C s t i → SameBeside t u i → ((a : ℕ) → a < t.assets → r_of u a i ≡ pos 0) → v ≡ plain_of s.assets C i → w ≡ with_d u i v → ArePlain C s w (i + 1)
plain_step C s t u w i v size l h g here e f = rw f (plain_at C s t u i v size l h g here e)
