-- Lists of whole numbers as functions of the place.
use Rattle.std.proofs.Common.{◌+◌, slice_index_or, sum, count_by, cond, Bool, ◌≡◌, ℕ, zero, suc, ◌<◌, ◌==◌, if◌then◌else◌, List, [], ◌∷◌, length, set, ℤ, pos, ◌+ℤ◌, ◌-ℤ◌, ◌*ℤ◌, neg_ℤ, ◌⊎◌, inl, inr, refl, sym, ap, ◌∙◌, arith, length-set, get_or-set_same, get_or-set_other}
use Rattle.std.proofs.lemmas.Int.{ints}
use Rattle.std.proofs.lemmas.Bool.{cases_eq}
use Rattle.gap_base.specs.Sums.{sum_below, count_if, at, natural_at, unit, moved}
use Rattle.gap_base.proofs.SumLaws.{sum_none}
use Rattle.gap_base.proofs.Counts.{count_none}
use Rattle.std.proofs.lemmas.List.Sums.{sum_by-cons}
use Rattle.gap_base.proofs.Ring.{if_same, if_other, linear}

cons_places : (n : ℕ) (x : ℕ → ℤ) (l : List ℤ) → ((i : ℕ) → i < n → at l i ≡ x (suc i)) → (i : ℕ) → i < suc n → at (x 0 ∷ l) i ≡ x i
cons_places n x l h zero k = refl
cons_places n x l h (suc i) k = h i (omega arith)

-- a list with the values of a function at the places below n
pub list_of : (n : ℕ) (x : ℕ → ℤ) → (l : List ℤ) × (length l ≡ n) × ((i : ℕ) → i < n → at l i ≡ x i)
list_of zero x = ([], refl, λ i h. absurd (omega arith))
list_of (suc n) x = let r = list_of n (λ k. x (suc k)) in (x 0 ∷ r.0, ap suc r.1, cons_places n x r.0 r.2)

-- a place of a list after one was set
pub natural_at-set : (x : List ℕ) (i k a : ℕ) → i < length x → natural_at (set x i a) k ≡ (if k == i then pos a else natural_at x k)
natural_at-set x i k a h = natural_at-set_by x i k a h (cases_eq k i)
  where
    natural_at-set_by : (x : List ℕ) (i k a : ℕ) → i < length x → (k ≡ i) ⊎ (k ≡ i → ⊥) → natural_at (set x i a) k ≡ (if k == i then pos a else natural_at x k)
    natural_at-set_by x i k a h (inl e) = rw (if_same k i (pos a) (natural_at x k) e) (rw e (ap pos (get_or-set_same x i a 0 h)))
    natural_at-set_by x i k a h (inr e) = rw (if_other k i (pos a) (natural_at x k) e) (ap pos (get_or-set_other x i k a 0 e))

moved_other : (v s ui uj : ℤ) → ui ≡ pos 0 → uj ≡ pos 0 → v ≡ v +ℤ s *ℤ (uj +ℤ neg_ℤ ui)
moved_other v s ui uj p q = rw p (rw q (omega (arith, linear)))

moved_from : (v s a ui uj : ℤ) → a ≡ v -ℤ s → ui ≡ pos 1 → uj ≡ pos 0 → a ≡ v +ℤ s *ℤ (uj +ℤ neg_ℤ ui)
moved_from v s a ui uj e p q = rw p (rw q (omega (arith, ints)))

moved_to : (v s b ui uj : ℤ) → b ≡ v +ℤ s → ui ≡ pos 0 → uj ≡ pos 1 → b ≡ v +ℤ s *ℤ (uj +ℤ neg_ℤ ui)
moved_to v s b ui uj e p q = rw p (rw q (omega (arith, linear)))

lots_moved_by : (x : List ℕ) (s : ℤ) (i j a b k : ℕ) → i < length x → j < length x → (i ≡ j → ⊥) → pos a ≡ natural_at x i -ℤ s → pos b ≡ natural_at x j +ℤ s → (k ≡ j) ⊎ (k ≡ j → ⊥) → (k ≡ i) ⊎ (k ≡ i → ⊥) → (if k == j then pos b else (if k == i then pos a else natural_at x k)) ≡ moved (natural_at x) s i j k
lots_moved_by x s i j a b k p q n ea eb (inl e) _ = let ne : k ≡ i → ⊥ = λ w. n (sym w ∙ e) in rw (if_same k j (pos b) (if k == i then pos a else natural_at x k) e) (moved_to (natural_at x k) s (pos b) (unit i k) (unit j k) (eb ∙ ap (λ t. natural_at x t +ℤ s) (sym e)) (if_other k i (pos 1) (pos 0) ne) (if_same k j (pos 1) (pos 0) e))
lots_moved_by x s i j a b k p q n ea eb (inr m) (inl e) = rw (if_other k j (pos b) (if k == i then pos a else natural_at x k) m) (rw (if_same k i (pos a) (natural_at x k) e) (moved_from (natural_at x k) s (pos a) (unit i k) (unit j k) (ea ∙ ap (λ t. natural_at x t -ℤ s) (sym e)) (if_same k i (pos 1) (pos 0) e) (if_other k j (pos 1) (pos 0) m)))
lots_moved_by x s i j a b k p q n ea eb (inr m) (inr e) = rw (if_other k j (pos b) (if k == i then pos a else natural_at x k) m) (rw (if_other k i (pos a) (natural_at x k) e) (moved_other (natural_at x k) s (unit i k) (unit j k) (if_other k i (pos 1) (pos 0) e) (if_other k j (pos 1) (pos 0) m)))

-- lots after s of them went from the asset i to the asset j
pub lots_moved : (x : List ℕ) (s : ℤ) (i j a b k : ℕ) → i < length x → j < length x → (i ≡ j → ⊥) → pos a ≡ natural_at x i -ℤ s → pos b ≡ natural_at x j +ℤ s → natural_at (set (set x i a) j b) k ≡ moved (natural_at x) s i j k
lots_moved x s i j a b k p q n ea eb =
    let outer = natural_at-set (set x i a) j k b (omega (arith, length-set x i a)) in
    let inner = natural_at-set x i k a p in
    outer ∙ ap (λ z. if k == j then pos b else z) inner ∙ lots_moved_by x s i j a b k p q n ea eb (cases_eq k j) (cases_eq k i)

from_front : (n : ℕ) (a : ℤ) (f : ℕ → ℤ) → sum_below (suc n) (λ k. f k) ≡ f 0 +ℤ sum_below n (λ k. f (suc k))
unfolding sum_below
from_front zero a f = omega (arith, linear)
from_front (suc n) a f = let e = from_front n a f in omega (arith, linear)

-- std's sum of a list of natural numbers is the sum over its places
pub sum_places : (x : List ℕ) → pos (sum x) ≡ sum_below (length x) (natural_at x)
sum_places [] = sym (sum_none (natural_at []))
sum_places (a ∷ x) = let e = sum_by-cons (λ n. n) a x in let r = sum_places x in let f = from_front (length x) (pos 0) (natural_at (a ∷ x)) in let g : pos (sum (a ∷ x)) ≡ pos a +ℤ pos (sum x) = ap pos e in g ∙ ap (λ z. pos a +ℤ z) r ∙ sym f

count_front : (n : ℕ) (p : ℕ → Bool) → count_if (suc n) (λ k. p k) ≡ cond (p 0) 1 0 + count_if n (λ k. p (suc k))
unfolding count_if
count_front zero p = omega arith
count_front (suc n) p = let e = count_front n p in omega arith

-- std's count of the numbers of a list that meet a test is the count over its places
pub count_places : (t : ℕ → Bool) (x : List ℕ) → count_by t x ≡ count_if (length x) (λ k. t (slice_index_or x k 0))
count_places t [] = sym (count_none (λ k. t (slice_index_or [] k 0)))
count_places t (a ∷ x) = let e = sum_by-cons (λ n. cond (t n) 1 0) a x in let r = count_places t x in let f = count_front (length x) (λ k. t (slice_index_or (a ∷ x) k 0)) in e ∙ ap (λ (n : ℕ). cond (t a) 1 0 + n) r ∙ sym f
