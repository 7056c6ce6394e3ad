-- A dominant symmetric matrix is semidefinite, and so is A where s A - R R' is dominant.
use Rattle.std.proofs.Common.{◌≡◌, ℕ, zero, suc, ◌+◌, ◌*◌, ◌<◌, ◌≤◌, ◌==◌, if◌then◌else◌, List, length, ℤ, pos, negsuc, ◌+ℤ◌, ◌-ℤ◌, ◌*ℤ◌, neg_ℤ, ◌≤ℤ◌, ◌<ℤ◌, ◌⊎◌, inl, inr, refl, sym, ap, ◌∙◌, arith}
use Rattle.std.proofs.Math.IntN.{*ℤ_comm, zero-*ℤ}
use Rattle.std.proofs.lemmas.Int.{ints}
use Rattle.std.proofs.lemmas.Bool.{cases_eq}
use Rattle.gap_base.specs.Sums.{sum_below, at, abs_z}
use Rattle.gap_base.proofs.Ring.{expand, linear, pull, square_not_negative, product_not_negative, scaled_le, not_negative_of_scaled, if_same, if_other}
use Rattle.gap_base.proofs.SumLaws.{sum_same, sum-add, sum-scale_right, sum-swap, sum_pick, sum_le}
use Rattle.gap_psd.specs.Forms.{form, gram, others, remainder, IsSemi, IsSymmetric, IsDominant}
use Rattle.gap_psd.proofs.FormLaws.{form_is, form_split, semi_gram, gram_symmetric}

-- e times two numbers, with the squares of both times the size of e
plus_square : (a b : ℤ) (k : ℕ) → pos 0 ≤ℤ ((pos k *ℤ a *ℤ b +ℤ pos k *ℤ a *ℤ b) +ℤ (pos k *ℤ (a *ℤ a) +ℤ pos k *ℤ (b *ℤ b)))
plus_square a b k = let p = product_not_negative (pos k) ((a +ℤ b) *ℤ (a +ℤ b)) (omega (arith, ints)) (square_not_negative (a +ℤ b)) in let e : pos k *ℤ ((a +ℤ b) *ℤ (a +ℤ b)) ≡ (pos k *ℤ a *ℤ b +ℤ pos k *ℤ a *ℤ b) +ℤ (pos k *ℤ (a *ℤ a) +ℤ pos k *ℤ (b *ℤ b)) = simp expand (omega (arith, linear)) in rw e at p

minus_square : (a b s : ℤ) → pos 0 ≤ℤ s → pos 0 ≤ℤ ((neg_ℤ s *ℤ a *ℤ b +ℤ neg_ℤ s *ℤ a *ℤ b) +ℤ (s *ℤ (a *ℤ a) +ℤ s *ℤ (b *ℤ b)))
minus_square a b s h = let p = product_not_negative s ((a +ℤ neg_ℤ b) *ℤ (a +ℤ neg_ℤ b)) h (square_not_negative (a +ℤ neg_ℤ b)) in let e : s *ℤ ((a +ℤ neg_ℤ b) *ℤ (a +ℤ neg_ℤ b)) ≡ (neg_ℤ s *ℤ a *ℤ b +ℤ neg_ℤ s *ℤ a *ℤ b) +ℤ (s *ℤ (a *ℤ a) +ℤ s *ℤ (b *ℤ b)) = simp expand (omega (arith, linear)) in rw e at p

pair_not_negative : (e a b : ℤ) → pos 0 ≤ℤ ((e *ℤ a *ℤ b +ℤ e *ℤ a *ℤ b) +ℤ (abs_z e *ℤ (a *ℤ a) +ℤ abs_z e *ℤ (b *ℤ b)))
pair_not_negative (pos k) a b = plus_square a b k
pair_not_negative (negsuc k) a b = minus_square a b (pos (suc k)) (omega (arith, ints))

-- the size of an entry off the diagonal
off : (ℕ → ℕ → ℤ) → ℕ → ℕ → ℤ
off E i j = if j == i then pos 0 else abs_z (E i j)

term : (ℕ → ℕ → ℤ) → (ℕ → ℤ) → ℕ → ℕ → ℤ
term E v i j = E i j *ℤ v i *ℤ v j

padded : (ℕ → ℕ → ℤ) → (ℕ → ℤ) → ℕ → ℕ → ℤ
padded E v i j = (term E v i j +ℤ term E v i j) +ℤ (off E i j *ℤ (v i *ℤ v i) +ℤ off E i j *ℤ (v j *ℤ v j))

-- row by row, what stands on the diagonal is the least that the padded row sums to
diagonal_zero : (o t x : ℤ) → o ≡ pos 0 → (t +ℤ t) +ℤ (o *ℤ x +ℤ o *ℤ x) ≡ t +ℤ t
diagonal_zero o t x h = rw h (rw (zero-*ℤ x) (omega (arith, linear)))

padded_diagonal : (E : ℕ → ℕ → ℤ) (v : ℕ → ℤ) (i : ℕ) → padded E v i i ≡ term E v i i +ℤ term E v i i
unfolding padded off
padded_diagonal E v i = diagonal_zero (if i == i then pos 0 else abs_z (E i i)) (term E v i i) (v i *ℤ v i) (if_same i i (pos 0) (abs_z (E i i)) refl)

padded_off : (E : ℕ → ℕ → ℤ) (v : ℕ → ℤ) (i j : ℕ) → (j ≡ i → ⊥) → pos 0 ≤ℤ padded E v i j
unfolding padded off term
padded_off E v i j n = rw (if_other j i (pos 0) (abs_z (E i j)) n) (pair_not_negative (E i j) (v i) (v j))

padded_above : (E : ℕ → ℕ → ℤ) (v : ℕ → ℤ) (i j : ℕ) → (j ≡ i) ⊎ (j ≡ i → ⊥) → (if j == i then padded E v i j else pos 0) ≤ℤ padded E v i j
padded_above E v i j (inl e) = rw (if_same j i (padded E v i j) (pos 0) e) (omega (arith, linear))
padded_above E v i j (inr n) = rw (if_other j i (padded E v i j) (pos 0) n) (padded_off E v i j n)

row_above : (n : ℕ) (E : ℕ → ℕ → ℤ) (v : ℕ → ℤ) (i : ℕ) → i < n → (term E v i i +ℤ term E v i i) ≤ℤ sum_below n (λ j. padded E v i j)
row_above n E v i l =
    let a = sum_le n (λ j. if j == i then padded E v i j else pos 0) (λ j. padded E v i j) (λ j m. padded_above E v i j (cases_eq j i)) in
    let b = sum_pick n i (λ j. padded E v i j) l in
    let c = padded_diagonal E v i in
    omega (arith, linear)

-- the sum of the padded row
row_sum : (n : ℕ) (E : ℕ → ℕ → ℤ) (v : ℕ → ℤ) (i : ℕ) → sum_below n (λ j. padded E v i j) ≡ (sum_below n (λ j. term E v i j) +ℤ sum_below n (λ j. term E v i j)) +ℤ (others n E i *ℤ (v i *ℤ v i) +ℤ sum_below n (λ j. off E i j *ℤ (v j *ℤ v j)))
unfolding padded others off
row_sum n E v i =
    let a = sum-add n (λ j. term E v i j +ℤ term E v i j) (λ j. off E i j *ℤ (v i *ℤ v i) +ℤ off E i j *ℤ (v j *ℤ v j)) in
    let b = sum-add n (λ j. term E v i j) (λ j. term E v i j) in
    let c = sum-add n (λ j. off E i j *ℤ (v i *ℤ v i)) (λ j. off E i j *ℤ (v j *ℤ v j)) in
    let d = sum-scale_right n (λ j. off E i j) (v i *ℤ v i) in
    omega (arith, linear)

off_symmetric : (n : ℕ) (E : ℕ → ℕ → ℤ) → IsSymmetric n E → (i j : ℕ) → i < n → j < n → off E i j ≡ off E j i
unfolding off
off_symmetric n E s i j p q = off_by E i j (s i j p q) (cases_eq j i)
  where
    off_by : (E : ℕ → ℕ → ℤ) (i j : ℕ) → E i j ≡ E j i → (j ≡ i) ⊎ (j ≡ i → ⊥) → off E i j ≡ off E j i
    off_by E i j h (inl e) = if_same j i (pos 0) (abs_z (E i j)) e ∙ sym (if_same i j (pos 0) (abs_z (E j i)) (sym e))
    off_by E i j h (inr m) = if_other j i (pos 0) (abs_z (E i j)) m ∙ ap abs_z h ∙ sym (if_other i j (pos 0) (abs_z (E j i)) (λ x. m (sym x)))

-- the last part of the padded rows, summed over all rows
turned : (n : ℕ) (E : ℕ → ℕ → ℤ) (v : ℕ → ℤ) → IsSymmetric n E → sum_below n (λ i. sum_below n (λ j. off E i j *ℤ (v j *ℤ v j))) ≡ sum_below n (λ i. others n E i *ℤ (v i *ℤ v i))
unfolding others off
turned n E v s =
    sum-swap n n (λ i j. off E i j *ℤ (v j *ℤ v j))
    ∙ sum_same n (λ j. sum_below n (λ i. off E i j *ℤ (v j *ℤ v j))) (λ j. others n E j *ℤ (v j *ℤ v j)) (λ j l. sum-scale_right n (λ i. off E i j) (v j *ℤ v j) ∙ ap (λ x. x *ℤ (v j *ℤ v j)) (sum_same n (λ i. off E i j) (λ i. off E j i) (λ i m. off_symmetric n E s i j m l)))

diagonal_above : (n : ℕ) (E : ℕ → ℕ → ℤ) (v : ℕ → ℤ) (i : ℕ) → others n E i ≤ℤ E i i → (others n E i *ℤ (v i *ℤ v i)) ≤ℤ term E v i i
unfolding term
diagonal_above n E v i h = let p = scaled_le (v i *ℤ v i) (others n E i) (E i i) (square_not_negative (v i)) h in let a = *ℤ_comm (v i *ℤ v i) (others n E i) in let b : (v i *ℤ v i) *ℤ E i i ≡ E i i *ℤ v i *ℤ v i = turned_term (E i i) (v i) in omega (arith, linear)
  where
    turned_term : (e a : ℤ) → (a *ℤ a) *ℤ e ≡ e *ℤ a *ℤ a
    turned_term e a = simp expand refl

-- the central fact: a dominant symmetric matrix has a form that is not negative
pub semi_from_dominant : (n : ℕ) (E : ℕ → ℕ → ℤ) → IsSymmetric n E → IsDominant n E → (v : ℕ → ℤ) → pos 0 ≤ℤ form n E v v
unfolding form term
semi_from_dominant n E s d v =
    let rows = sum_le n (λ i. term E v i i +ℤ term E v i i) (λ i. sum_below n (λ j. padded E v i j)) (λ i l. row_above n E v i l) in
    let whole = sum_same n (λ i. sum_below n (λ j. padded E v i j)) (λ i. (sum_below n (λ j. term E v i j) +ℤ sum_below n (λ j. term E v i j)) +ℤ (others n E i *ℤ (v i *ℤ v i) +ℤ sum_below n (λ j. off E i j *ℤ (v j *ℤ v j)))) (λ i l. row_sum n E v i) in
    let a = sum-add n (λ i. sum_below n (λ j. term E v i j) +ℤ sum_below n (λ j. term E v i j)) (λ i. others n E i *ℤ (v i *ℤ v i) +ℤ sum_below n (λ j. off E i j *ℤ (v j *ℤ v j))) in
    let b = sum-add n (λ i. sum_below n (λ j. term E v i j)) (λ i. sum_below n (λ j. term E v i j)) in
    let c = sum-add n (λ i. others n E i *ℤ (v i *ℤ v i)) (λ i. sum_below n (λ j. off E i j *ℤ (v j *ℤ v j))) in
    let t = turned n E v s in
    let u = sum-add n (λ i. term E v i i) (λ i. term E v i i) in
    let above = sum_le n (λ i. others n E i *ℤ (v i *ℤ v i)) (λ i. term E v i i) (λ i l. diagonal_above n E v i (d i l)) in
    joined (sum_below n (λ i. term E v i i)) (sum_below n (λ i. others n E i *ℤ (v i *ℤ v i))) (sum_below n (λ i. sum_below n (λ j. term E v i j))) (omega (arith, linear)) above
  where
    joined : (t s f : ℤ) → (t +ℤ t) ≤ℤ ((f +ℤ f) +ℤ (s +ℤ s)) → s ≤ℤ t → pos 0 ≤ℤ f
    joined t s f h k = omega (arith, ints)

restored : (a g : ℤ) → a ≡ (a -ℤ g) +ℤ g
restored a g = omega (arith, linear)

difference : (a b c d : ℤ) → a ≡ b → c ≡ d → a -ℤ c ≡ b -ℤ d
difference a b c d p q = omega (arith, linear)

pub remainder_symmetric : (n : ℕ) (s : ℤ) (A R : ℕ → ℕ → ℤ) → IsSymmetric n A → IsSymmetric n (remainder n s A R)
remainder_symmetric n s A R h i j p q = difference (s *ℤ A i j) (s *ℤ A j i) (gram n R i j) (gram n R j i) (ap (λ x. s *ℤ x) (h i j p q)) (gram_symmetric n R i j)

-- A is semidefinite where s A - R R' is dominant
pub semi_from_factor : (n : ℕ) (s : ℤ) (A R : ℕ → ℕ → ℤ) → pos 0 <ℤ s → IsSymmetric n A → IsDominant n (remainder n s A R) → (v : ℕ → ℤ) → pos 0 ≤ℤ form n A v v
semi_from_factor n s A R h sy d v =
    let e = form_split n s A (remainder n s A R) (gram n R) v v (λ i j p q. restored (s *ℤ A i j) (gram n R i j)) in
    let f = semi_from_dominant n (remainder n s A R) (remainder_symmetric n s A R sy) d v in
    let g = semi_gram n R v in
    not_negative_of_scaled s (form n A v v) h (omega (arith, linear))
