-- The laws of sums over the places below a number.
use Rattle.std.proofs.Common.{◌≡◌, ℕ, zero, suc, ◌+◌, ◌-◌, ◌*◌, ◌<◌, ◌≤◌, ◌==◌, if◌then◌else◌, ℤ, pos, ◌+ℤ◌, ◌-ℤ◌, ◌*ℤ◌, neg_ℤ, ◌≤ℤ◌, ◌⊎◌, inl, inr, refl, sym, ap, ◌∙◌, unsigned_abs, arith, add-one, suc-add, zero-add}
use Rattle.std.proofs.Math.IntN.{*ℤ_comm, *ℤ-zero, zero-*ℤ}
use Rattle.std.proofs.lemmas.Int.{ints, to_z-of_z}
use Rattle.std.proofs.lemmas.Bool.{cases_eq}
use Rattle.gap_base.specs.Sums.{sum_below, unit, moved}
use Rattle.gap_base.proofs.Ring.{*ℤ-+ℤ, +ℤ-*ℤ, *ℤ-neg_ℤ, if_same, if_other, linear, expand}

pub sum_none : (f : ℕ → ℤ) → sum_below 0 f ≡ pos 0
unfolding sum_below
sum_none f = refl

step : (n : ℕ) (f : ℕ → ℤ) → sum_below (suc n) f ≡ sum_below n f +ℤ f n
unfolding sum_below
step n f = refl

pub sum_more : (n : ℕ) (f : ℕ → ℤ) → sum_below (n + 1) f ≡ sum_below n f +ℤ f n
sum_more n f = rw (add-one n) (step n f)

-- sums agree where their terms do
pub sum_same : (n : ℕ) (f g : ℕ → ℤ) → ((k : ℕ) → k < n → f k ≡ g k) → sum_below n f ≡ sum_below n g
unfolding sum_below
sum_same zero f g h = refl
sum_same (suc n) f g h = let a = sum_same n f g (λ k l. h k (omega arith)) in let b = h n (omega arith) in omega (arith, linear)

pub sum-zero : (n : ℕ) → sum_below n (λ k. pos 0) ≡ pos 0
unfolding sum_below
sum-zero zero = refl
sum-zero (suc n) = let a = sum-zero n in omega (arith, linear)

pub sum_all_zero : (n : ℕ) (f : ℕ → ℤ) → ((k : ℕ) → k < n → f k ≡ pos 0) → sum_below n f ≡ pos 0
sum_all_zero n f h = sum_same n f (λ k. pos 0) h ∙ sum-zero n

pub sum-add : (n : ℕ) (f g : ℕ → ℤ) → sum_below n (λ k. f k +ℤ g k) ≡ sum_below n f +ℤ sum_below n g
unfolding sum_below
sum-add zero f g = refl
sum-add (suc n) f g = let a = sum-add n f g in omega (arith, linear)

pub sum-neg : (n : ℕ) (f : ℕ → ℤ) → sum_below n (λ k. neg_ℤ (f k)) ≡ neg_ℤ (sum_below n f)
unfolding sum_below
sum-neg zero f = refl
sum-neg (suc n) f = let a = sum-neg n f in omega (arith, linear)

pub sum-sub : (n : ℕ) (f g : ℕ → ℤ) → sum_below n (λ k. f k -ℤ g k) ≡ sum_below n f -ℤ sum_below n g
sum-sub n f g = let a = sum-add n f (λ k. neg_ℤ (g k)) in let b = sum-neg n g in omega (arith, linear)

pub sum-scale : (n : ℕ) (c : ℤ) (f : ℕ → ℤ) → sum_below n (λ k. c *ℤ f k) ≡ c *ℤ sum_below n f
unfolding sum_below
sum-scale zero c f = sym (*ℤ-zero c)
sum-scale (suc n) c f = ap (λ x. x +ℤ c *ℤ f n) (sum-scale n c f) ∙ sym (*ℤ-+ℤ c (sum_below n f) (f n))

pub sum-scale_right : (n : ℕ) (f : ℕ → ℤ) (c : ℤ) → sum_below n (λ k. f k *ℤ c) ≡ sum_below n f *ℤ c
sum-scale_right n f c = sum_same n (λ k. f k *ℤ c) (λ k. c *ℤ f k) (λ k l. *ℤ_comm (f k) c) ∙ sum-scale n c f ∙ *ℤ_comm c (sum_below n f)

-- the same number at every place
pub sum-const : (n : ℕ) (c : ℤ) → sum_below n (λ k. c) ≡ pos n *ℤ c
unfolding sum_below
sum-const zero c = sym (zero-*ℤ c)
sum-const (suc n) c = let a = sum-const n c in let e : pos (suc n) ≡ pos n +ℤ pos 1 = omega (arith, ints) in rw e (rw (+ℤ-*ℤ (pos n) (pos 1) c) (omega (arith, linear)))

-- the order of two sums can be turned round
pub sum-swap : (m n : ℕ) (f : ℕ → ℕ → ℤ) → sum_below m (λ i. sum_below n (λ j. f i j)) ≡ sum_below n (λ j. sum_below m (λ i. f i j))
unfolding sum_below
sum-swap zero n f = sym (sum-zero n)
sum-swap (suc m) n f = ap (λ x. x +ℤ sum_below n (λ j. f m j)) (sum-swap m n f) ∙ sym (sum-add n (λ j. sum_below m (λ i. f i j)) (λ j. f m j))

pub sum-product : (m n : ℕ) (a b : ℕ → ℤ) → sum_below m (λ i. sum_below n (λ j. a i *ℤ b j)) ≡ sum_below m a *ℤ sum_below n b
sum-product m n a b = sum_same m (λ i. sum_below n (λ j. a i *ℤ b j)) (λ i. a i *ℤ sum_below n b) (λ i l. sum-scale n (a i) b) ∙ sum-scale_right m a (sum_below n b)

-- sums keep the order of their terms
pub sum_le : (n : ℕ) (f g : ℕ → ℤ) → ((k : ℕ) → k < n → f k ≤ℤ g k) → sum_below n f ≤ℤ sum_below n g
unfolding sum_below
sum_le zero f g h = omega (arith, ints)
sum_le (suc n) f g h = let a = sum_le n f g (λ k l. h k (omega arith)) in let b = h n (omega arith) in omega (arith, linear)

pub sum_not_negative : (n : ℕ) (f : ℕ → ℤ) → ((k : ℕ) → k < n → pos 0 ≤ℤ f k) → pos 0 ≤ℤ sum_below n f
unfolding sum_below
sum_not_negative zero f h = omega (arith, ints)
sum_not_negative (suc n) f h = let a = sum_not_negative n f (λ k l. h k (omega arith)) in let b = h n (omega arith) in omega (arith, linear)

-- n terms of a size of at most b have a sum of a size of at most n * b
pub unsigned_abs-sum : (n : ℕ) (f : ℕ → ℤ) (b : ℕ) → ((k : ℕ) → k < n → unsigned_abs (f k) ≤ b) → unsigned_abs (sum_below n f) ≤ n * b
unfolding sum_below
unsigned_abs-sum zero f b h = omega arith
unsigned_abs-sum (suc n) f b h = let a = unsigned_abs-sum n f b (λ k l. h k (omega arith)) in let c = h n (omega arith) in omega (arith, ints)

-- a sum whose terms are 0 from a place on
pub sum_short : (e m : ℕ) (f : ℕ → ℤ) → ((k : ℕ) → m ≤ k → f k ≡ pos 0) → sum_below (e + m) f ≡ sum_below m f
unfolding sum_below
sum_short zero m f h = rw (zero-add m) refl
sum_short (suc e) m f h = rw (suc-add e m) (let a = sum_short e m f h in let b = h (e + m) (omega arith) in omega (arith, linear))

-- the same with both numbers of places at hand
pub sum_cut : (n m : ℕ) (f : ℕ → ℤ) → m ≤ n → ((k : ℕ) → m ≤ k → f k ≡ pos 0) → sum_below n f ≡ sum_below m f
sum_cut n m f h z = let e : (n - m) + m ≡ n = omega arith in let s = sum_short (n - m) m f z in rw e at s

pick_none : (n i : ℕ) (f : ℕ → ℤ) → n ≤ i → sum_below n (λ k. if k == i then f k else pos 0) ≡ pos 0
pick_none n i f h = sum_all_zero n (λ k. if k == i then f k else pos 0) (λ k l. if_other k i (f k) (pos 0) (λ e. omega arith))

pick_step : (n i : ℕ) (f : ℕ → ℤ) → i < suc n → (i < n → sum_below n (λ k. if k == i then f k else pos 0) ≡ f i) → (n ≡ i) ⊎ (n ≡ i → ⊥) → sum_below n (λ k. if k == i then f k else pos 0) +ℤ (if n == i then f n else pos 0) ≡ f i
pick_step n i f h go (inl e) = let a = pick_none n i f (omega arith) in let b = if_same n i (f n) (pos 0) e in let c : f n ≡ f i = ap f e in omega (arith, linear)
pick_step n i f h go (inr e) = let l : i < n = omega (arith, e) in let a = go l in let b = if_other n i (f n) (pos 0) e in omega (arith, linear)

-- the sum that has one term
pub sum_pick : (n i : ℕ) (f : ℕ → ℤ) → i < n → sum_below n (λ k. if k == i then f k else pos 0) ≡ f i
unfolding sum_below
sum_pick zero i f h = absurd (omega arith)
sum_pick (suc n) i f h = pick_step n i f h (λ l. sum_pick n i f l) (cases_eq n i)

split_at : (k i : ℕ) (x : ℤ) → (k ≡ i) ⊎ (k ≡ i → ⊥) → x ≡ (if k == i then x else pos 0) +ℤ (if k == i then pos 0 else x)
split_at k i x (inl e) = let a = if_same k i x (pos 0) e in let b = if_same k i (pos 0) x e in omega (arith, linear)
split_at k i x (inr e) = let a = if_other k i x (pos 0) e in let b = if_other k i (pos 0) x e in omega (arith, linear)

-- one term apart from the others
pub sum_split : (n i : ℕ) (f : ℕ → ℤ) → i < n → sum_below n f ≡ f i +ℤ sum_below n (λ k. if k == i then pos 0 else f k)
sum_split n i f h = sum_same n f (λ k. (if k == i then f k else pos 0) +ℤ (if k == i then pos 0 else f k)) (λ k l. split_at k i (f k) (cases_eq k i)) ∙ sum-add n (λ k. if k == i then f k else pos 0) (λ k. if k == i then pos 0 else f k) ∙ ap (λ x. x +ℤ sum_below n (λ k. if k == i then pos 0 else f k)) (sum_pick n i f h)

unit_term : (k i : ℕ) (x : ℤ) → (k ≡ i) ⊎ (k ≡ i → ⊥) → x *ℤ unit i k ≡ (if k == i then x else pos 0)
unit_term k i x (inl e) = rw (if_same k i (pos 1) (pos 0) e) (rw (if_same k i x (pos 0) e) (omega (arith, ints)))
unit_term k i x (inr e) = rw (if_other k i (pos 1) (pos 0) e) (rw (if_other k i x (pos 0) e) (*ℤ-zero x))

pub sum-unit : (n i : ℕ) (f : ℕ → ℤ) → i < n → sum_below n (λ k. f k *ℤ unit i k) ≡ f i
sum-unit n i f h = sum_same n (λ k. f k *ℤ unit i k) (λ k. if k == i then f k else pos 0) (λ k l. unit_term k i (f k) (cases_eq k i)) ∙ sum_pick n i f h

moved_term : (h v s uj ui : ℤ) → h *ℤ (v +ℤ s *ℤ (uj +ℤ neg_ℤ ui)) ≡ h *ℤ v +ℤ (s *ℤ (h *ℤ uj) +ℤ neg_ℤ (s *ℤ (h *ℤ ui)))
moved_term h v s uj ui = simp expand refl

-- a weighted sum after a move of s from the place i to the place j
pub sum-moved : (n : ℕ) (h v : ℕ → ℤ) (s : ℤ) (i j : ℕ) → i < n → j < n → sum_below n (λ k. h k *ℤ moved v s i j k) ≡ sum_below n (λ k. h k *ℤ v k) +ℤ s *ℤ (h j +ℤ neg_ℤ (h i))
sum-moved n h v s i j p q =
    let a = sum_same n (λ k. h k *ℤ moved v s i j k) (λ k. h k *ℤ v k +ℤ (s *ℤ (h k *ℤ unit j k) +ℤ neg_ℤ (s *ℤ (h k *ℤ unit i k)))) (λ k l. moved_term (h k) (v k) s (unit j k) (unit i k)) in
    let b = sum-add n (λ k. h k *ℤ v k) (λ k. s *ℤ (h k *ℤ unit j k) +ℤ neg_ℤ (s *ℤ (h k *ℤ unit i k))) in
    let c = sum-add n (λ k. s *ℤ (h k *ℤ unit j k)) (λ k. neg_ℤ (s *ℤ (h k *ℤ unit i k))) in
    let d = sum-neg n (λ k. s *ℤ (h k *ℤ unit i k)) in
    let e = sum-scale n s (λ k. h k *ℤ unit j k) ∙ ap (λ x. s *ℤ x) (sum-unit n j h q) in
    let f = sum-scale n s (λ k. h k *ℤ unit i k) ∙ ap (λ x. s *ℤ x) (sum-unit n i h p) in
    let g : s *ℤ (h j +ℤ neg_ℤ (h i)) ≡ s *ℤ h j +ℤ neg_ℤ (s *ℤ h i) = *ℤ-+ℤ s (h j) (neg_ℤ (h i)) ∙ ap (λ x. s *ℤ h j +ℤ x) (*ℤ-neg_ℤ s (h i)) in
    omega (arith, linear)

-- the double sum of the products of the terms with each other is the square of the sum
pub sum-square : (n : ℕ) (a : ℕ → ℤ) → sum_below n (λ i. sum_below n (λ j. a i *ℤ a j)) ≡ sum_below n a *ℤ sum_below n a
sum-square n a = sum-product n n a a

-- five scaled sums at once
pub sum_five : (n : ℕ) (a b c d e : ℤ) (f g h p q : ℕ → ℤ) → sum_below n (λ k. a *ℤ f k +ℤ (b *ℤ g k +ℤ (c *ℤ h k +ℤ (d *ℤ p k +ℤ e *ℤ q k)))) ≡ a *ℤ sum_below n f +ℤ (b *ℤ sum_below n g +ℤ (c *ℤ sum_below n h +ℤ (d *ℤ sum_below n p +ℤ e *ℤ sum_below n q)))
unfolding sum_below
sum_five zero a b c d e f g h p q = simp *ℤ-zero refl
sum_five (suc n) a b c d e f g h p q = let t = sum_five n a b c d e f g h p q in let ea = *ℤ-+ℤ a (sum_below n f) (f n) in let eb = *ℤ-+ℤ b (sum_below n g) (g n) in let ec = *ℤ-+ℤ c (sum_below n h) (h n) in let ed = *ℤ-+ℤ d (sum_below n p) (p n) in let ee = *ℤ-+ℤ e (sum_below n q) (q n) in omega (arith, linear)

-- a sum has the size of the sum of sizes at most
pub sum_below_sizes : (n : ℕ) (f : ℕ → ℤ) → pos (unsigned_abs (sum_below n f)) ≤ℤ sum_below n (λ k. pos (unsigned_abs (f k)))
unfolding sum_below
sum_below_sizes zero f = omega (arith, ints)
sum_below_sizes (suc n) f = let a = sum_below_sizes n f in omega (arith, ints)

-- for loops that add up
pub ruleset sum_steps = (sum_none, sum_more, to_z-of_z, ints)
