-- The laws of counts of the places below a number that meet a test.
use Rattle.std.proofs.Common.{◌≡◌, ℕ, zero, suc, ◌+◌, ◌<◌, ◌≤◌, Bool, true, false, not, cond, ◌==◌, if◌then◌else◌, ◌⊎◌, inl, inr, refl, sym, ap, arith, add-one}
use Rattle.std.proofs.lemmas.Bool.{cases_eq}
use Rattle.gap_base.specs.Sums.{count_if}
use Rattle.gap_base.proofs.Ring.{if_same, if_other}

pub count_none : (p : ℕ → Bool) → count_if 0 p ≡ 0
unfolding count_if
count_none p = refl

step : (n : ℕ) (p : ℕ → Bool) → count_if (suc n) p ≡ count_if n p + cond (p n) 1 0
unfolding count_if
step n p = refl

pub count_more : (n : ℕ) (p : ℕ → Bool) → count_if (n + 1) p ≡ count_if n p + cond (p n) 1 0
count_more n p = rw (add-one n) (step n p)

same_one : (s t : Bool) → s ≡ t → cond {A = ℕ} s 1 0 ≡ cond t 1 0
same_one s t e = rw e refl

-- counts agree where the tests do
pub count_same : (n : ℕ) (p q : ℕ → Bool) → ((k : ℕ) → k < n → p k ≡ q k) → count_if n p ≡ count_if n q
unfolding count_if
count_same zero p q h = refl
count_same (suc n) p q h = let a = count_same n p q (λ k l. h k (omega arith)) in let e : p n ≡ q n = h n (omega arith) in omega (arith, same_one (p n) (q n) e)

one : (t : Bool) → cond t 1 0 ≤ 1
one true = omega arith
one false = omega arith

pub count_le : (n : ℕ) (p : ℕ → Bool) → count_if n p ≤ n
unfolding count_if
count_le zero p = omega arith
count_le (suc n) p = let a = count_le n p in let b = one (p n) in omega arith

grows_step : (m n : ℕ) (p : ℕ → Bool) → m ≤ suc n → (m ≤ n → count_if m p ≤ count_if n p) → (m ≡ suc n) ⊎ (m ≡ suc n → ⊥) → count_if m p ≤ count_if n p + cond (p n) 1 0
unfolding count_if
grows_step m n p h go (inl e) = rw e (omega arith)
grows_step m n p h go (inr e) = let a = go (omega (arith, e)) in omega arith

-- more places below give no lower count
pub count_grows : (m n : ℕ) (p : ℕ → Bool) → m ≤ n → count_if m p ≤ count_if n p
unfolding count_if
count_grows m zero p h = let e : m ≡ 0 = omega arith in rw e (omega arith)
count_grows m (suc n) p h = grows_step m n p h (λ l. count_grows m n p l) (cases_eq m (suc n))

-- a test that implies another counts no more
implied : (s t : Bool) → (s ≡ true → t ≡ true) → cond s 1 0 ≤ cond t 1 0
implied true t h = rw (h refl) (omega arith)
implied false t h = omega arith

pub count_implied : (n : ℕ) (p q : ℕ → Bool) → ((k : ℕ) → k < n → p k ≡ true → q k ≡ true) → count_if n p ≤ count_if n q
unfolding count_if
count_implied zero p q h = omega arith
count_implied (suc n) p q h = let a = count_implied n p q (λ k l. h k (omega arith)) in let b = implied (p n) (q n) (h n (omega arith)) in omega arith

pub count_all : (n : ℕ) (p : ℕ → Bool) → ((k : ℕ) → k < n → p k ≡ true) → count_if n p ≡ n
unfolding count_if
count_all zero p h = refl
count_all (suc n) p h = let a = count_all n p (λ k l. h k (omega arith)) in let e : p n ≡ true = h n (omega arith) in omega (arith, same_one (p n) true e)

pub count_nowhere : (n : ℕ) (p : ℕ → Bool) → ((k : ℕ) → k < n → p k ≡ false) → count_if n p ≡ 0
unfolding count_if
count_nowhere zero p h = refl
count_nowhere (suc n) p h = let a = count_nowhere n p (λ k l. h k (omega arith)) in let e : p n ≡ false = h n (omega arith) in omega (arith, same_one (p n) false e)

-- the places that meet the test and those that do not are all
both : (t : Bool) → cond t 1 0 + cond (not t) 1 0 ≡ 1
both true = refl
both false = refl

pub count-not : (n : ℕ) (p : ℕ → Bool) → count_if n p + count_if n (λ k. not (p k)) ≡ n
unfolding count_if
count-not zero p = refl
count-not (suc n) p = let a = count-not n p in let b = both (p n) in omega arith

split_step : (n i : ℕ) (p : ℕ → Bool) → i < suc n → (i < n → count_if n p ≡ cond (p i) 1 0 + count_if n (λ k. if k == i then false else p k)) → (n ≡ i) ⊎ (n ≡ i → ⊥) → count_if n p + cond (p n) 1 0 ≡ cond (p i) 1 0 + (count_if n (λ k. if k == i then false else p k) + cond (if n == i then false else p n) 1 0)
split_step n i p h go (inl e) = let a = count_same n p (λ k. if k == i then false else p k) (λ k l. let ne : k ≡ i → ⊥ = λ x. omega arith in sym (if_other k i false (p k) ne)) in let b : (if n == i then false else p n) ≡ false = if_same n i false (p n) e in let c : p n ≡ p i = ap p e in rw b (rw c (omega arith))
split_step n i p h go (inr e) = let a = go (omega (arith, e)) in let b : (if n == i then false else p n) ≡ p n = if_other n i false (p n) e in rw b (omega arith)

-- one place's test apart from the others
pub count_split : (n i : ℕ) (p : ℕ → Bool) → i < n → count_if n p ≡ cond (p i) 1 0 + count_if n (λ k. if k == i then false else p k)
unfolding count_if
count_split zero i p h = absurd (omega arith)
count_split (suc n) i p h = split_step n i p h (λ l. count_split n i p l) (cases_eq n i)

-- for loops that count
pub ruleset count_steps = (count_none, count_more)
