-- Lists seen by place: sums and counts over a list, over its places, and over the free cells.

use Rattle.std.proofs.Common.{◌≡◌, ℕ, zero, suc, ◌+◌, Bool, true, false, cond, ◌&&◌, if◌then◌else◌, List, [], ◌∷◌, ◌++◌, length, slice_index_or, ℤ, pos, ◌+ℤ◌, refl, sym, ◌∙◌, ap, arith, length-append, append-nil, add-one}
use Rattle.std.specs.List.{sum_by, count_by}
use Rattle.std.proofs.lemmas.List.Sums.{sum_by-cons, sum_by_push}
use Rattle.std.proofs.lemmas.Int.{ints}
use Rattle.gap_base.specs.Sums.{sum_below, count_if}
use Rattle.gap_base.proofs.Ring.{linear}
use Rattle.gap_base.proofs.SumLaws.{sum_none, sum_more}
use Rattle.gap_base.proofs.Counts.{count_none, count_more}
use Rattle.gap_box.specs.declared.cell.Cell.{Cell}
use Rattle.gap_box.specs.Cells.{is_free}
use Rattle.gap_relax.specs.Choices.{cell_at}
use Rattle.gap_relax.specs.Differences.{difference, free_differences}

front : (n : ℕ) (f : ℕ → ℤ) → sum_below (suc n) f ≡ f 0 +ℤ sum_below n (λ k. f (suc k))
unfolding sum_below
front zero f = omega (arith, linear)
front (suc n) f = let e = front n f in omega (arith, linear)

-- a sum of natural numbers over a list is the sum over its places
pub sum_at : {X : Type 0} (f : X → ℕ) (d : X) (xs : List X) → pos (sum_by f xs) ≡ sum_below (length xs) (λ k. pos (f (slice_index_or xs k d)))
sum_at f d [] = sym (sum_none (λ k. pos (f (slice_index_or [] k d))))
sum_at f d (x ∷ xs) =
    let e = sum_by-cons f x xs in
    let r = sum_at f d xs in
    let g = front (length xs) (λ k. pos (f (slice_index_or (x ∷ xs) k d))) in
    ap pos e ∙ ap (λ (z : ℤ). pos (f x) +ℤ z) r ∙ sym g

count_front : (n : ℕ) (p : ℕ → Bool) → count_if (suc n) p ≡ cond (p 0) 1 0 + count_if n (λ k. p (suc k))
unfolding count_if
count_front zero p = omega arith
count_front (suc n) p = let e = count_front n p in omega arith

-- a count over a list is the count over its places
pub count_at : {X : Type 0} (t : X → Bool) (d : X) (xs : List X) → count_by t xs ≡ count_if (length xs) (λ k. t (slice_index_or xs k d))
count_at t d [] = sym (count_none (λ k. t (slice_index_or [] k d)))
count_at t d (x ∷ xs) =
    let e = sum_by-cons (λ q. cond (t q) 1 0) x xs in
    let r = count_at t d xs in
    let g = count_front (length xs) (λ k. t (slice_index_or (x ∷ xs) k d)) in
    e ∙ ap (λ (n : ℕ). cond (t x) 1 0 + n) r ∙ sym g

pub no_differences : (cells : List Cell) (held_cost out_cost : List ℤ) → free_differences 0 cells held_cost out_cost ≡ []
unfolding free_differences
no_differences cells held_cost out_cost = refl

pub more_differences : (n : ℕ) (cells : List Cell) (held_cost out_cost : List ℤ) → free_differences (n + 1) cells held_cost out_cost ≡ free_differences n cells held_cost out_cost ++ (if is_free (cell_at cells n) then difference held_cost out_cost n ∷ [] else [])
unfolding free_differences
more_differences n cells held_cost out_cost = rw (add-one n) refl

one_more : (f : ℤ → ℕ) (t : Bool) (x : ℤ) (xs : List ℤ) → sum_by f (xs ++ (if t then x ∷ [] else [])) ≡ sum_by f xs + cond t (f x) 0
one_more f true x xs = sum_by_push f xs x
one_more f false x xs = rw (append-nil xs) (omega arith)

-- a sum over the differences of the free cells is a sum over the places
pub sum_free : (f : ℤ → ℕ) (n : ℕ) (cells : List Cell) (held_cost out_cost : List ℤ) → pos (sum_by f (free_differences n cells held_cost out_cost)) ≡ sum_below n (λ i. pos (cond (is_free (cell_at cells i)) (f (difference held_cost out_cost i)) 0))
sum_free f zero cells held_cost out_cost = rw (no_differences cells held_cost out_cost) (sym (sum_none (λ i. pos (cond (is_free (cell_at cells i)) (f (difference held_cost out_cost i)) 0))))
sum_free f (suc n) cells held_cost out_cost =
    let r = sum_free f n cells held_cost out_cost in
    let e = one_more f (is_free (cell_at cells n)) (difference held_cost out_cost n) (free_differences n cells held_cost out_cost) in
    let s = sum_more n (λ i. pos (cond (is_free (cell_at cells i)) (f (difference held_cost out_cost i)) 0)) in
    rw (← add-one n) (rw (more_differences n cells held_cost out_cost) (ap pos e ∙ joined _ _ _ r ∙ sym s))
  where
    joined : (a b : ℕ) (c : ℤ) → pos a ≡ c → pos (a + b) ≡ c +ℤ pos b
    joined a b c e = omega (arith, ints)

-- and a count of them a count of places
pub count_free : (t : ℤ → Bool) (n : ℕ) (cells : List Cell) (held_cost out_cost : List ℤ) → count_by t (free_differences n cells held_cost out_cost) ≡ count_if n (λ i. is_free (cell_at cells i) && t (difference held_cost out_cost i))
count_free t zero cells held_cost out_cost = rw (no_differences cells held_cost out_cost) (sym (count_none (λ i. is_free (cell_at cells i) && t (difference held_cost out_cost i))))
count_free t (suc n) cells held_cost out_cost =
    let r = count_free t n cells held_cost out_cost in
    let e = one_more (λ q. cond (t q) 1 0) (is_free (cell_at cells n)) (difference held_cost out_cost n) (free_differences n cells held_cost out_cost) in
    let s = count_more n (λ i. is_free (cell_at cells i) && t (difference held_cost out_cost i)) in
    let b = both (is_free (cell_at cells n)) (t (difference held_cost out_cost n)) in
    rw (← add-one n) (rw (more_differences n cells held_cost out_cost) (e ∙ ap (λ (m : ℕ). m + cond (is_free (cell_at cells n)) (cond (t (difference held_cost out_cost n)) 1 0) 0) r ∙ ap (λ (m : ℕ). count_if n (λ i. is_free (cell_at cells i) && t (difference held_cost out_cost i)) + m) b ∙ sym s))
  where
    both : (p q : Bool) → cond {A = ℕ} p (cond q 1 0) 0 ≡ cond (p && q) 1 0
    both true true = refl
    both true false = refl
    both false q = refl

-- there are as many differences as free cells
pub length_free : (n : ℕ) (cells : List Cell) (held_cost out_cost : List ℤ) → length (free_differences n cells held_cost out_cost) ≡ count_if n (λ i. is_free (cell_at cells i))
length_free zero cells held_cost out_cost = rw (no_differences cells held_cost out_cost) (sym (count_none (λ i. is_free (cell_at cells i))))
length_free (suc n) cells held_cost out_cost =
    let r = length_free n cells held_cost out_cost in
    let s = count_more n (λ i. is_free (cell_at cells i)) in
    rw (← add-one n) (rw (more_differences n cells held_cost out_cost) (one_longer (is_free (cell_at cells n)) (difference held_cost out_cost n) (free_differences n cells held_cost out_cost) ∙ ap (λ (m : ℕ). m + cond (is_free (cell_at cells n)) 1 0) r ∙ sym s))
  where
    one_longer : (t : Bool) (x : ℤ) (xs : List ℤ) → length (xs ++ (if t then x ∷ [] else [])) ≡ length xs + cond t 1 0
    one_longer true x xs = omega (arith, length-append xs (x ∷ []))
    one_longer false x xs = rw (append-nil xs) (omega arith)

pub ruleset difference_steps = (no_differences, more_differences)
