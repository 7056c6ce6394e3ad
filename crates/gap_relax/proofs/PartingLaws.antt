-- Prices that part the numbers of a least sum from the others.

use Rattle.std.proofs.Common.{◌≡◌, ℕ, ◌+◌, ◌-◌, ◌<◌, ◌≤◌, Bool, true, false, not, cond, ◌&&◌, ◌||◌, ltb, List, ◌∷◌, ◌++◌, length, ℤ, pos, neg_ℤ, ◌+ℤ◌, ◌*ℤ◌, ◌≤ℤ◌, ◌<ℤ◌, int_lt, refl, sym, ◌∙◌, arith}
use Rattle.std.specs.List.{count_by}
use Rattle.std.specs.List.Sorted.{IsPermutation, IsSplitAround}
use Rattle.std.specs.Ordering.{int_cmp}
use Rattle.std.proofs.lemmas.List.Sums.{sum_by-cons, sum_by-append, count_by-le-length}
use Rattle.std.proofs.lemmas.List.Sorted.{sum_by-IsPermutation}
use Rattle.std.proofs.lemmas.Int.{ints, by_lt_z}
use Rattle.gap_base.specs.Sums.{count_if, at}
use Rattle.gap_base.proofs.Ring.{linear, expand, scaled_le}
use Rattle.gap_base.proofs.Counts.{count_more, count_all, count_nowhere, count_implied}
use Rattle.gap_relax.specs.Partings.{is_tie, takes, IsParted, IsAround}
use Rattle.gap_relax.proofs.Order.{lt_true, lt_false, lt_not, lt_is, cmp_lt}
use Rattle.gap_relax.proofs.Places.{count_at}
use Rattle.gap_relax.proofs.Prices.{count_two}
use Rattle.gap_relax.proofs.DifferenceLaws.{none_below}

-- ---- those at a price
pub not_both : (x price : ℤ) → int_lt x price ≡ true → int_lt price x ≡ false
not_both x price e = let h = lt_true x price e in lt_not price x (omega (arith, ints))

one_apart : (below above : Bool) → (below ≡ true → above ≡ false) → cond {A = ℕ} (not above) 1 0 ≡ cond below 1 0 + cond (not below && not above) 1 0
one_apart true true h = let a = h refl in cc
one_apart true false h = refl
one_apart false true h = refl
one_apart false false h = refl

-- those at or below a price are those below it and those at it
pub counts_apart : (n : ℕ) (d : ℕ → ℤ) (price : ℤ) → count_if n (λ k. not (int_lt price (d k))) ≡ count_if n (λ k. int_lt (d k) price) + count_if n (λ k. is_tie price (d k))
counts_apart n d price = count_two n (λ k. not (int_lt price (d k))) (λ k. int_lt (d k) price) (λ k. is_tie price (d k)) (λ i l. one_apart (int_lt (d i) price) (int_lt price (d i)) (not_both (d i) price))

-- ---- an exchange at the price
pub taken_low : (price x : ℤ) (left : ℕ) → takes price x left ≡ true → x ≤ℤ price
taken_low price x left e = by_test (int_lt price x) refl
  where
    no_take : (s t : Bool) (left : ℕ) → s ≡ false → t ≡ true → (s || (not t && ltb 0 left)) ≡ true → ⊥
    no_take true t left g f e = cc
    no_take false true left g f e = cc
    no_take false false left g f e = cc

    by_test : (t : Bool) → int_lt price x ≡ t → x ≤ℤ price
    by_test false f = lt_false price x f
    by_test true f = let h = lt_true price x f in let g = lt_not x price (omega (arith, ints)) in absurd (no_take (int_lt x price) (int_lt price x) left g f e)

pub left_high : (price x : ℤ) (left : ℕ) → takes price x left ≡ false → price ≤ℤ x
left_high price x left e = lt_false x price (not_below (int_lt x price) (not (int_lt price x) && ltb 0 left) e)
  where
    not_below : (s t : Bool) → (s || t) ≡ false → s ≡ false
    not_below false t e = refl
    not_below true t e = cc

-- more at a negative price, or fewer at a positive one, cost no less
pub price_order : (p b : ℕ) (price x y : ℤ) → (price <ℤ pos 0 → b ≤ p) → (pos 0 <ℤ price → p ≤ b) → (x +ℤ pos b *ℤ price) ≤ℤ (y +ℤ pos p *ℤ price) → x ≤ℤ y
price_order p b price x y low high h =
    by_lt_z price (pos 0)
    (λ (n : price <ℤ pos 0). let s = scaled_le (neg_ℤ price) (pos b) (pos p) (omega (arith, ints)) (let l = low n in omega (arith, ints)) in let e = turned (pos b) price in let f = turned (pos p) price in omega (arith, linear))
    (λ (n : pos 0 ≤ℤ price). by_lt_z (pos 0) price
    (λ (m : pos 0 <ℤ price). let s = scaled_le price (pos p) (pos b) n (let l = high m in omega (arith, ints)) in let e = swapped (pos b) price in let f = swapped (pos p) price in omega (arith, linear))
    (λ (m : price ≤ℤ pos 0). let z : price ≡ pos 0 = omega (arith, ints) in let e = nothing (pos b) price z in let f = nothing (pos p) price z in omega (arith, linear)))
  where
    turned : (a c : ℤ) → neg_ℤ c *ℤ a ≡ neg_ℤ (a *ℤ c)
    turned a c = simp expand refl

    swapped : (a c : ℤ) → c *ℤ a ≡ a *ℤ c
    swapped a c = simp expand refl

    nothing : (a c : ℤ) → c ≡ pos 0 → a *ℤ c ≡ pos 0
    nothing a c e = rw e (omega (arith, ints))

-- ---- prices that part
-- the number in front of which and behind which a list was parted
pub around_is : (xs front back : List ℤ) (last : ℤ) (k : ℕ) → IsPermutation xs (front ++ last ∷ back) → k ≡ length front + 1 → IsSplitAround int_cmp front last back → IsAround (length xs) (at xs) k last
around_is xs front back last k p e s =
    let low : (i : ℕ) → i < length front → at front i ≤ℤ last = λ i l. lt_false last (at front i) (sym (cmp_lt last (at front i)) ∙ s.0 i (pos 0) l) in
    let high : (i : ℕ) → i < length back → last ≤ℤ at back i = λ i l. lt_false (at back i) last (sym (cmp_lt (at back i) last) ∙ s.1 i (pos 0) l) in
    let n = none_below last back high in
    let one = λ (x : ℤ). cond {A = ℕ} (int_lt x last) 1 0 in
    let la = sum_by-append one front (last ∷ back) in
    let lb = sum_by-cons one last back in
    let lc = sum_by-IsPermutation one xs (front ++ last ∷ back) p in
    let ld = count_by-le-length (λ x. int_lt x last) front in
    let le = lt_not last last (omega (arith, ints)) in
    let lf : one last ≡ 0 = rw le refl in
    let two = λ (x : ℤ). cond {A = ℕ} (not (int_lt last x)) 1 0 in
    let ma = sum_by-append two front (last ∷ back) in
    let mb = sum_by-cons two last back in
    let mc = sum_by-IsPermutation two xs (front ++ last ∷ back) p in
    let md = all_counted front low in
    let mf : two last ≡ 1 = rw le refl in
    let u = count_at (λ x. int_lt x last) (pos 0) xs in
    let v = count_at (λ x. not (int_lt last x)) (pos 0) xs in
    record { low = omega arith; high = omega arith }
  where
    all_counted : (ys : List ℤ) → ((i : ℕ) → i < length ys → at ys i ≤ℤ last) → count_by (λ x. not (int_lt last x)) ys ≡ length ys
    all_counted ys h = count_at (λ x. not (int_lt last x)) (pos 0) ys ∙ count_all (length ys) (λ k. not (int_lt last (at ys k))) (λ k l. rw (lt_not last (at ys k) (h k l)) refl)

-- below a lesser price there are no more
fewer_below : (n : ℕ) (d : ℕ → ℤ) (low high : ℤ) → low ≤ℤ high → count_if n (λ i. int_lt (d i) low) ≤ count_if n (λ i. int_lt (d i) high)
fewer_below n d low high h = count_implied n (λ i. int_lt (d i) low) (λ i. int_lt (d i) high) (λ i l e. let a = lt_true (d i) low e in lt_is (d i) high (omega (arith, ints)))

pub not_is : (a b : ℤ) → b ≤ℤ a → not (int_lt a b) ≡ true
not_is a b h = rw (lt_not a b h) refl

not_tells : (a b : ℤ) → not (int_lt a b) ≡ true → b ≤ℤ a
not_tells a b e = lt_false a b (not_true (int_lt a b) e)
  where
    not_true : (t : Bool) → not t ≡ true → t ≡ false
    not_true false e = refl
    not_true true e = cc

-- at or below a price that is less than another there are no more than below this one
fewer_up_to : (n : ℕ) (d : ℕ → ℤ) (low high : ℤ) → low <ℤ high → count_if n (λ i. not (int_lt low (d i))) ≤ count_if n (λ i. int_lt (d i) high)
fewer_up_to n d low high h = count_implied n (λ i. not (int_lt low (d i))) (λ i. int_lt (d i) high) (λ i l e. let a = not_tells low (d i) e in lt_is (d i) high (omega (arith, ints)))

below_up_to : (n : ℕ) (d : ℕ → ℤ) (price : ℤ) → count_if n (λ i. int_lt (d i) price) ≤ count_if n (λ i. not (int_lt price (d i)))
below_up_to n d price = let a = counts_apart n d price in omega arith

-- too few are negative: as few as may be are taken
pub parted_up : (n fewest most : ℕ) (d : ℕ → ℤ) (price : ℤ) → fewest ≤ most → count_if n (λ i. int_lt (d i) (pos 0)) < fewest → IsAround n d fewest price → IsParted n fewest most d price fewest
parted_up n fewest most d price order few around = record {
  few = omega arith;
  many = order;
  around = around;
  negative = λ h. let a = fewer_up_to n d price (pos 0) h in let b = around.high in absurd (omega arith);
  positive = λ h. refl;
}

-- as many are negative as may be taken: just these are
pub parted_here : (n fewest most : ℕ) (d : ℕ → ℤ) (count : ℕ) → count ≡ count_if n (λ i. int_lt (d i) (pos 0)) → fewest ≤ count → count ≤ most → IsParted n fewest most d (pos 0) count
parted_here n fewest most d count e few many = record {
  few = few;
  many = many;
  around = record { low = omega arith; high = let a = below_up_to n d (pos 0) in omega arith };
  negative = λ h. absurd (omega (arith, ints));
  positive = λ h. absurd (omega (arith, ints));
}

-- too many are negative: as many as may be are taken
pub parted_down : (n fewest most : ℕ) (d : ℕ → ℤ) (price : ℤ) → fewest ≤ most → most < count_if n (λ i. int_lt (d i) (pos 0)) → IsAround n d most price → IsParted n fewest most d price most
parted_down n fewest most d price order many around = record {
  few = order;
  many = omega arith;
  around = around;
  negative = λ h. refl;
  positive = λ h. let a = fewer_below n d (pos 0) price (omega (arith, ints)) in let b = around.low in absurd (omega arith);
}

-- none may be taken: a price below which there is none
pub parted_none : (n fewest most : ℕ) (d : ℕ → ℤ) (price : ℤ) → fewest ≤ most → most ≡ 0 → price <ℤ pos 0 → ((i : ℕ) → i < n → price ≤ℤ d i) → IsParted n fewest most d price 0
parted_none n fewest most d price order e p h = record {
  few = omega arith;
  many = omega arith;
  around = record { low = let a = count_nowhere n (λ i. int_lt (d i) price) (λ i l. lt_not (d i) price (h i l)) in omega arith; high = omega arith };
  negative = λ g. sym e;
  positive = λ g. absurd (omega (arith, ints));
}

-- how many ties are left after one more number
pub left_more : (n ties left after : ℕ) (t : ℕ → Bool) → left ≡ ties - count_if n t → after ≡ left - cond (t n) 1 0 → after ≡ ties - count_if (n + 1) t
left_more n ties left after t e f = let a = count_more n t in omega arith
