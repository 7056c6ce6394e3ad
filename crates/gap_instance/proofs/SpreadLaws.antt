-- Laws of the equal spread, and of the number of held assets against the number of lots.
use Rattle.std.proofs.Common.{◌≡◌, ℕ, zero, suc, ◌+◌, ◌*◌, ◌/◌, ◌%◌, ◌<◌, ◌≤◌, min, cond, if◌then◌else◌, ◌==◌, List, length, slice_index_or, nat_lt, None, Some, pos, ◌+ℤ◌, ◌≤ℤ◌, ◌⊎◌, inl, inr, refl, sym, ap, ◌∙◌, arith}
use Rattle.std.proofs.lemmas.Int.{ints}
use Rattle.std.proofs.lemmas.Bool.{cases_eq, cases_lt}
use Rattle.std.proofs.lemmas.Bool.Decides.{nat_tests}
use Rattle.gap_base.specs.Sums.{sum_below, count_if}
use Rattle.gap_base.specs.Lots.{lots_at}
use Rattle.gap_base.proofs.Ring.{if_same, if_other}
use Rattle.gap_base.proofs.SumLaws.{sum_same, sum_split, sum_not_negative}
use Rattle.gap_base.proofs.Counts.{count_same}
use Rattle.gap_instance.specs.Instances.{InstanceValue}
use Rattle.gap_instance.specs.Limits.{MeetsLimits, sum_of, held_of}
use Rattle.gap_instance.specs.Spreads.{spread_of}

one_held : (a : ℕ) → cond (nat_lt 0 a) 1 0 ≤ a
one_held a = grind (arith, nat_tests)

-- a list holds at most as many assets as it has lots
pub held_of-le : (n : ℕ) (x : List ℕ) → pos (held_of n x) ≤ℤ sum_of n x
unfolding sum_below count_if
held_of-le zero x = omega (arith, ints)
held_of-le (suc n) x = let a = held_of-le n x in let b = one_held (slice_index_or x n 0) in omega (arith, ints)

-- no list meets the limits where fewer lots are to be placed than assets are to be held
pub held_le_lots : (I : InstanceValue) (x : List ℕ) → MeetsLimits I x → I.held ≤ I.lots
held_le_lots I x meets = let a = held_of-le I.market.assets x in let b = meets.lots_are in let c = meets.fewest in omega (arith, ints)

-- what the first n assets get of a spread of a to each of K and one more to the first r of them
share : ℕ → ℕ → ℕ → ℕ → ℕ
share a K r i = cond (nat_lt i K) (a + cond (nat_lt i r) 1 0) 0

share_inside : (a K r i : ℕ) → i < K → share a K r i ≡ a + cond (nat_lt i r) 1 0
unfolding share
share_inside a K r i h = grind (arith, nat_tests)

share_outside : (a K r i : ℕ) → K ≤ i → share a K r i ≡ 0
unfolding share
share_outside a K r i h = grind (arith, nat_tests)

one_more : (n r : ℕ) → min (suc n) r ≡ min n r + cond (nat_lt n r) 1 0
one_more n r = grind (arith, nat_tests)

sum_step : (a K r n : ℕ) → r ≤ K → sum_below n (λ i. pos (share a K r i)) ≡ pos (min n K * a + min n r) → (n < K) ⊎ (K ≤ n) → sum_below n (λ i. pos (share a K r i)) +ℤ pos (share a K r n) ≡ pos (min (suc n) K * a + min (suc n) r)
sum_step a K r n h go (inl l) = let e = share_inside a K r n l in let f = one_more n r in let g : min n K ≡ n = omega arith in let k : min (suc n) K ≡ n + 1 = omega arith in let before : sum_below n (λ i. pos (share a K r i)) ≡ pos (n * a + min n r) = rw g at go in rw k (omega (arith, ints))
sum_step a K r n h go (inr l) = let e = share_outside a K r n l in let f = one_more n r in let g : min n K ≡ K = omega arith in let k : min (suc n) K ≡ K = omega arith in let before : sum_below n (λ i. pos (share a K r i)) ≡ pos (K * a + min n r) = rw g at go in let p : min (suc n) r ≡ min n r = omega arith in rw (k, p) (omega (arith, ints))

sum_so_far : (a K r n : ℕ) → r ≤ K → sum_below n (λ i. pos (share a K r i)) ≡ pos (min n K * a + min n r)
unfolding sum_below
sum_so_far a K r zero h = let k : min 0 K ≡ 0 = omega arith in let m : min 0 r ≡ 0 = omega arith in rw (k, m) (omega (arith, ints))
sum_so_far a K r (suc n) h = sum_step a K r n h (sum_so_far a K r n h) (cases_lt n K)

count_step : (n K : ℕ) → min n K + cond (nat_lt n K) 1 0 ≡ min (suc n) K
count_step n K = grind (arith, nat_tests)

count_so_far : (K n : ℕ) → count_if n (λ i. nat_lt i K) ≡ min n K
unfolding count_if
count_so_far K zero = omega arith
count_so_far K (suc n) = let a = count_so_far K n in let b = count_step n K in omega arith

at_least_one : (q r K L : ℕ) → K * q + r ≡ L → r < K → K ≤ L → 1 ≤ q
at_least_one zero r K L e h k = omega arith
at_least_one (suc q) r K L e h k = omega arith

term_at_least_0 : (n k i : ℕ) (x : List ℕ) → (k ≡ i) ⊎ (k ≡ i → ⊥) → pos 0 ≤ℤ (if k == i then pos 0 else lots_at x k)
term_at_least_0 n k i x (inl e) = rw (if_same k i (pos 0) (lots_at x k) e) (omega (arith, ints))
term_at_least_0 n k i x (inr e) = rw (if_other k i (pos 0) (lots_at x k) e) (omega (arith, ints))

-- a number of a list is at most the sum
pub term_le-sum_of : (n i : ℕ) (x : List ℕ) → i < n → lots_at x i ≤ℤ sum_of n x
term_le-sum_of n i x h =
    let a = sum_split n i (lots_at x) h in
    let b = sum_not_negative n (λ k. if k == i then pos 0 else lots_at x k) (λ k l. term_at_least_0 n k i x (cases_eq k i)) in
    omega (arith, ints)

-- the equal spread over the first K of n assets has L lots and holds K assets
pub sum_of-spread : (n L K : ℕ) (x : List ℕ) → 0 < K → K ≤ n → ((i : ℕ) → i < n → slice_index_or x i 0 ≡ spread_of L K i) → sum_of n x ≡ pos L
unfolding share
sum_of-spread n L K x h k e =
    let rest : L % K < K = omega arith in
    let whole : K * (L / K) + L % K ≡ L = omega arith in
    let all : min n K ≡ K = omega arith in
    let some : min n (L % K) ≡ L % K = omega arith in
    let a : sum_of n x ≡ pos (min n K * (L / K) + min n (L % K)) = sum_same n (lots_at x) (λ i. pos (share (L / K) K (L % K) i)) (λ i l. ap pos (e i l)) ∙ sum_so_far (L / K) K (L % K) n (omega arith) in
    a ∙ rw (all, some, whole) refl

test_same : (L K i : ℕ) → 1 ≤ L / K → nat_lt 0 (spread_of L K i) ≡ nat_lt i K
test_same L K i h = grind (arith, nat_tests)

pub held_of-spread : (n L K : ℕ) (x : List ℕ) → 0 < K → K ≤ n → K ≤ L → ((i : ℕ) → i < n → slice_index_or x i 0 ≡ spread_of L K i) → held_of n x ≡ K
held_of-spread n L K x h k l e =
    let positive : 1 ≤ L / K = at_least_one (L / K) (L % K) K L (omega arith) (omega arith) l in
    let all : min n K ≡ K = omega arith in
    count_same n (λ i. nat_lt 0 (slice_index_or x i 0)) (λ i. nat_lt i K) (λ i p. ap (nat_lt 0) (e i p) ∙ test_same L K i positive) ∙ count_so_far K n ∙ all

-- the equal spread over the first K assets meets the limits where each least is 1, each greatest is L, no turnover limit
-- is set, and there are at least as many lots as assets to hold
pub spread_meets_limits : (I : InstanceValue) (x : List ℕ) → I.held ≤ I.held_most → I.held_most ≤ I.market.assets → 1 ≤ I.held → I.held ≤ I.lots → length x ≡ I.market.assets → ((i : ℕ) → i < I.market.assets → slice_index_or x i 0 ≡ spread_of I.lots I.held i) → ((i : ℕ) → i < I.market.assets → slice_index_or I.least i 0 ≤ 1) → ((i : ℕ) → i < I.market.assets → I.lots ≤ slice_index_or I.greatest i 0) → I.turnover ≡ None → MeetsLimits I x
spread_meets_limits I x range most one enough size is least greatest free =
    let few : I.held ≤ I.market.assets = omega arith in
    let total = sum_of-spread I.market.assets I.lots I.held x one few is in
    let count = held_of-spread I.market.assets I.lots I.held x one few enough is in
    record {
      assets_are = size;
      lots_are = total;
      fewest = omega arith;
      many = omega arith;
      least_kept = λ i p q. let l = least i p in omega arith;
      greatest_kept = λ i p. let t = term_le-sum_of I.market.assets i x p in let g = greatest i p in omega (arith, ints);
      turnover_kept = λ t e. let no : None ≡ Some t = sym free ∙ e in cc;
    }
