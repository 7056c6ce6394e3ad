-- Laws of the number of held assets and of the turnover of a list that changes.
use Rattle.std.proofs.Common.{◌≡◌, ◌≢◌, ℕ, ◌+◌, ◌-◌, ◌<◌, ◌≤◌, ◌==◌, if◌then◌else◌, true, false, cond, nat_lt, List, length, slice_index_or, slice_set, ℤ, pos, ◌+ℤ◌, ◌-ℤ◌, ◌≤ℤ◌, ◌⊎◌, inl, inr, sym, ap, ◌∙◌, arith, length-set, get_or-set_same, get_or-set_other, unsigned_abs}
use Rattle.std.proofs.lemmas.Bool.{cases_eq}
use Rattle.std.proofs.lemmas.Bool.Decides.{nat_tests}
use Rattle.std.proofs.lemmas.Int.{ints}
use Rattle.gap_base.specs.Lots.{lots_at}
use Rattle.gap_base.specs.Sums.{sum_below, abs_z}
use Rattle.gap_base.proofs.Counts.{count_le, count_split, count_same}
use Rattle.gap_base.proofs.Ring.{if_same, if_other, linear}
use Rattle.gap_base.proofs.SumLaws.{sum_same, sum_split, sum_not_negative, unsigned_abs-sum}
use Rattle.gap_instance.specs.Instances.{InstanceValue, IsInstance, AreBetween}
use Rattle.gap_instance.specs.Limits.{held_of, turnover_of}
use Rattle.gap_objective.specs.Holdings.{distance}

-- ---- a sum over a list after one number was set
rest_same : (h : ℕ → ℕ → ℤ) (x : List ℕ) (i v k : ℕ) → (k ≡ i) ⊎ (k ≡ i → ⊥) → (if k == i then pos 0 else h k (slice_index_or (slice_set x i v) k 0)) ≡ (if k == i then pos 0 else h k (slice_index_or x k 0))
rest_same h x i v k (inl e) = if_same k i (pos 0) (h k (slice_index_or (slice_set x i v) k 0)) e ∙ sym (if_same k i (pos 0) (h k (slice_index_or x k 0)) e)
rest_same h x i v k (inr n) = if_other k i (pos 0) (h k (slice_index_or (slice_set x i v) k 0)) n ∙ ap (h k) (get_or-set_other x i k v 0 n) ∙ sym (if_other k i (pos 0) (h k (slice_index_or x k 0)) n)

pub sum_set : (n i v : ℕ) (h : ℕ → ℕ → ℤ) (x : List ℕ) → i < n → i < length x → sum_below n (λ k. h k (slice_index_or (slice_set x i v) k 0)) ≡ sum_below n (λ k. h k (slice_index_or x k 0)) +ℤ (h i v -ℤ h i (slice_index_or x i 0))
sum_set n i v h x p q =
    let a = sum_split n i (λ k. h k (slice_index_or (slice_set x i v) k 0)) p in
    let b = sum_split n i (λ k. h k (slice_index_or x k 0)) p in
    let c = sum_same n (λ k. if k == i then pos 0 else h k (slice_index_or (slice_set x i v) k 0)) (λ k. if k == i then pos 0 else h k (slice_index_or x k 0)) (λ k l. rest_same h x i v k (cases_eq k i)) in
    let d = ap (h i) (get_or-set_same x i v 0 q) in
    omega (arith, linear)

-- ---- the number of held assets
unmarked_same : (x : List ℕ) (i v k : ℕ) → (k ≡ i) ⊎ (k ≡ i → ⊥) → (if k == i then false else nat_lt 0 (slice_index_or (slice_set x i v) k 0)) ≡ (if k == i then false else nat_lt 0 (slice_index_or x k 0))
unmarked_same x i v k (inl e) = if_same k i false (nat_lt 0 (slice_index_or (slice_set x i v) k 0)) e ∙ sym (if_same k i false (nat_lt 0 (slice_index_or x k 0)) e)
unmarked_same x i v k (inr n) = if_other k i false (nat_lt 0 (slice_index_or (slice_set x i v) k 0)) n ∙ ap (nat_lt 0) (get_or-set_other x i k v 0 n) ∙ sym (if_other k i false (nat_lt 0 (slice_index_or x k 0)) n)

-- after asset i got v lots
pub held_put : (n i v held : ℕ) (x : List ℕ) → i < n → i < length x → held ≡ held_of n x → (held + cond (nat_lt 0 v) 1 0) - cond (nat_lt 0 (slice_index_or x i 0)) 1 0 ≡ held_of n (slice_set x i v)
held_put n i v held x h l e =
    let a = count_split n i (λ k. nat_lt 0 (slice_index_or x k 0)) h in
    let b = count_split n i (λ k. nat_lt 0 (slice_index_or (slice_set x i v) k 0)) h in
    let c = count_same n (λ k. if k == i then false else nat_lt 0 (slice_index_or (slice_set x i v) k 0)) (λ k. if k == i then false else nat_lt 0 (slice_index_or x k 0)) (λ k m. unmarked_same x i v k (cases_eq k i)) in
    let d : cond {A = ℕ} (nat_lt 0 (slice_index_or (slice_set x i v) i 0)) 1 0 ≡ cond (nat_lt 0 v) 1 0 = ap (λ (t : ℕ). cond {A = ℕ} (nat_lt 0 t) 1 0) (get_or-set_same x i v 0 l) in
    omega arith

-- some asset is held where asset i is
pub held_positive : (n i : ℕ) (x : List ℕ) → i < n → 0 < slice_index_or x i 0 → 1 ≤ held_of n x
held_positive n i x h more =
    let a = count_split n i (λ k. nat_lt 0 (slice_index_or x k 0)) h in
    let e : nat_lt 0 (slice_index_or x i 0) ≡ true = grind (arith, nat_tests) in
    let b = rw e at a in
    omega arith

pub held_small : (I : InstanceValue) (x : List ℕ) (held : ℕ) → IsInstance I → held ≡ held_of I.market.assets x → held ≤ 256
held_small I x held known e = let few = count_le I.market.assets (λ i. nat_lt 0 (slice_index_or x i 0)) in let most = known.market_is.many in omega arith

-- ---- the turnover
distance_is : (a b : ℕ) → pos (distance a b) ≡ abs_z (pos a -ℤ pos b)
distance_is a b = omega (arith, ints)

turned_is : (t w u : ℕ) (s z a b : ℤ) → pos t ≡ s → pos w ≡ a → pos u ≡ b → z ≡ s +ℤ (a -ℤ b) → pos 0 ≤ℤ z → pos ((t + w) - u) ≡ z
turned_is t w u s z a b e f g h p = omega (arith, ints)

-- after asset i got v lots
pub turnover_put : (n i v turnover : ℕ) (b x : List ℕ) → i < n → i < length x → pos turnover ≡ turnover_of n b x → pos ((turnover + distance v (slice_index_or b i 0)) - distance (slice_index_or x i 0) (slice_index_or b i 0)) ≡ turnover_of n b (slice_set x i v)
turnover_put n i v turnover b x h l e =
    let a = sum_set n i v (λ k t. abs_z (pos t -ℤ lots_at b k)) x h l in
    let p = sum_not_negative n (λ k. abs_z (lots_at (slice_set x i v) k -ℤ lots_at b k)) (λ k m. omega (arith, ints)) in
    turned_is turnover (distance v (slice_index_or b i 0)) (distance (slice_index_or x i 0) (slice_index_or b i 0)) (turnover_of n b x) (turnover_of n b (slice_set x i v)) (abs_z (pos v -ℤ lots_at b i)) (abs_z (lots_at x i -ℤ lots_at b i)) e (distance_is v (slice_index_or b i 0)) (distance_is (slice_index_or x i 0) (slice_index_or b i 0)) a p

-- after asset i got v lots and another asset j got w
pub turnover_put_two : (n i j v w once twice turnover : ℕ) (b x : List ℕ) → i < n → j < n → i ≢ j → length x ≡ n → pos turnover ≡ turnover_of n b x → once ≡ (turnover + distance v (slice_index_or b i 0)) - distance (slice_index_or x i 0) (slice_index_or b i 0) → twice ≡ (once + distance w (slice_index_or b j 0)) - distance (slice_index_or x j 0) (slice_index_or b j 0) → pos twice ≡ turnover_of n b (slice_set (slice_set x i v) j w)
turnover_put_two n i j v w once twice turnover b x h m other size e f g =
    let first : pos once ≡ turnover_of n b (slice_set x i v) = rw f (turnover_put n i v turnover b x h (rw size h) e) in
    let there : slice_index_or (slice_set x i v) j 0 ≡ slice_index_or x j 0 = get_or-set_other x i j v 0 (λ s. other (sym s)) in
    let second = turnover_put n j w once b (slice_set x i v) m (rw (length-set x i v, size) m) first in
    rw g (rw there at second)

distance_small : (a b : ℕ) → a ≤ 10000 → b ≤ 10000 → unsigned_abs (abs_z (pos a -ℤ pos b)) ≤ 10000
distance_small a b h k = let d : unsigned_abs (pos a -ℤ pos b) ≤ 10000 = omega (arith, ints) in d

pub turnover_small : (I : InstanceValue) (x : List ℕ) (turnover : ℕ) → IsInstance I → AreBetween I.market.assets 0 10000 x → pos turnover ≡ turnover_of I.market.assets I.present x → turnover ≤ 2560000
turnover_small I x turnover known lots e =
    let most = known.market_is.many in
    let size = unsigned_abs-sum I.market.assets (λ i. abs_z (lots_at x i -ℤ lots_at I.present i)) 10000 (λ i h. distance_small (slice_index_or x i 0) (slice_index_or I.present i 0) (lots.most i h) (known.limits_are.present_within.most i h)) in
    omega (arith, ints)
