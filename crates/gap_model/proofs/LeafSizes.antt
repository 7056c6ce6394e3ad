-- Theta and void theta stay below the greatest sum, and so what a leaf in range shows is no greater than a 64th of it.

use Rattle.std.proofs.Common.{◌≡◌, ℕ, ◌+◌, ◌-◌, ◌*◌, ◌/◌, ◌<◌, ◌≤◌, Bool, true, false, cond, ◌==◌, eqb, leb, ◌&&◌, int_lt, if◌then◌else◌, List, [], ◌∷◌, sum_by, slice_index_or, Option, Some, None, ◌⊎◌, inl, inr, ℤ, pos, negsuc, ◌+ℤ◌, ◌-ℤ◌, ◌*ℤ◌, neg_ℤ, ◌≤ℤ◌, unsigned_abs, refl, sym, ap, ◌∙◌, arith, subst}
use Rattle.std.proofs.Math.IntN.{*ℤ_comm}
use Rattle.std.proofs.lemmas.List.Sums.{sum_by-cons}
use Rattle.std.proofs.lemmas.Int.{ints, unsigned_abs-mul}
use Rattle.std.proofs.lemmas.Bool.{and_parts, leb-true, eqb-true, cases_lt}
use native.Mathlib.Nat.{mul-le-mul}
use Rattle.gap_base.specs.Sums.{sum_below, at, abs_z}
use Rattle.gap_base.specs.Lots.{lots_at}
use Rattle.gap_base.specs.Markets.{mean_of}
use Rattle.gap_base.proofs.Machine.{unsigned_abs-product_le}
use Rattle.gap_base.proofs.Ring.{scaled_le, if_same, if_other}
use Rattle.gap_base.proofs.SumLaws.{sum_le, sum_same, sum-add, sum-zero, sum_pick, sum_all_zero, sum_not_negative, sum_below_sizes, sum-product, unsigned_abs-sum}
use Rattle.gap_base.specs.Sizes.{most_theta, most_bound}
use Rattle.gap_box.specs.declared.cell.Cell.{Cell}
use Rattle.gap_box.specs.Parts.{can_meet, IsPick, IsWithin, root_cells}
use Rattle.gap_instance.specs.Instances.{InstanceValue}
use Rattle.gap_instance.specs.Limits.{sum_of, turnover_of}
use Rattle.gap_instance.specs.Objective.{cov_of}
use Rattle.gap_instance.proofs.ObjectiveLaws.{cov_of-size}
use Rattle.gap_model.specs.declared.leaf.Entry.{Entry}
use Rattle.gap_model.specs.Settings.{Setting, IsSetting, shifted_cov, product_of}
use Rattle.gap_model.specs.Lagrangian.{reward_of, rewards_of, squares_of, turnover_term, lag, void_lag}
use Rattle.gap_model.specs.declared.leaf.Leaf.{Leaf}
use Rattle.gap_model.specs.declared.leaf.Leaf.TheVariants.{Count, Void, Tangent}
use Rattle.gap_model.specs.declared.shown.Shown.{Shown}
use Rattle.gap_model.specs.declared.shown.Shown.TheVariants.{Nothing, AtLeast, Empty}
use Rattle.gap_model.specs.Theta.{theta, void_theta}
use Rattle.gap_model.specs.Leaves.{eighths_at, ascend, in_range, are_multipliers, AreMultipliers, sixty_fourth, is_zero, count_shows, void_shows, tangent_shows, shows}
use Rattle.gap_model.proofs.FormLaws.{double, double_scale}
use Rattle.gap_model.proofs.LagLaws.{lag_is, void_lag_is}
use Rattle.gap_model.proofs.LimitLaws.{pick_keeps}
use Rattle.gap_model.proofs.LeafLaws.{multipliers_are}
use Rattle.gap_model.proofs.ThetaLaws.{theta_least, void_theta_least}

-- ---- the eighths of entries
entry_not_negative : (y : List Entry) (i : ℕ) → pos 0 ≤ℤ eighths_at y i
entry_not_negative [] i = omega (arith, ints)
entry_not_negative (e ∷ y) i = one_by (eqb e.asset i) (entry_not_negative y i)
  where
    one_by : (b : Bool) → pos 0 ≤ℤ eighths_at y i → pos 0 ≤ℤ cond b (pos e.eighths) (eighths_at y i)
    one_by true h = omega (arith, ints)
    one_by false h = h

-- the sum over the places below n of a number at one place is at most that number
at_most_once : (n i c : ℕ) → sum_below n (λ k. if k == i then pos c else pos 0) ≤ℤ pos c
at_most_once n i c = once_by (cases_lt i n)
  where
    once_by : (i < n) ⊎ (n ≤ i) → sum_below n (λ k. if k == i then pos c else pos 0) ≤ℤ pos c
    once_by (inl h) = let e = sum_pick n i (λ k. pos c) h in omega (arith, ints)
    once_by (inr h) = let e = sum_all_zero n (λ k. if k == i then pos c else pos 0) (λ k l. if_other k i (pos c) (pos 0) (λ q. absurd (omega (arith, q)))) in omega (arith, ints)

-- all eighths together are at most those of the entries
eighths_sum : (n : ℕ) (y : List Entry) → sum_below n (eighths_at y) ≤ℤ pos (sum_by (λ (e : Entry). e.eighths) y)
eighths_sum n [] = let a = sum-zero n in omega (arith, ints)
eighths_sum n (e ∷ y) =
    let a = sum_le n (eighths_at (e ∷ y)) (λ k. (if k == e.asset then pos e.eighths else pos 0) +ℤ eighths_at y k) (λ k l. one_more k) in
    let b = sum-add n (λ k. if k == e.asset then pos e.eighths else pos 0) (eighths_at y) in
    let c = at_most_once n e.asset e.eighths in
    added _ _ _ _ (sum_by (λ (d : Entry). d.eighths) y) e.eighths _ a b c (eighths_sum n y) (sum_by-cons (λ (d : Entry). d.eighths) e y)
  where
    added : (all sum one rest : ℤ) (m k : ℕ) (t : ℕ) → all ≤ℤ sum → sum ≡ one +ℤ rest → one ≤ℤ pos k → rest ≤ℤ pos m → t ≡ k + m → all ≤ℤ pos t
    added all sum one rest m k t a b c d f = omega (arith, ints)

    one_more : (k : ℕ) → eighths_at (e ∷ y) k ≤ℤ ((if k == e.asset then pos e.eighths else pos 0) +ℤ eighths_at y k)
    one_more k = more_by (eqb e.asset k) refl
      where
        more_by : (b : Bool) → eqb e.asset k ≡ b → cond b (pos e.eighths) (eighths_at y k) ≤ℤ ((if k == e.asset then pos e.eighths else pos 0) +ℤ eighths_at y k)
        more_by true q = let h = entry_not_negative y k in let s = if_same k e.asset (pos e.eighths) (pos 0) (sym (eqb-true e.asset k q)) in rw s (omega (arith, ints))
        more_by false q = rest_by (k == e.asset)
          where
            rest_by : (b : Bool) → eighths_at y k ≤ℤ ((if b then pos e.eighths else pos 0) +ℤ eighths_at y k)
            rest_by true = omega (arith, ints)
            rest_by false = omega (arith, ints)

-- ---- products
double_sizes_below : (n : ℕ) (f g : ℕ → ℕ → ℤ) → ((i j : ℕ) → i < n → j < n → abs_z (f i j) ≤ℤ g i j) → abs_z (double n f) ≤ℤ double n g
double_sizes_below n f g h =
    let a = sum_below_sizes n (λ i. sum_below n (λ j. f i j)) in
    let b = sum_le n (λ i. abs_z (sum_below n (λ j. f i j))) (λ i. sum_below n (λ j. g i j)) (λ i p. row_sizes i p) in
    omega (arith, ints)
  where
    row_sizes : (i : ℕ) → i < n → abs_z (sum_below n (λ j. f i j)) ≤ℤ sum_below n (λ j. g i j)
    row_sizes i p = let a = sum_below_sizes n (λ j. f i j) in let b = sum_le n (λ j. abs_z (f i j)) (λ j. g i j) (λ j q. h i j p q) in omega (arith, ints)

-- an entry of A is at most 1.001 * 10^21 in size
shifted_size : (s : Setting) (i j : ℕ) → IsSetting s → i < s.instance.market.assets → unsigned_abs (shifted_cov s i j) ≤ 1001000000000000000000
shifted_size s i j is h = entry_by (j == i) (cov_of s.instance.market i j) (at s.shift i) (cov_of-size s.instance.market is.instance_is.market_is i j) (is.shift_most i h)
  where
    entry_by : (b : Bool) (c d : ℤ) → unsigned_abs c ≤ 1000000000000000000 → unsigned_abs d ≤ 1000000000000000000000 → unsigned_abs (c +ℤ (if b then d else pos 0)) ≤ 1001000000000000000000
    entry_by true c d p q = omega (arith, ints)
    entry_by false c d p q = omega (arith, ints)

product_term : (a v w : ℤ) (b : ℕ) → unsigned_abs a ≤ b → abs_z (a *ℤ v *ℤ w) ≤ℤ (pos b *ℤ (abs_z v *ℤ abs_z w))
product_term a v w b h =
    let p = unsigned_abs-mul (a *ℤ v) w in
    let q = unsigned_abs-mul a v in
    let e : unsigned_abs (a *ℤ v *ℤ w) ≡ unsigned_abs a * unsigned_abs v * unsigned_abs w = p ∙ ap (λ (t : ℕ). t * unsigned_abs w) q in
    scaled_term (unsigned_abs (a *ℤ v *ℤ w)) (unsigned_abs a) (unsigned_abs v) (unsigned_abs w) b e h
  where
    scaled_term : (t a v w b : ℕ) → t ≡ a * v * w → a ≤ b → pos t ≤ℤ (pos b *ℤ (pos v *ℤ pos w))
    scaled_term t a v w b e h =
        let d : a * (v * w) ≤ b * (v * w) = mul-le-mul h (omega arith) in
        let f : a * v * w ≡ a * (v * w) = omega arith in
        omega (arith, ints)

-- sums of sizes that are at most V and W
sums_product : (a b : ℤ) (v w : ℕ) → pos 0 ≤ℤ a → pos 0 ≤ℤ b → a ≤ℤ pos v → b ≤ℤ pos w → (a *ℤ b) ≤ℤ pos (v * w)
sums_product a b v w pa pb ha hb =
    let p = scaled_le a b (pos w) pa hb in
    let q = scaled_le (pos w) a (pos v) (omega (arith, ints)) ha in
    let r = *ℤ_comm a (pos w) in
    let t : pos w *ℤ pos v ≡ pos (v * w) = omega (arith, ints) in
    omega (arith, ints)

product_size : (s : Setting) (v w : ℕ → ℤ) (sv sw : ℕ) → IsSetting s → sum_below s.instance.market.assets (λ i. abs_z (v i)) ≤ℤ pos sv → sum_below s.instance.market.assets (λ i. abs_z (w i)) ≤ℤ pos sw → unsigned_abs (product_of s v w) ≤ 1001000000000000000000 * (sv * sw)
unfolding product_of
product_size s v w sv sw is hv hw =
    let n = s.instance.market.assets in
    let a = double_sizes_below n (λ i j. shifted_cov s i j *ℤ v i *ℤ w j) (λ i j. pos 1001000000000000000000 *ℤ (abs_z (v i) *ℤ abs_z (w j))) (λ i j p q. product_term (shifted_cov s i j) (v i) (w j) 1001000000000000000000 (shifted_size s i j is p)) in
    let b = double_scale n (pos 1001000000000000000000) (λ i j. abs_z (v i) *ℤ abs_z (w j)) in
    let c = sum-product n n (λ i. abs_z (v i)) (λ j. abs_z (w j)) in
    let d = sums_product (sum_below n (λ i. abs_z (v i))) (sum_below n (λ j. abs_z (w j))) sv sw (sum_not_negative n (λ i. abs_z (v i)) (λ i p. omega (arith, ints))) (sum_not_negative n (λ i. abs_z (w i)) (λ i p. omega (arith, ints))) hv hw in
    let e = scaled_le (pos 1001000000000000000000) (sum_below n (λ i. abs_z (v i)) *ℤ sum_below n (λ j. abs_z (w j))) (pos (sv * sw)) (omega (arith, ints)) d in
    joined (product_of s v w) _ _ (sv * sw) a (b ∙ ap (λ z. pos 1001000000000000000000 *ℤ z) c) e
  where
    joined : (f g h : ℤ) (k : ℕ) → abs_z f ≤ℤ g → g ≡ h → h ≤ℤ (pos 1001000000000000000000 *ℤ pos k) → unsigned_abs f ≤ 1001000000000000000000 * k
    joined f g h k p q r = omega (arith, ints)

-- ---- single sums, over a list whose numbers are at most 10000
squares_size : (s : Setting) (x : List ℕ) → IsSetting s → ((i : ℕ) → i < s.instance.market.assets → slice_index_or x i 0 ≤ 10000) → unsigned_abs (squares_of s x) ≤ s.instance.market.assets * 100000000000000000000000000000
unfolding squares_of
squares_size s x is h = unsigned_abs-sum s.instance.market.assets (λ i. at s.shift i *ℤ (lots_at x i *ℤ lots_at x i)) 100000000000000000000000000000 (λ i p. square_size (at s.shift i) (slice_index_or x i 0) (is.shift_most i p) (h i p))
  where
    square_size : (d : ℤ) (v : ℕ) → unsigned_abs d ≤ 1000000000000000000000 → v ≤ 10000 → unsigned_abs (d *ℤ (pos v *ℤ pos v)) ≤ 100000000000000000000000000000
    square_size d v p q = unsigned_abs-product_le d (pos v *ℤ pos v) 1000000000000000000000 100000000 p (unsigned_abs-product_le (pos v) (pos v) 10000 10000 q q)

rewards_size : (s : Setting) (x : List ℕ) → IsSetting s → ((i : ℕ) → i < s.instance.market.assets → slice_index_or x i 0 ≤ 10000) → unsigned_abs (rewards_of s x) ≤ s.instance.market.assets * 10000000000000000000000000000
unfolding rewards_of
rewards_size s x is h = unsigned_abs-sum s.instance.market.assets (λ i. reward_of s i *ℤ lots_at x i) 10000000000000000000000000000 (λ i p. unsigned_abs-product_le (reward_of s i) (lots_at x i) 1000000000000000000000000 10000 (reward_size (s.q - s.p) s.instance.lots (mean_of s.instance.market i) (let a = is.q_most in omega arith) is.instance_is.limits_are.lots_most (is.instance_is.market_is.mean_sizes i)) (h i p))
  where
    reward_size : (d l : ℕ) (m : ℤ) → d ≤ 100 → l ≤ 10000 → unsigned_abs m ≤ 1000000 → unsigned_abs (pos (d * 1000000000000 * l) *ℤ m) ≤ 1000000000000000000000000
    reward_size d l m p q r = unsigned_abs-product_le (pos (d * 1000000000000 * l)) m 1000000000000000000 1000000 (let a : d * 1000000000000 ≤ 100000000000000 = omega arith in let b : d * 1000000000000 * l ≤ 100000000000000 * 10000 = mul-le-mul a q in omega arith) r

lots_size : (n : ℕ) (x : List ℕ) → ((i : ℕ) → i < n → slice_index_or x i 0 ≤ 10000) → unsigned_abs (sum_of n x) ≤ n * 10000
lots_size n x h = unsigned_abs-sum n (lots_at x) 10000 h

lots_sum : (n : ℕ) (x : List ℕ) → ((i : ℕ) → i < n → slice_index_or x i 0 ≤ 10000) → sum_below n (λ i. abs_z (lots_at x i)) ≤ℤ pos (n * 10000)
lots_sum n x h = let a = unsigned_abs-sum n (λ i. abs_z (lots_at x i)) 10000 h in omega (arith, ints)

turnover_size : (n : ℕ) (b x : List ℕ) → ((i : ℕ) → i < n → slice_index_or x i 0 ≤ 10000) → ((i : ℕ) → i < n → slice_index_or b i 0 ≤ 10000) → unsigned_abs (turnover_of n b x) ≤ n * 10000
turnover_size n b x h k = unsigned_abs-sum n (λ i. abs_z (lots_at x i -ℤ lots_at b i)) 10000 (λ i p. apart (slice_index_or x i 0) (slice_index_or b i 0) (h i p) (k i p))
  where
    apart : (v w : ℕ) → v ≤ 10000 → w ≤ 10000 → unsigned_abs (pos v -ℤ pos w) ≤ 10000
    apart v w p q = omega (arith, ints)

-- ---- the terms with alpha and tau
turnover_term_size : (I : InstanceValue) (o : Option ℕ) (tau : ℤ) (x : List ℕ) → ((t : ℕ) → o ≡ Some t → t ≤ 3000000) → I.market.assets ≤ 256 → unsigned_abs (turnover_of I.market.assets I.present x) ≤ I.market.assets * 10000 → unsigned_abs tau ≤ 1000000000000000000000000000000 → unsigned_abs (turnover_term I o tau x) ≤ 5560000000000000000000000000000000000
turnover_term_size I None tau x h n k l = omega (arith, ints)
turnover_term_size I (Some t) tau x h n k l = unsigned_abs-product_le tau (turnover_of I.market.assets I.present x -ℤ pos t) 1000000000000000000000000000000 5560000 l (above (turnover_of I.market.assets I.present x) t I.market.assets k n (h t refl))
  where
    above : (z : ℤ) (t n : ℕ) → unsigned_abs z ≤ n * 10000 → n ≤ 256 → t ≤ 3000000 → unsigned_abs (z -ℤ pos t) ≤ 5560000
    above z t n p q r = omega (arith, ints)

-- what a list needs for its sums to be small
pub record IsSmall (I : InstanceValue) (x : List ℕ) : Type 0 where
  pub each : (i : ℕ) → i < I.market.assets → slice_index_or x i 0 ≤ 10000

pub void_size : (s : Setting) (alpha tau : ℤ) (x : List ℕ) → IsSetting s → IsSmall s.instance x → unsigned_abs alpha ≤ 1000000000000000000000000000000 → unsigned_abs tau ≤ 1000000000000000000000000000000 → unsigned_abs (void_lag s alpha tau x) ≤ 8130000000000000000000000000000000000
void_size s alpha tau x is small a t =
    let I = s.instance in
    let n = is.instance_is.market_is.many in
    let sums = lots_size I.market.assets x small.each in
    let first = unsigned_abs-product_le alpha (sum_of I.market.assets x -ℤ pos I.lots) 1000000000000000000000000000000 2570000 a (beside (sum_of I.market.assets x) I.lots I.market.assets sums n is.instance_is.limits_are.lots_most) in
    let second = turnover_term_size I I.turnover tau x is.instance_is.limits_are.turnover_most n (turnover_size I.market.assets I.present x small.each is.instance_is.limits_are.present_within.most) t in
    rw (void_lag_is s alpha tau x) (both (alpha *ℤ (sum_of I.market.assets x -ℤ pos I.lots)) (turnover_term I I.turnover tau x) first second)
  where
    beside : (z : ℤ) (l n : ℕ) → unsigned_abs z ≤ n * 10000 → n ≤ 256 → l ≤ 10000 → unsigned_abs (z -ℤ pos l) ≤ 2570000
    beside z l n p q r = omega (arith, ints)

    both : (a b : ℤ) → unsigned_abs a ≤ 1000000000000000000000000000000 * 2570000 → unsigned_abs b ≤ 5560000000000000000000000000000000000 → unsigned_abs (a +ℤ b) ≤ 8130000000000000000000000000000000000
    both a b p q = omega (arith, ints)

-- ---- the Lagrangian
pub lag_size : (s : Setting) (y : List Entry) (alpha tau : ℤ) (x : List ℕ) → IsSetting s → IsSmall s.instance x → sum_by (λ (e : Entry). e.eighths) y ≤ 8 * s.instance.lots → unsigned_abs alpha ≤ 1000000000000000000000000000000 → unsigned_abs tau ≤ 1000000000000000000000000000000 → unsigned_abs (lag s (eighths_at y) alpha tau x) ≤ 9000000000000000000000000000000000000
lag_size s y alpha tau x is small e a t =
    let I = s.instance in
    let n = is.instance_is.market_is.many in
    let eighths : sum_below I.market.assets (λ i. abs_z (eighths_at y i)) ≤ℤ pos 80000 = eighths_small in
    let lots : sum_below I.market.assets (λ i. abs_z (lots_at x i)) ≤ℤ pos 2560000 = let b = lots_sum I.market.assets x small.each in omega (arith, ints) in
    let yx = product_size s (eighths_at y) (lots_at x) 80000 2560000 is eighths lots in
    let yy = product_size s (eighths_at y) (eighths_at y) 80000 80000 is eighths eighths in
    let sq = squares_size s x is small.each in
    let rw' = rewards_size s x is small.each in
    let v = void_size s alpha tau x is small a t in
    let p : s.p ≤ 100 = let b = is.p_most in let c = is.q_most in omega arith in
    rw (lag_is s (eighths_at y) alpha tau x) (all_terms s.p I.market.assets (product_of s (eighths_at y) (lots_at x)) (product_of s (eighths_at y) (eighths_at y)) (squares_of s x) (rewards_of s x) (void_lag s alpha tau x) p n yx yy sq rw' v)
  where
    eighths_small : sum_below s.instance.market.assets (λ i. abs_z (eighths_at y i)) ≤ℤ pos 80000
    eighths_small =
        let same = sum_same s.instance.market.assets (λ i. abs_z (eighths_at y i)) (eighths_at y) (λ i p. let b = entry_not_negative y i in omega (arith, ints)) in
        let b = eighths_sum s.instance.market.assets y in
        let c = is.instance_is.limits_are.lots_most in
        omega (arith, ints)

    added : (a b c v : ℤ) → unsigned_abs a ≤ 100 * 3290000000000000000000000000000000 → unsigned_abs b ≤ 6400 * 25600000000000000000000000000000 → unsigned_abs c ≤ 64 * 2560000000000000000000000000000 → unsigned_abs v ≤ 8130000000000000000000000000000000000 → unsigned_abs (((a -ℤ b) -ℤ c) +ℤ v) ≤ 9000000000000000000000000000000000000
    added a b c v p q r t = omega (arith, ints)

    all_terms : (p n : ℕ) (yx yy sq re v : ℤ) → p ≤ 100 → n ≤ 256 → unsigned_abs yx ≤ 1001000000000000000000 * (80000 * 2560000) → unsigned_abs yy ≤ 1001000000000000000000 * (80000 * 80000) → unsigned_abs sq ≤ n * 100000000000000000000000000000 → unsigned_abs re ≤ n * 10000000000000000000000000000 → unsigned_abs v ≤ 8130000000000000000000000000000000000 →
        unsigned_abs ((((pos p *ℤ ((pos 16 *ℤ yx) -ℤ yy)) -ℤ (pos (64 * p) *ℤ sq)) -ℤ (pos 64 *ℤ re)) +ℤ v) ≤ 9000000000000000000000000000000000000
    all_terms p n yx yy sq re v hp hn hx hy hs hr hv =
        let a = unsigned_abs-product_le (pos p) ((pos 16 *ℤ yx) -ℤ yy) 100 3290000000000000000000000000000000 hp (omega (arith, ints)) in
        let sq2 : unsigned_abs sq ≤ 25600000000000000000000000000000 = omega arith in
        let b = unsigned_abs-product_le (pos (64 * p)) sq 6400 25600000000000000000000000000000 (omega arith) sq2 in
        let c = unsigned_abs-product_le (pos 64) re 64 2560000000000000000000000000000 (omega arith) (omega arith) in
        added (pos p *ℤ ((pos 16 *ℤ yx) -ℤ yy)) (pos (64 * p) *ℤ sq) (pos 64 *ℤ re) v a b c hv

-- ---- what leaves show
-- a list of the root that holds a number of assets in range is small
pub pick_small : (s : Setting) (part : List Cell) (x : List ℕ) → IsSetting s → IsWithin part (root_cells s.instance.least s.instance.greatest) → IsPick part s.instance.held s.instance.held_most x → IsSmall s.instance x
pick_small s part x is w h =
    let keeps = pick_keeps s.instance x is.instance_is (record { inside = w.inside x h.inside; few = h.few; many = h.many }) in
    record { each = λ i l. let a = keeps.greatest_kept i l in let b = is.instance_is.limits_are.greatest_within.most i l in let c = is.instance_is.limits_are.lots_most in omega arith }

pub theta_size : (s : Setting) (part : List Cell) (y : List Entry) (alpha tau t : ℤ) → IsSetting s → IsWithin part (root_cells s.instance.least s.instance.greatest) → sum_by (λ (e : Entry). e.eighths) y ≤ 8 * s.instance.lots → AreMultipliers s.instance.turnover alpha tau → theta s part (eighths_at y) alpha tau ≡ Some t → unsigned_abs t ≤ most_theta
theta_size s part y alpha tau t is w e m h =
    let r = (theta_least s part (eighths_at y) alpha tau t h).reached in
    let a = lag_size s y alpha tau r.0 is (pick_small s part r.0 is w r.1) e m.alpha_most m.tau_most in
    let b = subst (λ (z : ℤ). unsigned_abs z ≤ 9000000000000000000000000000000000000) r.2 a in
    omega arith

pub void_theta_size : (s : Setting) (part : List Cell) (alpha tau t : ℤ) → IsSetting s → IsWithin part (root_cells s.instance.least s.instance.greatest) → AreMultipliers s.instance.turnover alpha tau → void_theta s part alpha tau ≡ Some t → unsigned_abs t ≤ most_theta
void_theta_size s part alpha tau t is w m h =
    let r = (void_theta_least s part alpha tau t h).reached in
    let a = void_size s alpha tau r.0 is (pick_small s part r.0 is w r.1) m.alpha_most m.tau_most in
    let b = subst (λ (z : ℤ). unsigned_abs z ≤ 8130000000000000000000000000000000000) r.2 a in
    omega arith

sixty_fourth_small : (t : ℤ) → unsigned_abs t ≤ most_theta → unsigned_abs (sixty_fourth t) ≤ most_bound
sixty_fourth_small (pos n) h = let a : n ≤ most_theta = omega (arith, ints) in quotient_small n a
  where
    quotient_small : (n : ℕ) → n ≤ most_theta → (n + 63) / 64 ≤ most_bound
    quotient_small n h = omega arith
sixty_fourth_small (negsuc n) h = let a : n + 1 ≤ most_theta = omega (arith, ints) in let b : (n + 1) / 64 ≤ most_bound = quotient_small n a in let c : unsigned_abs (neg_ℤ (pos ((n + 1) / 64))) ≡ (n + 1) / 64 = omega (arith, ints) in omega arith
  where
    quotient_small : (n : ℕ) → n + 1 ≤ most_theta → (n + 1) / 64 ≤ most_bound
    quotient_small n h = omega arith

no_number : (b : Bool) (v : ℤ) → count_shows b ≡ AtLeast v → ⊥
no_number true v e = cc
no_number false v e = cc

void_no_number : (o : Option ℤ) (v : ℤ) → void_shows o ≡ AtLeast v → ⊥
void_no_number None v e = cc
void_no_number (Some t) v e = sign_by (int_lt (pos 0) t) e
  where
    sign_by : (b : Bool) → cond b Empty Nothing ≡ AtLeast v → ⊥
    sign_by true e = cc
    sign_by false e = cc

said_number : (b : Bool) (x : Shown) (v : ℤ) → cond b x Nothing ≡ AtLeast v → x ≡ AtLeast v
said_number true x v e = e
said_number false x v e = cc

tangent_number : (o : Option ℤ) (v : ℤ) → tangent_shows o ≡ AtLeast v → (t : ℤ) × (o ≡ Some t) × (v ≡ sixty_fourth t)
tangent_number None v e = cc
tangent_number (Some t) v e = (t, refl, cc)

pub shown_size : (s : Setting) (part : List Cell) (leaf : Leaf) (v : ℤ) → IsSetting s → IsWithin part (root_cells s.instance.least s.instance.greatest) → in_range s leaf ≡ true → shows s part leaf ≡ AtLeast v → unsigned_abs v ≤ most_bound
unfolding shows
shown_size s part Count v is w r e = absurd (no_number (can_meet part s.instance.held s.instance.held_most) v e)
shown_size s part (Void alpha tau third) v is w r e = absurd (void_no_number (void_theta s part alpha tau) v (said_number (is_zero third) (void_shows (void_theta s part alpha tau)) v e))
shown_size s part (Tangent y alpha tau third) v is w r e =
    let a = and_parts (ascend 0 s.instance.market.assets y.now) (leb (sum_by (λ (d : Entry). d.eighths) y.now) (8 * s.instance.lots) && are_multipliers s.instance.turnover alpha tau) r in
    let b = and_parts (leb (sum_by (λ (d : Entry). d.eighths) y.now) (8 * s.instance.lots)) (are_multipliers s.instance.turnover alpha tau) a.1 in
    let n = tangent_number (theta s part (eighths_at y.now) alpha tau) v (said_number (is_zero third) (tangent_shows (theta s part (eighths_at y.now) alpha tau)) v e) in
    let t = theta_size s part y.now alpha tau n.0 is w (leb-true (sum_by (λ (d : Entry). d.eighths) y.now) (8 * s.instance.lots) b.0) (multipliers_are s.instance.turnover alpha tau b.1) n.1 in
    subst (λ (z : ℤ). unsigned_abs z ≤ most_bound) (sym n.2) (sixty_fourth_small n.0 t)
