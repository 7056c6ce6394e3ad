-- Laws of what a holding keeps.
use Rattle.std.proofs.Common.{◌≡◌, ℕ, ◌+◌, ◌-◌, ◌*◌, ◌<◌, ◌≤◌, cond, nat_lt, List, length, replicate, slice_index_or, slice_set, ℤ, pos, ◌+ℤ◌, ◌-ℤ◌, ◌*ℤ◌, ◌⊎◌, inl, inr, sym, ap, ◌∙◌, arith, length-set, get_or-set_same, get_or-set_other, unsigned_abs}
use Rattle.std.proofs.Math.IntN.{*ℤ-zero}
use Rattle.std.proofs.lemmas.Bool.{cases_eq, cases_lt}
use Rattle.std.proofs.lemmas.Int.{ints}
use Rattle.std.proofs.lemmas.List.{get_or-replicate, length-replicate, get_or_past}
use native.Mathlib.Nat.{mul-le-mul}
use Rattle.gap_base.specs.declared.weight.Weight.{Weight}
use Rattle.gap_base.specs.Lots.{lots_at}
use Rattle.gap_base.specs.Sums.{at}
use Rattle.gap_base.specs.Markets.{MarketValue, mean_of}
use Rattle.gap_base.proofs.Counts.{count_nowhere}
use Rattle.gap_base.proofs.Machine.{unsigned_abs-product_le}
use Rattle.gap_base.proofs.SumLaws.{sum_all_zero}
use Rattle.gap_instance.specs.Instances.{InstanceValue, IsInstance, AreBetween}
use Rattle.gap_instance.specs.Limits.{turnover_of}
use Rattle.gap_instance.specs.Objective.{cov_of, risk_of, return_of, objective}
use Rattle.gap_instance.proofs.LimitLaws.{AreBetween-replicate}
use Rattle.gap_instance.proofs.OrderLaws.{same_list}
use Rattle.gap_objective.specs.Holdings.{HoldingValue, AreSlopes, IsKept, IsFront, distance}
use Rattle.gap_objective.specs.Slopes.{row_of, slope_of, IsChanged, AreShiftedBelow}
use Rattle.gap_objective.proofs.CountLaws.{held_put, turnover_put}
use Rattle.gap_objective.proofs.RiskLaws.{risk_of-rows, row_of-size, risk_of-within, return_of-within}
use Rattle.gap_objective.proofs.ChangeLaws.{IsChanged-set, slope_changed}

-- ---- sizes
factor_small : (p q l : ℕ) → q ≤ 255 → l ≤ 10000 → (q - p) * 1000000000000 * l ≤ 2550000000000000000
factor_small p q l h k = let d : (q - p) * 1000000000000 ≤ 255000000000000 = omega arith in mul-le-mul d k

pub slope_of-size : (I : InstanceValue) (p q : ℕ) (x : List ℕ) (i : ℕ) → IsInstance I → p ≤ 255 → q ≤ 255 → AreBetween I.market.assets 0 10000 x → unsigned_abs (slope_of I p q x i) ≤ 2000000000000000000000000000
unfolding slope_of
slope_of-size I p q x i known h k lots =
    let a = unsigned_abs-product_le (pos (2 * p)) (row_of I.market x i) 510 2560000000000000000000000 (omega arith) (row_of-size I.market x i known.market_is lots) in
    let b = unsigned_abs-product_le (pos ((q - p) * 1000000000000 * I.lots)) (mean_of I.market i) 2550000000000000000 1000000 (factor_small p q I.lots k known.limits_are.lots_most) (known.market_is.mean_sizes i) in
    omega (arith, ints)

pub objective-within : (I : InstanceValue) (p q : ℕ) (x : List ℕ) → IsInstance I → p ≤ 255 → q ≤ 255 → AreBetween I.market.assets 0 10000 x → unsigned_abs (objective I p q x) ≤ 2000000000000000000000000000000000
unfolding objective
objective-within I p q x known h k lots =
    let a = unsigned_abs-product_le (pos p) (risk_of I.market x) 255 6553600000000000000000000000000 h (risk_of-within I.market x known.market_is lots) in
    let b = unsigned_abs-product_le (pos ((q - p) * 1000000000000 * I.lots)) (return_of I.market x) 2550000000000000000 2560000000000 (factor_small p q I.lots k known.limits_are.lots_most) (return_of-within I.market x known.market_is lots) in
    omega (arith, ints)

pub kept_small : (I : InstanceValue) (p q : ℕ) (x : List ℕ) (slopes : List ℤ) (value : ℤ) (held turnover : ℕ) → IsKept I p q x slopes value held turnover → unsigned_abs value ≤ 2000000000000000000000000000000000
kept_small I p q x slopes value held turnover kept = rw kept.value_is (objective-within I p q x kept.instance_is kept.risk_weight kept.whole_weight kept.lots_are)

pub slopes_small : (I : InstanceValue) (p q : ℕ) (x : List ℕ) (slopes : List ℤ) (value : ℤ) (held turnover : ℕ) → IsKept I p q x slopes value held turnover → (k : ℕ) → k < I.market.assets → unsigned_abs (at slopes k) ≤ 2000000000000000000000000000
slopes_small I p q x slopes value held turnover kept k h = rw (kept.slopes_are k h) (slope_of-size I p q x k kept.instance_is kept.risk_weight kept.whole_weight kept.lots_are)

-- ---- the list that holds nothing
nothing_at : (n k : ℕ) → k < n → lots_at (replicate n 0) k ≡ pos 0
nothing_at n k h = ap pos (get_or-replicate n k 0 0 h)

row_nothing : (I : InstanceValue) (i : ℕ) → row_of I.market (replicate I.market.assets 0) i ≡ pos 0
unfolding row_of
row_nothing I i = sum_all_zero I.market.assets (λ j. cov_of I.market i j *ℤ lots_at (replicate I.market.assets 0) j) (λ j l. ap (λ t. cov_of I.market i j *ℤ t) (nothing_at I.market.assets j l) ∙ *ℤ-zero (cov_of I.market i j))

pub slope_nothing : (I : InstanceValue) (p q i : ℕ) → slope_of I p q (replicate I.market.assets 0) i ≡ pos 0 -ℤ (pos ((q - p) * 1000000000000 * I.lots) *ℤ mean_of I.market i)
unfolding slope_of
slope_nothing I p q i = ap (λ r. (pos (2 * p) *ℤ r) -ℤ (pos ((q - p) * 1000000000000 * I.lots) *ℤ mean_of I.market i)) (row_nothing I i) ∙ ap (λ r. r -ℤ (pos ((q - p) * 1000000000000 * I.lots) *ℤ mean_of I.market i)) (*ℤ-zero (pos (2 * p)))

risk_nothing : (I : InstanceValue) → risk_of I.market (replicate I.market.assets 0) ≡ pos 0
risk_nothing I = risk_of-rows I.market (replicate I.market.assets 0) ∙ sum_all_zero I.market.assets (λ i. row_of I.market (replicate I.market.assets 0) i *ℤ lots_at (replicate I.market.assets 0) i) (λ i l. ap (λ t. row_of I.market (replicate I.market.assets 0) i *ℤ t) (nothing_at I.market.assets i l) ∙ *ℤ-zero (row_of I.market (replicate I.market.assets 0) i))

return_nothing : (I : InstanceValue) → return_of I.market (replicate I.market.assets 0) ≡ pos 0
unfolding return_of
return_nothing I = sum_all_zero I.market.assets (λ i. mean_of I.market i *ℤ lots_at (replicate I.market.assets 0) i) (λ i l. ap (λ t. mean_of I.market i *ℤ t) (nothing_at I.market.assets i l) ∙ *ℤ-zero (mean_of I.market i))

objective_nothing : (I : InstanceValue) (p q : ℕ) → objective I p q (replicate I.market.assets 0) ≡ pos 0
unfolding objective
objective_nothing I p q =
    ap (λ r. (pos p *ℤ r) -ℤ (pos ((q - p) * 1000000000000 * I.lots) *ℤ return_of I.market (replicate I.market.assets 0))) (risk_nothing I)
    ∙ ap (λ r. (pos p *ℤ pos 0) -ℤ (pos ((q - p) * 1000000000000 * I.lots) *ℤ r)) (return_nothing I)
    ∙ ap (λ r. r -ℤ (pos ((q - p) * 1000000000000 * I.lots) *ℤ pos 0)) (*ℤ-zero (pos p))
    ∙ ap (λ r. pos 0 -ℤ r) (*ℤ-zero (pos ((q - p) * 1000000000000 * I.lots)))

pub IsKept-nothing : (I : InstanceValue) (p q : ℕ) (slopes : List ℤ) (turnover : ℕ) → IsInstance I → p ≤ 255 → q ≤ 255 → length slopes ≡ 256 → AreSlopes I p q (replicate I.market.assets 0) slopes → pos turnover ≡ turnover_of I.market.assets I.present (replicate I.market.assets 0) → IsKept I p q (replicate I.market.assets 0) slopes (pos 0) 0 turnover
IsKept-nothing I p q slopes turnover known h k room are turned = record {
  risk_weight = h;
  whole_weight = k;
  instance_is = known;
  lots_are = AreBetween-replicate I.market.assets 0 10000 0 (omega arith) (omega arith);
  room = room;
  slopes_are = are;
  value_is = sym (objective_nothing I p q);
  held_is = sym (count_nowhere I.market.assets (λ i. nat_lt 0 (slice_index_or (replicate I.market.assets 0) i 0)) (λ i l. ap (nat_lt 0) (get_or-replicate I.market.assets i 0 0 l)));
  turnover_is = turned;
}

-- ---- a list of numbers of at most 10000 stays one where one is set
set_most : (v i k : ℕ) (x : List ℕ) → i < length x → v ≤ 10000 → slice_index_or x k 0 ≤ 10000 → (k ≡ i) ⊎ (k ≡ i → ⊥) → slice_index_or (slice_set x i v) k 0 ≤ 10000
set_most v i k x p h g (inl e) = rw (e, get_or-set_same x i v 0 p) h
set_most v i k x p h g (inr e) = rw (get_or-set_other x i k v 0 e) g

pub AreBetween-set : (n v i : ℕ) (x : List ℕ) → i < n → v ≤ 10000 → AreBetween n 0 10000 x → AreBetween n 0 10000 (slice_set x i v)
AreBetween-set n v i x p h lots = record {
  count = length-set x i v ∙ lots.count;
  least = λ k q. omega arith;
  most = λ k q. set_most v i k x (rw lots.count p) h (lots.most k q) (cases_eq k i);
}

-- what is kept after asset i got v lots, which are d more
pub IsKept-put : (I : InstanceValue) (p q : ℕ) (x : List ℕ) (slopes shifted : List ℤ) (value new d : ℤ) (held turnover i v : ℕ) → IsKept I p q x slopes value held turnover → i < I.market.assets → v ≤ 10000 → pos v ≡ lots_at x i +ℤ d → length shifted ≡ 256 → AreShiftedBelow I.market i I.market.assets (d *ℤ pos (2 * p)) slopes shifted → new ≡ objective I p q (slice_set x i v) → IsKept I p q (slice_set x i v) shifted new ((held + cond (nat_lt 0 v) 1 0) - cond (nat_lt 0 (slice_index_or x i 0)) 1 0) ((turnover + distance v (slice_index_or I.present i 0)) - distance (slice_index_or x i 0) (slice_index_or I.present i 0))
IsKept-put I p q x slopes shifted value new d held turnover i v kept h m e room are is =
    let changed : IsChanged x (slice_set x i v) d i = IsChanged-set x i v d (rw kept.lots_are.count h) e in
    record {
      risk_weight = kept.risk_weight;
      whole_weight = kept.whole_weight;
      instance_is = kept.instance_is;
      lots_are = AreBetween-set I.market.assets v i x h m kept.lots_are;
      room = room;
      slopes_are = λ k l. are.below k l ∙ ap (λ t. t +ℤ cov_of I.market k i *ℤ (d *ℤ pos (2 * p))) (kept.slopes_are k l) ∙ sym (slope_changed I p q x (slice_set x i v) d i k h changed);
      value_is = is;
      held_is = held_put I.market.assets i v held x h (rw kept.lots_are.count h) kept.held_is;
      turnover_is = turnover_put I.market.assets i v turnover I.present x h (rw kept.lots_are.count h) kept.turnover_is;
    }

-- ---- a list that is filled from the front
pub IsFront-nothing : (n : ℕ) (x : List ℕ) → length x ≡ n → IsFront x 0 (replicate n 0)
IsFront-nothing n x e = record {
  size = sized;
  below = λ i l. absurd (omega arith);
  above = λ i l. zeros i (cases_lt i n);
}
  where
    sized : length (replicate {A = ℕ} n 0) ≡ length x
    sized = length-replicate {A = ℕ} n 0 ∙ sym e

    zeros : (i : ℕ) → (i < n) ⊎ (n ≤ i) → slice_index_or (replicate {A = ℕ} n 0) i 0 ≡ 0
    zeros i (inl h) = get_or-replicate n i 0 0 h
    zeros i (inr h) = let e : length (replicate {A = ℕ} n 0) ≡ n = length-replicate {A = ℕ} n 0 in get_or_past (replicate {A = ℕ} n 0) i 0 (omega arith)

pub IsFront-put : (x y : List ℕ) (k : ℕ) → k < length x → IsFront x k y → IsFront x (k + 1) (slice_set y k (slice_index_or x k 0))
IsFront-put x y k h front = record {
  size = length-set y k (slice_index_or x k 0) ∙ front.size;
  below = λ i l. here i l (cases_eq i k);
  above = λ i l. get_or-set_other y k i (slice_index_or x k 0) 0 (λ e. omega arith) ∙ front.above i (omega arith);
}
  where
    here : (i : ℕ) → i < k + 1 → (i ≡ k) ⊎ (i ≡ k → ⊥) → slice_index_or (slice_set y k (slice_index_or x k 0)) i 0 ≡ slice_index_or x i 0
    here i l (inl e) = rw e (get_or-set_same y k (slice_index_or x k 0) 0 (rw front.size h))
    here i l (inr n) = get_or-set_other y k i (slice_index_or x k 0) 0 n ∙ front.below i (omega (arith, n))

pub IsFront-passed : (x y : List ℕ) (k : ℕ) → slice_index_or x k 0 ≡ 0 → IsFront x k y → IsFront x (k + 1) y
IsFront-passed x y k e front = record {
  size = front.size;
  below = λ i l. here i l (cases_eq i k);
  above = λ i l. front.above i (omega arith);
}
  where
    here : (i : ℕ) → i < k + 1 → (i ≡ k) ⊎ (i ≡ k → ⊥) → slice_index_or y i 0 ≡ slice_index_or x i 0
    here i l (inl s) = rw s (front.above k (omega arith) ∙ sym e)
    here i l (inr n) = front.below i (omega (arith, n))

pub IsFront-whole : (x y : List ℕ) → IsFront x (length x) y → y ≡ x
IsFront-whole x y front = sym (same_list x y (sym front.size) (λ i l. sym (front.below i l)))

-- ---- tables that are filled or changed place by place
pub more_at : (f : ℕ → ℤ) (xs : List ℤ) (i j : ℕ) (v : ℤ) → j ≡ i → i < length xs → v ≡ f i → ((k : ℕ) → k < i → at xs k ≡ f k) → (k : ℕ) → k < i + 1 → at (slice_set xs j v) k ≡ f k
more_at f xs i j v e h here before k l = rw e (by_case (cases_eq k i))
  where
    by_case : (k ≡ i) ⊎ (k ≡ i → ⊥) → at (slice_set xs i v) k ≡ f k
    by_case (inl s) = rw s (get_or-set_same xs i v (pos 0) h ∙ here)
    by_case (inr n) = get_or-set_other xs i k v (pos 0) n ∙ before k (omega (arith, n))

pub more_shifted : (m : MarketValue) (a i j : ℕ) (s v : ℤ) (old new : List ℤ) → j ≡ i → i < length new → v ≡ at new i +ℤ cov_of m i a *ℤ s → AreShiftedBelow m a i s old new → AreShiftedBelow m a (i + 1) s old (slice_set new j v)
more_shifted m a i j s v old new e h here before = record {
  below = more_at (λ k. at old k +ℤ cov_of m k a *ℤ s) new i j v e h (here ∙ ap (λ t. t +ℤ cov_of m i a *ℤ s) (before.above i (omega arith))) before.below;
  above = λ k l. above k l;
}
  where
    above : (k : ℕ) → i + 1 ≤ k → at (slice_set new j v) k ≡ at old k
    above k l = let n : k ≡ j → ⊥ = λ w. omega arith in get_or-set_other new j k v (pos 0) n ∙ before.above k (omega arith)

pub holding_is : (h : HoldingValue) (I : InstanceValue) (w : Weight) (x : List ℕ) → h.instance ≡ I → h.weight ≡ w → h.lots ≡ x → h ≡ record { instance = I; weight = w; lots = x }
holding_is h I w x a b c =
    ap (λ (i : InstanceValue). record { instance = i; weight = h.weight; lots = h.lots }) a
    ∙ ap (λ (v : Weight). record { instance = I; weight = v; lots = h.lots }) b
    ∙ ap (λ (y : List ℕ). record { instance = I; weight = w; lots = y }) c

-- for the loop that fills a list
pub ruleset front_steps = (IsFront-nothing, IsFront-put, IsFront-passed, IsFront-whole)
