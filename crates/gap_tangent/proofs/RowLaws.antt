-- The sums of covariances times eighths, and their sizes.

use Rattle.std.proofs.Common.{◌≡◌, ℕ, zero, suc, ◌+◌, ◌*◌, ◌<◌, ◌≤◌, List, [], ◌∷◌, length, slice_index_or, slice_set, sum, replicate, ℤ, pos, ◌+ℤ◌, ◌*ℤ◌, ◌≤ℤ◌, unsigned_abs, ◌⊎◌, inl, inr, refl, sym, ap, ◌∙◌, subst, arith, length-set}
use Rattle.std.proofs.Math.IntN.{*ℤ-zero}
use Rattle.std.proofs.lemmas.Int.{ints, unsigned_abs-mul}
use Rattle.std.proofs.lemmas.Bool.{cases_eq}
use Rattle.std.proofs.lemmas.List.Sums.{sum_by-cons}
use native.Mathlib.Nat.{mul-le-mul}
use Rattle.gap_base.specs.Sums.{sum_below, at}
use Rattle.gap_base.specs.Lots.{lots_at}
use Rattle.gap_base.specs.Markets.{MarketValue, IsMarket}
use Rattle.gap_base.proofs.Ring.{linear}
use Rattle.gap_base.proofs.SumLaws.{sum_none, sum_more, sum_le, sum_below_sizes, sum-scale}
use Rattle.gap_base.proofs.Lists.{sum_places}
use Rattle.gap_instance.specs.Instances.{InstanceValue, IsInstance}
use Rattle.gap_instance.specs.Objective.{cov_of}
use Rattle.gap_instance.proofs.ObjectiveLaws.{cov_of-size}
use Rattle.gap_model.specs.Leaves.{IsPoint}
use Rattle.gap_tangent.specs.Rows.{AreRowsBefore, AreRows}
use Rattle.gap_tangent.proofs.TableLaws.{at_set_same, at_set_other}

-- each number of a list is at most their sum
pub one_of_sum : (y : List ℕ) (k : ℕ) → slice_index_or y k 0 ≤ sum y
one_of_sum [] k = omega arith
one_of_sum (v ∷ y) zero = let e = sum_by-cons (λ (n : ℕ). n) v y in omega arith
one_of_sum (v ∷ y) (suc k) = let h = one_of_sum y k in let e = sum_by-cons (λ (n : ℕ). n) v y in omega arith

pub point_most : (I : InstanceValue) (y : List ℕ) → IsInstance I → IsPoint I y → sum y ≤ 80000
point_most I y is p = let a = p.most in let b = is.limits_are.lots_most in omega arith

pub eighths_most : (I : InstanceValue) (y : List ℕ) (k : ℕ) → IsInstance I → IsPoint I y → slice_index_or y k 0 ≤ 80000
eighths_most I y k is p = let a = one_of_sum y k in let b = point_most I y is p in omega arith

-- ---- a column added, place by place
pub record IsAdded (f : ℕ → ℤ) (old new : List ℤ) (i : ℕ) : Type 0 where
  pub size : length new ≡ 256
  pub done : (k : ℕ) → k < i → at new k ≡ at old k +ℤ f k
  pub rest : (k : ℕ) → i ≤ k → at new k ≡ at old k

pub added_none : (f : ℕ → ℤ) (old : List ℤ) → length old ≡ 256 → IsAdded f old old 0
added_none f old e = record { size = e; done = λ k h. absurd (omega arith); rest = λ k h. refl }

pub added_more : (f : ℕ → ℤ) (old new : List ℤ) (i : ℕ) (v : ℤ) → i < 256 → IsAdded f old new i → v ≡ f i → IsAdded f old (slice_set new i (at new i +ℤ v)) (i + 1)
added_more f old new i v few a e = let h : i < length new = let n = a.size in omega arith in record { size = length-set new i (at new i +ℤ v) ∙ a.size; done = λ k l. done_by k l (cases_eq k i); rest = λ k l. at_set_other new i k (at new i +ℤ v) (λ q. omega arith) ∙ a.rest k (omega arith) }
  where
    done_by : (k : ℕ) → k < i + 1 → (k ≡ i) ⊎ (k ≡ i → ⊥) → at (slice_set new i (at new i +ℤ v)) k ≡ at old k +ℤ f k
    done_by k l (inl q) = subst (λ (j : ℕ). at (slice_set new i (at new i +ℤ v)) j ≡ at old j +ℤ f j) (sym q) (at_set_same new i (at new i +ℤ v) (let n = a.size in omega arith) ∙ ap (λ z. z +ℤ v) (a.rest i (omega arith)) ∙ ap (λ z. at old i +ℤ z) e)
    done_by k l (inr n) = at_set_other new i k (at new i +ℤ v) n ∙ a.done k (omega (arith, n))

-- ---- one more column
product_small : (c : ℤ) (v : ℕ) → unsigned_abs c ≤ 1000000000000000000 → v ≤ 80000 → unsigned_abs (c *ℤ pos v) ≤ 80000000000000000000000
product_small c v h k = let a = unsigned_abs-mul c (pos v) in let b : unsigned_abs c * v ≤ 1000000000000000000 * 80000 = mul-le-mul h k in omega arith

size_step : (j : ℕ) (a b : ℤ) → unsigned_abs a ≤ j * 80000000000000000000000 → unsigned_abs b ≤ 80000000000000000000000 → unsigned_abs (a +ℤ b) ≤ (j + 1) * 80000000000000000000000
size_step j a b h k = omega (arith, ints)

pub rows_none : (m : MarketValue) (y : List ℕ) (rows : List ℤ) → ((i : ℕ) → at rows i ≡ pos 0) → AreRowsBefore m y 0 rows
rows_none m y rows h = record { sums = λ i l. h i ∙ sym (sum_none (λ j. cov_of m i j *ℤ lots_at y j)); small = λ i l. let e = h i in rw e (omega arith) }

pub rows_more : (m : MarketValue) (y : List ℕ) (j : ℕ) (old new : List ℤ) → IsMarket m → slice_index_or y j 0 ≤ 80000 → AreRowsBefore m y j old → ((i : ℕ) → i < m.assets → at new i ≡ at old i +ℤ cov_of m i j *ℤ lots_at y j) → AreRowsBefore m y (j + 1) new
rows_more m y j old new is e before added = record {
  sums = λ i l. added i l ∙ ap (λ z. z +ℤ cov_of m i j *ℤ lots_at y j) (before.sums i l) ∙ sym (sum_more j (λ k. cov_of m i k *ℤ lots_at y k));
  small = λ i l. subst (λ (z : ℤ). unsigned_abs z ≤ (j + 1) * 80000000000000000000000) (sym (added i l)) (size_step j (at old i) (cov_of m i j *ℤ lots_at y j) (before.small i l) (product_small (cov_of m i j) (slice_index_or y j 0) (cov_of-size m is i j) e));
}

-- ---- all columns
term_size : (c : ℤ) (v : ℕ) → unsigned_abs c ≤ 1000000000000000000 → pos (unsigned_abs (c *ℤ pos v)) ≤ℤ (pos 1000000000000000000 *ℤ pos v)
term_size c v h =
    let a = unsigned_abs-mul c (pos v) in
    let d : unsigned_abs c * v ≤ 1000000000000000000 * v = mul-le-mul h (omega arith) in
    omega (arith, ints)

row_size : (m : MarketValue) (y : List ℕ) (i : ℕ) → IsMarket m → length y ≡ m.assets → sum y ≤ 80000 → unsigned_abs (sum_below m.assets (λ j. cov_of m i j *ℤ lots_at y j)) ≤ 80000000000000000000000
row_size m y i is e h =
    let a = sum_below_sizes m.assets (λ j. cov_of m i j *ℤ lots_at y j) in
    let b = sum_le m.assets (λ j. pos (unsigned_abs (cov_of m i j *ℤ lots_at y j))) (λ j. pos 1000000000000000000 *ℤ lots_at y j) (λ j p. term_size (cov_of m i j) (slice_index_or y j 0) (cov_of-size m is i j)) in
    let c = sum-scale m.assets (pos 1000000000000000000) (lots_at y) in
    let d = sum_places y ∙ ap (λ n. sum_below n (lots_at y)) e in
    omega (arith, ints)

pub rows_all : (I : InstanceValue) (y : List ℕ) (count : ℕ) (rows : List ℤ) → IsInstance I → IsPoint I y → count ≡ I.market.assets → AreRowsBefore I.market y count rows → AreRows I.market y rows
rows_all I y count rows is p e before = record {
  sums = λ i l. before.sums i l ∙ ap (λ n. sum_below n (λ j. cov_of I.market i j *ℤ lots_at y j)) e;
  small = λ i l. subst (λ (z : ℤ). unsigned_abs z ≤ 80000000000000000000000) (sym (before.sums i l ∙ ap (λ n. sum_below n (λ j. cov_of I.market i j *ℤ lots_at y j)) e)) (row_size I.market y i is.market_is p.count (point_most I y is p));
}

pub nothing_added : (a c : ℤ) (v : ℕ) → v ≡ 0 → a ≡ a +ℤ c *ℤ pos v
nothing_added a c v e = let z = *ℤ-zero c in rw e (omega (arith, linear))

pub zeros_at : (n i : ℕ) → at (replicate n (pos 0)) i ≡ pos 0
zeros_at zero i = refl
zeros_at (suc n) zero = refl
zeros_at (suc n) (suc i) = zeros_at n i
