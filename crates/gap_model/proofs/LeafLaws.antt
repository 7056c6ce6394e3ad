-- What leaves in range say, and the entries of a list of lots in eighths.

use Rattle.std.proofs.Common.{◌≡◌, ℕ, zero, suc, ◌+◌, ◌*◌, ◌<◌, ◌≤◌, true, false, ◌&&◌, ◌||◌, ltb, leb, eqb, List, [], ◌∷◌, length, slice_index_or, sum, sum_by, Option, is_some, ◌⊎◌, inl, inr, ℤ, pos, negsuc, ◌*ℤ◌, ◌≤ℤ◌, int_le, unsigned_abs, refl, ◌∙◌, arith, slice_get, Some, None, subst}
use Rattle.std.proofs.lemmas.Int.{ints}
use Rattle.std.proofs.lemmas.Bool.Decides.{nat_tests}
use Rattle.std.proofs.lemmas.Bool.{ltb-true, and_parts, and_from, leb-true, le-leb, lt-ltb, cases_lt, eq-eqb, ne_eqb, cond-true, cond-false}
use Rattle.std.proofs.lemmas.List.Sums.{sum_by-cons}
use Rattle.gap_base.specs.Lots.{lots_at}
use Rattle.gap_model.specs.declared.leaf.Entry.{Entry}
use Rattle.gap_model.specs.Leaves.{AreMultipliers, AreEntries, eighths_at, entries_from, ascend, are_multipliers, sixty_fourth}

-- ---- the multipliers
pub tau_not_negative : (o : Option ℕ) (alpha tau : ℤ) → are_multipliers o alpha tau ≡ true → pos 0 ≤ℤ tau
tau_not_negative o alpha tau e =
    let a = and_parts (leb (unsigned_abs alpha) 1000000000000000000000000000000) _ e in
    let b = and_parts (leb (unsigned_abs tau) 1000000000000000000000000000000) _ a.1 in
    let c = and_parts (int_le (pos 0) tau) (is_some o || int_le tau (pos 0)) b.1 in
    let d : int_le (pos 0) tau ≡ true = c.0 in
    grind (arith, ints)

-- ---- the least whole number c with 64c at least v
pub sixty_fourth_reached : (v : ℤ) → v ≤ℤ (pos 64 *ℤ sixty_fourth v)
sixty_fourth_reached (pos n) = omega (arith, ints)
sixty_fourth_reached (negsuc n) = omega (arith, ints)

pub sixty_fourth_least : (v c : ℤ) → v ≤ℤ (pos 64 *ℤ c) → sixty_fourth v ≤ℤ c
sixty_fourth_least (pos n) c h = omega (arith, ints)
sixty_fourth_least (negsuc n) c h = omega (arith, ints)

-- the least number whose 64 times is no less is the 64th part
pub sixty_fourth_from : (v c : ℤ) → v ≤ℤ (pos 64 *ℤ c) → ((d : ℤ) → v ≤ℤ (pos 64 *ℤ d) → c ≤ℤ d) → c ≡ sixty_fourth v
sixty_fourth_from v c h k = let a = sixty_fourth_least v c h in let b = k (sixty_fourth v) (sixty_fourth_reached v) in omega (arith, ints)

pub sixty_fourth_grows : (u v : ℤ) → u ≤ℤ v → sixty_fourth u ≤ℤ sixty_fourth v
sixty_fourth_grows u v h = let a = sixty_fourth_reached v in sixty_fourth_least u (sixty_fourth v) (omega (arith, ints))

pub sixty_fourth_of : (c : ℤ) → sixty_fourth (pos 64 *ℤ c) ≡ c
sixty_fourth_of c = let a = sixty_fourth_reached (pos 64 *ℤ c) in let b = sixty_fourth_least (pos 64 *ℤ c) c (omega (arith, ints)) in omega (arith, ints)

-- ---- the entries of a list of lots
entry_here : (i v : ℕ) (y : List Entry) → 0 < v → eighths_at (record { asset = i; eighths = 8 * v } ∷ y) i ≡ pos (8 * v)
entry_here i v y h = cond-true (eqb i i) (pos (8 * v)) (eighths_at y i) (eq-eqb i i refl)

entry_other : (i k v : ℕ) (y : List Entry) → (i ≡ k → ⊥) → eighths_at (record { asset = i; eighths = 8 * v } ∷ y) k ≡ eighths_at y k
entry_other i k v y n = cond-false (eqb i k) (pos (8 * v)) (eighths_at y k) (ne_eqb i k n)

-- no entry names an asset before the first
pub entries_before : (i : ℕ) (x : List ℕ) (k : ℕ) → k < i → eighths_at (entries_from i x) k ≡ pos 0
entries_before i [] k h = refl
entries_before i (v ∷ x) k h = before_by (cases_lt 0 v) (entries_before (suc i) x k (omega arith))
  where
    before_by : (0 < v) ⊎ (v ≤ 0) → eighths_at (entries_from (suc i) x) k ≡ pos 0 → eighths_at (entries_from i (v ∷ x)) k ≡ pos 0
    before_by (inl p) r = rw (cond-true (ltb 0 v) (record { asset = i; eighths = 8 * v } ∷ entries_from (suc i) x) (entries_from (suc i) x) (lt-ltb 0 v p)) (entry_other i k v (entries_from (suc i) x) (λ e. omega arith) ∙ r)
    before_by (inr p) r = let f : ltb 0 v ≡ false = grind (arith, nat_tests) in rw (cond-false (ltb 0 v) (record { asset = i; eighths = 8 * v } ∷ entries_from (suc i) x) (entries_from (suc i) x) f) r

-- each asset has 8 times its lots
pub entries_at : (i : ℕ) (x : List ℕ) (k : ℕ) → eighths_at (entries_from i x) (k + i) ≡ pos (8 * slice_index_or x k 0)
entries_at i [] k = refl
entries_at i (v ∷ x) zero = first_by (cases_lt 0 v)
  where
    first_by : (0 < v) ⊎ (v ≤ 0) → eighths_at (entries_from i (v ∷ x)) (0 + i) ≡ pos (8 * v)
    first_by (inl p) = let z : 0 + i ≡ i = omega arith in rw (cond-true (ltb 0 v) (record { asset = i; eighths = 8 * v } ∷ entries_from (suc i) x) (entries_from (suc i) x) (lt-ltb 0 v p), z) (entry_here i v (entries_from (suc i) x) p)
    first_by (inr p) = let f : ltb 0 v ≡ false = grind (arith, nat_tests) in let w : v ≡ 0 = omega arith in let z : 0 + i ≡ i = omega arith in rw (cond-false (ltb 0 v) (record { asset = i; eighths = 8 * v } ∷ entries_from (suc i) x) (entries_from (suc i) x) f, z, w) (entries_before (suc i) x i (omega arith))
entries_at i (v ∷ x) (suc k) = later_by (cases_lt 0 v) (entries_at (suc i) x k)
  where
    later_by : (0 < v) ⊎ (v ≤ 0) → eighths_at (entries_from (suc i) x) (k + suc i) ≡ pos (8 * slice_index_or x k 0) → eighths_at (entries_from i (v ∷ x)) (suc k + i) ≡ pos (8 * slice_index_or x k 0)
    later_by (inl p) r = let z : suc k + i ≡ k + suc i = omega arith in rw (cond-true (ltb 0 v) (record { asset = i; eighths = 8 * v } ∷ entries_from (suc i) x) (entries_from (suc i) x) (lt-ltb 0 v p), z) (entry_other i (k + suc i) v (entries_from (suc i) x) (λ e. omega arith) ∙ r)
    later_by (inr p) r = let f : ltb 0 v ≡ false = grind (arith, nat_tests) in let z : suc k + i ≡ k + suc i = omega arith in rw (cond-false (ltb 0 v) (record { asset = i; eighths = 8 * v } ∷ entries_from (suc i) x) (entries_from (suc i) x) f, z) r

pub entries_of_lots : (x : List ℕ) (k : ℕ) → eighths_at (entries_from 0 x) k ≡ pos 8 *ℤ lots_at x k
entries_of_lots x k = let e : k + 0 ≡ k = omega arith in (rw e at (entries_at 0 x k)) ∙ refl

ascend_lower : (i j n : ℕ) (y : List Entry) → i ≤ j → ascend j n y ≡ true → ascend i n y ≡ true
ascend_lower i j n [] h e = refl
ascend_lower i j n (d ∷ y) h e = let r = and_parts (leb j d.asset) (ltb d.asset n && (ltb 0 d.eighths && ascend (suc d.asset) n y)) e in and_from (leb i d.asset) _ (let q = leb-true j d.asset r.0 in le-leb i d.asset (omega arith)) r.1

-- they ascend, name assets that there are, and are positive
pub entries_ascend : (i n : ℕ) (x : List ℕ) → i + length x ≤ n → ascend i n (entries_from i x) ≡ true
entries_ascend i n [] h = refl
entries_ascend i n (v ∷ x) h = ascend_by (cases_lt 0 v) (entries_ascend (suc i) n x (omega arith))
  where
    ascend_by : (0 < v) ⊎ (v ≤ 0) → ascend (suc i) n (entries_from (suc i) x) ≡ true → ascend i n (entries_from i (v ∷ x)) ≡ true
    ascend_by (inl p) r = rw (cond-true (ltb 0 v) (record { asset = i; eighths = 8 * v } ∷ entries_from (suc i) x) (entries_from (suc i) x) (lt-ltb 0 v p)) (and_from (leb i i) _ (le-leb i i (omega arith)) (and_from (ltb i n) _ (lt-ltb i n (omega arith)) (and_from (ltb 0 (8 * v)) _ (lt-ltb 0 (8 * v) (omega arith)) r)))
    ascend_by (inr p) r = let f : ltb 0 v ≡ false = grind (arith, nat_tests) in rw (cond-false (ltb 0 v) (record { asset = i; eighths = 8 * v } ∷ entries_from (suc i) x) (entries_from (suc i) x) f) (ascend_lower i (suc i) n (entries_from (suc i) x) (omega arith) r)

-- together they are 8 times the sum of the lots
pub entries_sum : (i : ℕ) (x : List ℕ) → sum_by (λ (e : Entry). e.eighths) (entries_from i x) ≡ 8 * sum x
entries_sum i [] = refl
entries_sum i (v ∷ x) = sum_step (cases_lt 0 v) (entries_sum (suc i) x)
  where
    sum_step : (0 < v) ⊎ (v ≤ 0) → sum_by (λ (e : Entry). e.eighths) (entries_from (suc i) x) ≡ 8 * sum x → sum_by (λ (e : Entry). e.eighths) (entries_from i (v ∷ x)) ≡ 8 * sum (v ∷ x)
    sum_step (inl p) r = let s = sum_by-cons (λ (n : ℕ). n) v x in let t = sum_by-cons (λ (e : Entry). e.eighths) (record { asset = i; eighths = 8 * v }) (entries_from (suc i) x) in rw (cond-true (ltb 0 v) (record { asset = i; eighths = 8 * v } ∷ entries_from (suc i) x) (entries_from (suc i) x) (lt-ltb 0 v p)) (omega arith)
    sum_step (inr p) r = let s = sum_by-cons (λ (n : ℕ). n) v x in let f : ltb 0 v ≡ false = grind (arith, nat_tests) in rw (cond-false (ltb 0 v) (record { asset = i; eighths = 8 * v } ∷ entries_from (suc i) x) (entries_from (suc i) x) f) (omega arith)

-- ---- multipliers and entries in range, as tests and as facts
is_some_or : (o : Option ℕ) (tau : ℤ) → pos 0 ≤ℤ tau → (is_some o || int_le tau (pos 0)) ≡ true → o ≡ None → tau ≡ pos 0
is_some_or None tau h e n = let a : int_le tau (pos 0) ≡ true = e in let b : tau ≤ℤ pos 0 = grind (arith, ints) in omega (arith, ints)
is_some_or (Some t) tau h e n = cc

some_or_is : (o : Option ℕ) (tau : ℤ) → (o ≡ None → tau ≡ pos 0) → (is_some o || int_le tau (pos 0)) ≡ true
some_or_is None tau h = rw (h refl) refl
some_or_is (Some t) tau h = refl

pub multipliers_are : (o : Option ℕ) (alpha tau : ℤ) → are_multipliers o alpha tau ≡ true → AreMultipliers o alpha tau
multipliers_are o alpha tau e =
    let a = and_parts (leb (unsigned_abs alpha) 1000000000000000000000000000000) _ e in
    let b = and_parts (leb (unsigned_abs tau) 1000000000000000000000000000000) _ a.1 in
    let c = and_parts (int_le (pos 0) tau) (is_some o || int_le tau (pos 0)) b.1 in
    let t = tau_not_negative o alpha tau e in
    record { alpha_most = leb-true _ _ a.0; tau_least = t; tau_most = leb-true _ _ b.0; tau_unset = is_some_or o tau t c.1 }

not_negative_true : (tau : ℤ) → pos 0 ≤ℤ tau → int_le (pos 0) tau ≡ true
not_negative_true tau h = grind (arith, ints)

pub multipliers_from : (o : Option ℕ) (alpha tau : ℤ) → AreMultipliers o alpha tau → are_multipliers o alpha tau ≡ true
multipliers_from o alpha tau m =
    and_from (leb (unsigned_abs alpha) 1000000000000000000000000000000) _ (le-leb _ _ m.alpha_most)
    (and_from (leb (unsigned_abs tau) 1000000000000000000000000000000) _ (le-leb _ _ m.tau_most)
    (and_from (int_le (pos 0) tau) _ (not_negative_true tau m.tau_least) (some_or_is o tau m.tau_unset)))

same_entry : (d e : Entry) → Some d ≡ Some e → d ≡ e
same_entry d e p = cc

-- what an ascending list of entries says of its first one and of the others
first_ascends : (i n : ℕ) (e : Entry) (y : List Entry) → ascend i n (e ∷ y) ≡ true → (i ≤ e.asset) × (e.asset < n) × (0 < e.eighths) × (ascend (suc e.asset) n y ≡ true)
first_ascends i n e y h =
    let a = and_parts (leb i e.asset) _ h in
    let b = and_parts (ltb e.asset n) _ a.1 in
    let c = and_parts (ltb 0 e.eighths) (ascend (suc e.asset) n y) b.1 in
    (leb-true _ _ a.0, ltb-true _ _ b.0, ltb-true _ _ c.0, c.1)

each_ascends : (i n : ℕ) (y : List Entry) → ascend i n y ≡ true → (k : ℕ) (e : Entry) → slice_get y k ≡ Some e → (i ≤ e.asset) × (e.asset < n) × (0 < e.eighths)
each_ascends i n [] h k e p = cc
each_ascends i n (d ∷ y) h zero e p = let r = first_ascends i n d y h in let q : d ≡ e = same_entry d e p in subst (λ (z : Entry). (i ≤ z.asset) × (z.asset < n) × (0 < z.eighths)) q (r.0, r.1, r.2)
each_ascends i n (d ∷ y) h (suc k) e p = let r = first_ascends i n d y h in let q = each_ascends (suc d.asset) n y r.3 k e p in let a = r.0 in let b = q.0 in (omega arith, q.1, q.2)

rises : (i n : ℕ) (y : List Entry) → ascend i n y ≡ true → (j k : ℕ) (d e : Entry) → j < k → slice_get y j ≡ Some d → slice_get y k ≡ Some e → d.asset < e.asset
rises i n [] h j k d e l p q = cc
rises i n (c ∷ y) h zero zero d e l p q = absurd (omega arith)
rises i n (c ∷ y) h zero (suc k) d e l p q = let r = first_ascends i n c y h in let s = each_ascends (suc c.asset) n y r.3 k e q in let t : c ≡ d = same_entry c d p in let a = s.0 in subst (λ (z : Entry). z.asset < e.asset) t a
rises i n (c ∷ y) h (suc j) zero d e l p q = absurd (omega arith)
rises i n (c ∷ y) h (suc j) (suc k) d e l p q = let r = first_ascends i n c y h in rises (suc c.asset) n y r.3 j k d e (omega arith) p q

pub entries_are : (n : ℕ) (y : List Entry) → ascend 0 n y ≡ true → AreEntries n y
entries_are n y h = record {
  below = λ k e p. (each_ascends 0 n y h k e p).1;
  positive = λ k e p. (each_ascends 0 n y h k e p).2;
  rising = rises 0 n y h;
}

ascends_from : (i n : ℕ) (y : List Entry) → AreEntries n y → ((e : Entry) → slice_get y 0 ≡ Some e → i ≤ e.asset) → ascend i n y ≡ true
ascends_from i n [] h l = refl
ascends_from i n (d ∷ y) h l =
    and_from (leb i d.asset) _ (le-leb _ _ (l d refl))
    (and_from (ltb d.asset n) _ (lt-ltb _ _ (h.below 0 d refl))
    (and_from (ltb 0 d.eighths) _ (lt-ltb _ _ (h.positive 0 d refl))
    (ascends_from (suc d.asset) n y (record { below = λ k. h.below (suc k); positive = λ k. h.positive (suc k); rising = λ j k d e q. h.rising (suc j) (suc k) d e (omega arith) }) (λ e p. h.rising 0 1 d e (omega arith) refl p))))

pub entries_from_facts : (n : ℕ) (y : List Entry) → AreEntries n y → ascend 0 n y ≡ true
entries_from_facts n y h = ascends_from 0 n y h (λ e p. omega arith)
