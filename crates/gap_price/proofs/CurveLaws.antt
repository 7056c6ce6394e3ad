-- The cheapest offers of a part's cells and a least way to hold them give the least cost of its lists.

use Rattle.std.proofs.Common.{◌≡◌, ℕ, zero, suc, ◌*◌, ◌<◌, ◌≤◌, Bool, true, false, ◌&&◌, ◌||◌, ltb, leb, eqb, if◌then◌else◌, List, [], ◌∷◌, length, slice_index_or, ℤ, ◌+ℤ◌, ◌*ℤ◌, ◌≤ℤ◌, unsigned_abs, refl, sym, ap, ◌∙◌, subst, ◌⊎◌, inl, inr, arith}
use Rattle.std.proofs.lemmas.Int.{ints}
use Rattle.std.proofs.lemmas.Bool.Decides.{nat_tests}
use Rattle.std.proofs.lemmas.Bool.{and_parts, and_from, eqb-true, le-leb, leb-true, lt-ltb, or_cases, cond-true}
use Rattle.gap_base.specs.Sums.{sum_below, count_if}
use Rattle.gap_base.specs.Lots.{lots_at}
use Rattle.gap_base.proofs.SumLaws.{sum_le, sum_same, sum-add, sum-scale, unsigned_abs-sum}
use Rattle.gap_base.proofs.Counts.{count_same}
use Rattle.gap_base.proofs.Lists.{count_places}
use Rattle.gap_box.specs.declared.cell.Cell.{Cell}
use Rattle.gap_box.specs.declared.cell.Cell.TheVariants.{Out, Held, Free}
use Rattle.gap_box.specs.Cells.{IsCell, AreCells, in_cell}
use Rattle.gap_box.specs.Parts.{held_count, in_part, IsPick}
use Rattle.gap_model.proofs.LimitLaws.{in_part_from, in_part_length, in_part_at}
use Rattle.gap_relax.specs.Choices.{allows, cell_at, IsChoice, total, IsLeastWay}
use Rattle.gap_price.specs.Curves.{CurveValue, cost_of, weight_of, costs_of, weights_of, IsLeastAt}
use Rattle.gap_price.specs.Offers.{priced_of, weighed_of}

-- ---- one cell: an offer is that of a number of its lots, and no number of them costs less
pub record IsBest (g w : ℕ → ℤ) (l u : ℕ) (value weight : ℤ) : Type 0 where
  pub reached : (v : ℕ) × (l ≤ v) × (v ≤ u) × (g v ≡ value) × (w v ≡ weight)
  pub below : (v : ℕ) → l ≤ v → v ≤ u → value ≤ℤ g v

abbrev pub IsBestOf : Cell → (ℕ → ℤ) → (ℕ → ℤ) → ℤ → ℤ → Type 0
IsBestOf Out g w value weight = Unit {0}
IsBestOf (Held l u) g w value weight = IsBest g w l u value weight
IsBestOf (Free l u) g w value weight = IsBest g w l u value weight

held_choice : (h o : ℤ) (v : ℕ) → (if ltb 0 (suc v) then h else o) ≡ h
held_choice h o v = cond-true (ltb 0 (suc v)) h o (lt-ltb 0 (suc v) (omega arith))

free_held : (l u v : ℕ) → (eqb (suc v) 0 || (leb l (suc v) && leb (suc v) u)) ≡ true → (leb l (suc v) && leb (suc v) u) ≡ true
free_held l u v e = held_by (or_cases (eqb (suc v) 0) (leb l (suc v) && leb (suc v) u) e)
  where
    held_by : (eqb (suc v) 0 ≡ true) ⊎ ((leb l (suc v) && leb (suc v) u) ≡ true) → (leb l (suc v) && leb (suc v) u) ≡ true
    held_by (inl f) = let z = eqb-true (suc v) 0 f in absurd (omega arith)
    held_by (inr f) = f

-- the cost of a number that the cell allows isn't below that of holding or of not holding
one_below : (cell : Cell) (g w : ℕ → ℤ) (value weight : ℤ) (v : ℕ) → IsCell cell → IsBestOf cell g w value weight → in_cell cell v ≡ true → (if ltb 0 v then value else g 0) ≤ℤ g v
one_below cell g w value weight zero c p e = omega (arith, ints)
one_below Out g w value weight (suc v) c p e = let z : suc v ≡ 0 = eqb-true (suc v) 0 e in absurd (omega arith)
one_below (Held l u) g w value weight (suc v) c p e = let r = and_parts (leb l (suc v)) (leb (suc v) u) e in rw (held_choice value (g 0) v) (p.below (suc v) (leb-true l (suc v) r.0) (leb-true (suc v) u r.1))
one_below (Free l u) g w value weight (suc v) c p e = let r = and_parts (leb l (suc v)) (leb (suc v) u) (free_held l u v e) in rw (held_choice value (g 0) v) (p.below (suc v) (leb-true l (suc v) r.0) (leb-true (suc v) u r.1))

-- and each such choice is allowed
one_allowed : (cell : Cell) (v : ℕ) → IsCell cell → in_cell cell v ≡ true → allows cell (ltb 0 v) ≡ true
one_allowed Out v c e = grind (arith, nat_tests)
one_allowed (Held l u) v c e = let a = c.0 in let r = and_parts (leb l v) (leb v u) e in let b = leb-true l v r.0 in lt-ltb 0 v (omega arith)
one_allowed (Free l u) v c e = refl

-- each allowed choice is that of a number of lots with its cost and its weight
abbrev IsLotsFor : Cell → (ℕ → ℤ) → (ℕ → ℤ) → ℤ → ℤ → Bool → ℕ → Type 0
IsLotsFor cell g w cost slope held v = (in_cell cell v ≡ true) × (ltb 0 v ≡ held) × (g v ≡ cost) × (w v ≡ slope)

range_in : (l u v : ℕ) → l ≤ v → v ≤ u → (leb l v && leb v u) ≡ true
range_in l u v h k = and_from (leb l v) (leb v u) (le-leb l v h) (le-leb v u k)

free_in : (l u v : ℕ) → l ≤ v → v ≤ u → (eqb v 0 || (leb l v && leb v u)) ≡ true
free_in l u v h k = let r = range_in l u v h k in grind (arith, nat_tests)

lots_for : (cell : Cell) (g w : ℕ → ℤ) (value weight : ℤ) (held : Bool) → IsCell cell → IsBestOf cell g w value weight → allows cell held ≡ true → (v : ℕ) × IsLotsFor cell g w (if held then value else g 0) (if held then weight else w 0) held v
lots_for Out g w value weight true c p a = cc
lots_for Out g w value weight false c p a = (0, (refl, refl, refl, refl))
lots_for (Held l u) g w value weight true c p a = let r = p.reached in let q = c.0 in let b = r.1 in (r.0, (range_in l u r.0 r.1 r.2, lt-ltb 0 r.0 (omega arith), r.3, r.4))
lots_for (Held l u) g w value weight false c p a = cc
lots_for (Free l u) g w value weight true c p a = let r = p.reached in let q = c.0 in let b = r.1 in (r.0, (free_in l u r.0 r.1 r.2, lt-ltb 0 r.0 (omega arith), r.3, r.4))
lots_for (Free l u) g w value weight false c p a = (0, (refl, refl, refl, refl))

-- ---- lists of what each place has
pub list_for : (n : ℕ) (P : ℕ → ℕ → Type 0) → ((i : ℕ) → i < n → (v : ℕ) × P i v) → (x : List ℕ) × (length x ≡ n) × ((i : ℕ) → i < n → P i (slice_index_or x i 0))
list_for zero P h = ([], refl, λ i l. absurd (omega arith))
list_for (suc n) P h =
    let a = h 0 (omega arith) in
    let r = list_for n (λ i v. P (suc i) v) (λ i l. h (suc i) (omega arith)) in
    (a.0 ∷ r.0, ap suc r.1, places P a.0 r.0 n a.1 r.2)
  where
    places : (P : ℕ → ℕ → Type 0) (a : ℕ) (x : List ℕ) (n : ℕ) → P 0 a → ((i : ℕ) → i < n → P (suc i) (slice_index_or x i 0)) → (i : ℕ) → i < suc n → P i (slice_index_or (a ∷ x) i 0)
    places P a x n p q zero l = p
    places P a x n p q (suc i) l = q i (omega arith)

held_places : (cells : List Cell) (x : List ℕ) → length cells ≡ length x → held_count x ≡ count_if (length cells) (λ i. ltb 0 (slice_index_or x i 0))
held_places cells x e = count_places (λ v. ltb 0 v) x ∙ ap (λ n. count_if n (λ i. ltb 0 (slice_index_or x i 0))) (sym e)

-- ---- the whole part
pub costs_are : (c : CurveValue) (x : List ℕ) → costs_of c x ≡ sum_below (length c.cells) (λ i. cost_of c.costs i (lots_at x i))
unfolding costs_of
costs_are c x = refl

pub weights_are : (c : CurveValue) (x : List ℕ) → weights_of c x ≡ sum_below (length c.cells) (λ i. weight_of c.varied (lots_at c.costs.present i) (lots_at x i))
unfolding weights_of
weights_are c x = refl

-- the cost of a list under the multiplier is the sum of those of its places
pub priced_are : (c : CurveValue) (m : ℤ) (x : List ℕ) → costs_of c x +ℤ m *ℤ weights_of c x ≡ sum_below (length c.cells) (λ i. priced_of c m i (slice_index_or x i 0))
priced_are c m x =
    let n = length c.cells in
    let a = sum-add n (λ i. cost_of c.costs i (lots_at x i)) (λ i. m *ℤ weight_of c.varied (lots_at c.costs.present i) (lots_at x i)) in
    let b = sum-scale n m (λ i. weight_of c.varied (lots_at c.costs.present i) (lots_at x i)) in
    ap (λ z. z +ℤ m *ℤ weights_of c x) (costs_are c x) ∙ ap (λ z. sum_below n (λ i. cost_of c.costs i (lots_at x i)) +ℤ m *ℤ z) (weights_are c x) ∙ ap (λ z. sum_below n (λ i. cost_of c.costs i (lots_at x i)) +ℤ z) (sym b) ∙ sym a

-- a least way to hold the cells, each at its best, is the least cost of the lists
pub least_of_ways : (c : CurveValue) (m : ℤ) (hv ov hw ow : ℕ → ℤ) (value slope : ℤ) → AreCells c.cells → ((i : ℕ) → i < length c.cells → IsBestOf (cell_at c.cells i) (priced_of c m i) (weighed_of c i) (hv i) (hw i)) → ((i : ℕ) → i < length c.cells → ov i ≡ priced_of c m i 0) → ((i : ℕ) → i < length c.cells → ow i ≡ weighed_of c i 0) → IsLeastWay c.cells hv ov hw ow c.fewest c.most value slope → IsLeastAt c m value slope
least_of_ways c m hv ov hw ow value slope valid best out flat least = record { reached = reached_by least.reached.0 least.reached.1 least.reached.2 least.reached.3; below = below_by }
  where
    chained : (v t s b d : ℤ) → v ≤ℤ t → t ≡ s → s ≤ℤ b → d ≡ b → v ≤ℤ d
    chained v t s b d h e k f = omega (arith, ints)

    below_by : (x : List ℕ) → IsPick c.cells c.fewest c.most x → value ≤ℤ (costs_of c x +ℤ m *ℤ weights_of c x)
    below_by x p =
        let n = length c.cells in
        let e = in_part_length c.cells x p.inside in
        let each : (i : ℕ) → i < n → in_cell (cell_at c.cells i) (slice_index_or x i 0) ≡ true = λ i l. in_part_at c.cells x p.inside i (omega arith) in
        let z = λ (i : ℕ). ltb 0 (slice_index_or x i 0) in
        let k = held_places c.cells x e in
        let choice : IsChoice c.cells c.fewest c.most z = record { allowed = λ i l. one_allowed (cell_at c.cells i) (slice_index_or x i 0) (valid.each i) (each i l); few = let f = p.few in omega arith; many = let f = p.many in omega arith } in
        let a = least.below z choice in
        let s = sum_same n (λ i. if z i then hv i else ov i) (λ i. if z i then hv i else priced_of c m i 0) (λ i l. ap (λ y. if z i then hv i else y) (out i l)) in
        let b = sum_le n (λ i. if z i then hv i else priced_of c m i 0) (λ i. priced_of c m i (slice_index_or x i 0)) (λ i l. one_below (cell_at c.cells i) (priced_of c m i) (weighed_of c i) (hv i) (hw i) (slice_index_or x i 0) (valid.each i) (best i l) (each i l)) in
        let d = priced_are c m x in
        chained _ _ _ _ _ a s b d

    reached_by : (z : ℕ → Bool) → IsChoice c.cells c.fewest c.most z → total (length c.cells) hv ov z ≡ value → total (length c.cells) hw ow z ≡ slope → (x : List ℕ) × IsPick c.cells c.fewest c.most x × ((costs_of c x +ℤ m *ℤ weights_of c x) ≡ value) × (weights_of c x ≡ slope)
    reached_by z choice e f =
        let n = length c.cells in
        let g = λ (i : ℕ). priced_of c m i in
        let w = λ (i : ℕ). weighed_of c i in
        let r = list_for n (λ i v. IsLotsFor (cell_at c.cells i) (g i) (w i) (if z i then hv i else g i 0) (if z i then hw i else w i 0) (z i) v) (λ i l. lots_for (cell_at c.cells i) (g i) (w i) (hv i) (hw i) (z i) (valid.each i) (best i l) (choice.allowed i l)) in
        let q = r.1 in
        let inside = in_part_from c.cells r.0 (sym q) (λ i l. (r.2 i (omega arith)).0) in
        let count = held_places c.cells r.0 (sym q) ∙ count_same n (λ i. ltb 0 (slice_index_or r.0 i 0)) z (λ i l. (r.2 i l).1) in
        let value_is = priced_are c m r.0 ∙ sum_same n (λ i. g i (slice_index_or r.0 i 0)) (λ i. if z i then hv i else ov i) (λ i l. (r.2 i l).2 ∙ ap (λ y. if z i then hv i else y) (sym (out i l))) ∙ e in
        let slope_is = weights_are c r.0 ∙ sum_same n (λ i. w i (slice_index_or r.0 i 0)) (λ i. if z i then hw i else ow i) (λ i l. (r.2 i l).3 ∙ ap (λ y. if z i then hw i else y) (sym (flat i l))) ∙ f in
        (r.0, record { inside = inside; few = let h = choice.few in omega arith; many = let h = choice.many in omega arith }, value_is, slope_is)

-- ---- sizes
lots_most : (cell : Cell) (v : ℕ) → IsCell cell → in_cell cell v ≡ true → v ≤ 10000
lots_most Out v c e = let z = eqb-true v 0 e in omega arith
lots_most (Held l u) v c e = let r = and_parts (leb l v) (leb v u) e in let h = leb-true v u r.1 in let k = c.2 in omega arith
lots_most (Free l u) zero c e = omega arith
lots_most (Free l u) (suc v) c e = let r = and_parts (leb l (suc v)) (leb (suc v) u) (free_held l u v e) in let h = leb-true (suc v) u r.1 in let k = c.2 in omega arith

-- each number of a part's list is at most 10000
pub part_most : (cells : List Cell) (x : List ℕ) → AreCells cells → in_part cells x ≡ true → (i : ℕ) → i < length cells → slice_index_or x i 0 ≤ 10000
part_most cells x valid p i l = let e = in_part_length cells x p in lots_most (cell_at cells i) (slice_index_or x i 0) (valid.each i) (in_part_at cells x p i (omega arith))

-- the least has the size of the costs together
pub value_within : (c : CurveValue) (m value slope : ℤ) (b : ℕ) → AreCells c.cells → ((i v : ℕ) → i < length c.cells → v ≤ 10000 → unsigned_abs (priced_of c m i v) ≤ b) → IsLeastAt c m value slope → unsigned_abs value ≤ length c.cells * b
value_within c m value slope b valid h least =
    let x = least.reached.0 in
    let a = unsigned_abs-sum (length c.cells) (λ i. priced_of c m i (slice_index_or x i 0)) b (λ i l. h i (slice_index_or x i 0) l (part_most c.cells x valid least.reached.1.inside i l)) in
    subst (λ (z : ℤ). unsigned_abs z ≤ length c.cells * b) (sym (priced_are c m x) ∙ least.reached.2) a

pub slope_within : (c : CurveValue) (m value slope : ℤ) (b : ℕ) → AreCells c.cells → ((i v : ℕ) → i < length c.cells → v ≤ 10000 → unsigned_abs (weighed_of c i v) ≤ b) → IsLeastAt c m value slope → unsigned_abs slope ≤ length c.cells * b
slope_within c m value slope b valid h least =
    let x = least.reached.0 in
    let a = unsigned_abs-sum (length c.cells) (λ i. weighed_of c i (slice_index_or x i 0)) b (λ i l. h i (slice_index_or x i 0) l (part_most c.cells x valid least.reached.1.inside i l)) in
    subst (λ (z : ℤ). unsigned_abs z ≤ length c.cells * b) (sym (weights_are c x) ∙ least.reached.3) a
