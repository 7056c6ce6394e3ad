-- The sum of a tangent point: at most 8L eighths where some list that meets the count has at most L lots.
use Rattle.std.proofs.Common.{◌≡◌, ◌≢◌, ℕ, zero, suc, ◌+◌, ◌-◌, ◌*◌, ◌<◌, ◌≤◌, min, cond, Bool, true, false, not, ◌&&◌, ◌||◌, ltb, eqb, List, [], ◌∷◌, length, sum, slice_index_or, set, length-set, get_or-set_other, Option, Some, None, IsTrue, ◌⊎◌, inl, inr, refl, sym, ◌∙◌, subst, arith, add-one}
use Rattle.std.specs.Prelude.{int_le, unsigned_abs, ◌-ℤ◌, neg_ℤ}
use Rattle.std.proofs.lemmas.Bool.Decides.{nat_tests}
use Rattle.std.proofs.lemmas.List.Sums.{sum_by-cons, sum_by-set}
use Rattle.gap_box.specs.declared.cell.Cell.{Cell}
use Rattle.gap_box.specs.declared.cell.Cell.TheVariants.{Out, Held, Free}
use Rattle.gap_box.specs.Cells.{AreCells, in_cell}
use Rattle.gap_box.specs.Parts.{in_part, held_count, helds, frees, IsPick}
use Rattle.gap_box.proofs.CellLaws.{rest_are, first_is}
use Rattle.gap_box.proofs.CountLaws.{one_held, one_must, one_may, held_count-cons, helds-cons, frees-cons, both_true, cell_range, pick_range}
use Rattle.gap_model.specs.Settings.{Setting}
use Rattle.gap_model.specs.Leaves.{IsPoint}
use Rattle.gap_witness.specs.Places.{table}
use Rattle.gap_witness.specs.Points.{Choice, least_by, is_full, is_needed, lower_end, upper_end, clamped, left_after, balanced, first_point, gradient, giver, taker, curvature, room_between, step_of, step_between, is_idle, shifted_by, exchange, next_from, next, after, rounds, point, choice_of}
use Rattle.gap_witness.proofs.PlaceLaws.{found_some, below_is, length_table, sum_table_more, sum_table_none}

-- ---- sums of tables
sum_step : (n : ℕ) (f : ℕ → ℕ) → sum (table (suc n) f) ≡ sum (table n f) + f n
sum_step n f = rw (← add-one n) (sum_table_more n f)

sum_front : (n : ℕ) (f : ℕ → ℕ) → sum (table (suc n) f) ≡ f 0 + sum (table n (λ k. f (suc k)))
sum_front zero f = let a = sum_step 0 f in let b = sum_table_none f in let d = sum_table_none (λ k. f (suc k)) in omega arith
sum_front (suc n) f = let a = sum_step (suc n) f in let b = sum_front n f in let d = sum_step n (λ k. f (suc k)) in omega arith

sum_added : (n : ℕ) (f g h : ℕ → ℕ) → ((i : ℕ) → i < n → f i + g i ≡ h i) → sum (table n f) + sum (table n g) ≡ sum (table n h)
sum_added zero f g h e = let a = sum_table_none f in let b = sum_table_none g in let d = sum_table_none h in omega arith
sum_added (suc n) f g h e =
    let a = sum_step n f in
    let b = sum_step n g in
    let d = sum_step n h in
    let i = sum_added n f g h (λ k l. e k (omega arith)) in
    let l = e n (omega arith) in
    omega arith

-- an amount that is placed as far as each place has room
sum_placed : (n amount : ℕ) (room : ℕ → ℕ) → sum (table n (λ i. min (room i) (left_after amount room i))) ≡ min amount (sum (table n room))
sum_placed zero amount room = let a = sum_table_none (λ i. min (room i) (left_after amount room i)) in let b = sum_table_none room in omega arith
sum_placed (suc n) amount room =
    let a = sum_step n (λ i. min (room i) (left_after amount room i)) in
    let b = sum_step n room in
    let i = sum_placed n amount room in
    omega arith

-- ---- the ends of the ranges
abbrev leasts : Bool → Bool → List Cell → ℕ
leasts full needed [] = 0
leasts full needed (c ∷ cells) = least_by full needed c + leasts full needed cells

leasts_are : (full needed : Bool) (cells : List Cell) → sum (table (length cells) (λ i. 8 * least_by full needed (slice_index_or cells i Out))) ≡ 8 * leasts full needed cells
leasts_are full needed [] = sum_table_none (λ i. 8 * least_by full needed (slice_index_or [] i Out))
leasts_are full needed (c ∷ cells) =
    let a = sum_front (length cells) (λ i. 8 * least_by full needed (slice_index_or (c ∷ cells) i Out)) in
    let b = leasts_are full needed cells in
    omega arith

least_one : (full needed : Bool) (c : Cell) (v : ℕ) → in_cell c v ≡ true → (needed ≡ true → one_must c + one_may c ≤ one_held v) → least_by full needed c ≤ v
least_one full needed Out v e h = omega arith
least_one full needed (Held l u) v e h = grind (arith, nat_tests)
least_one true needed (Free l u) v e h = omega arith
least_one false false (Free l u) v e h = omega arith
least_one false true (Free l u) v e h = let m = h refl in grind (arith, nat_tests)

-- no list that meets the count has less than the least ends together
leasts_pick : (full needed : Bool) (cells : List Cell) (z : List ℕ) → AreCells cells → IsTrue (in_part cells z) → (needed ≡ true → helds cells + frees cells ≤ held_count z) → leasts full needed cells ≤ sum z
leasts_pick full needed [] z h e m = omega arith
leasts_pick full needed (c ∷ cells) [] h e m = cc
leasts_pick full needed (c ∷ cells) (v ∷ z) h e m =
    let b = both_true (in_cell c v) (in_part cells z) e in
    let one = cell_range c v (first_is c cells h) b.0 in
    let more = pick_range cells z (rest_are c cells h) b.1 in
    let e1 = held_count-cons v z in
    let e2 = helds-cons c cells in
    let e3 = frees-cons c cells in
    let e4 = sum_by-cons (λ (n : ℕ). n) v z in
    let first = least_one full needed c v b.0 (λ t. let q = m t in omega arith) in
    let rest = leasts_pick full needed cells z (rest_are c cells h) b.1 (λ t. let q = m t in omega arith) in
    omega arith

needed_is : (a b : ℕ) → eqb a b ≡ true → a ≡ b
needed_is a b e = grind (arith, nat_tests)

lowers_below : (c : Choice) (z : List ℕ) → AreCells c.cells → IsPick c.cells c.fewest c.most z → sum (table (length c.cells) (lower_end c)) ≤ 8 * sum z
lowers_below c z h p =
    let few = p.few in
    let a = leasts_pick (is_full c) (is_needed c) c.cells z h p.inside (λ t. let q = needed_is (helds c.cells + frees c.cells) c.fewest t in omega arith) in
    let b = leasts_are (is_full c) (is_needed c) c.cells in
    omega arith

-- ---- the point from which the rounds begin
under : (c : Choice) (n budget total sv : ℕ) (v room below : ℕ → ℕ) → sv ≡ sum (table n v) → sv ≤ budget → sum (table n (λ i. (v i + min (room i) (left_after (budget - sv) room i)) - min (below i) (left_after (sv - budget) below i))) ≤ budget
under c n budget total sv v room below e h =
    let a = sum_placed n (budget - sv) room in
    let b = sum_added n v (λ i. min (room i) (left_after (budget - sv) room i)) (λ i. (v i + min (room i) (left_after (budget - sv) room i)) - min (below i) (left_after (sv - budget) below i)) (λ i l. omega arith) in
    omega arith

over_it : (n budget sv sl : ℕ) (v low room below : ℕ → ℕ) → sv ≡ sum (table n v) → sl ≡ sum (table n low) → sl ≤ budget → budget ≤ sv → ((i : ℕ) → below i + low i ≡ v i) → sum (table n (λ i. (v i + min (room i) (left_after (budget - sv) room i)) - min (below i) (left_after (sv - budget) below i))) ≤ budget
over_it n budget sv sl v low room below e f h k m =
    let a = sum_placed n (sv - budget) below in
    let b = sum_added n below low v (λ i l. m i) in
    let d = sum_added n (λ i. (v i + min (room i) (left_after (budget - sv) room i)) - min (below i) (left_after (sv - budget) below i)) (λ i. min (below i) (left_after (sv - budget) below i)) v (λ i l. let q = m i in omega arith) in
    omega arith

which : (a b : ℕ) → (a ≤ b) ⊎ (b ≤ a)
which zero b = inl (omega arith)
which (suc a) zero = inr (omega arith)
which (suc a) (suc b) = on (which a b)
  where
    on : (a ≤ b) ⊎ (b ≤ a) → (suc a ≤ suc b) ⊎ (suc b ≤ suc a)
    on (inl h) = inl (omega arith)
    on (inr h) = inr (omega arith)

balanced_below : (c : Choice) (budget : ℕ) (v : ℕ → ℕ) → ((i : ℕ) → lower_end c i ≤ v i) → sum (table (length c.cells) (lower_end c)) ≤ budget → sum (table (length c.cells) (balanced c budget v)) ≤ budget
balanced_below c budget v low h = by_sum (which (sum (table (length c.cells) v)) budget)
  where
    by_sum : (sum (table (length c.cells) v) ≤ budget) ⊎ (budget ≤ sum (table (length c.cells) v)) → sum (table (length c.cells) (balanced c budget v)) ≤ budget
    by_sum (inl k) = under c (length c.cells) budget 0 (sum (table (length c.cells) v)) v (λ k. upper_end c k - v k) (λ k. v k - lower_end c k) refl k
    by_sum (inr k) = over_it (length c.cells) budget (sum (table (length c.cells) v)) (sum (table (length c.cells) (lower_end c))) v (lower_end c) (λ k. upper_end c k - v k) (λ k. v k - lower_end c k) refl refl h k (λ i. let l = low i in omega arith)

first_below : (s : Setting) (c : Choice) (hint : List ℕ) → sum (table (length c.cells) (lower_end c)) ≤ 8 * s.instance.lots → sum (first_point s c hint) ≤ 8 * s.instance.lots
unfolding first_point
first_below s c hint h = balanced_below c (8 * s.instance.lots) (clamped c hint) (λ i. omega arith) h

first_length : (s : Setting) (c : Choice) (hint : List ℕ) → length (first_point s c hint) ≡ length c.cells
unfolding first_point
first_length s c hint = length_table (length c.cells) (balanced c (8 * s.instance.lots) (clamped c hint))

-- ---- rounds keep the sum
pub sum-shifted : (y : List ℕ) (t i j : ℕ) → i < length y → j < length y → i ≢ j → t ≤ slice_index_or y i 0 → sum (shifted_by y t i j) ≡ sum y
sum-shifted y t i j p q n h =
    let a = sum_by-set (λ (k : ℕ). k) y i (slice_index_or y i 0 - t) 0 p in
    let l = length-set y i (slice_index_or y i 0 - t) in
    let b = sum_by-set (λ (k : ℕ). k) (set y i (slice_index_or y i 0 - t)) j (slice_index_or y j 0 + t) 0 (omega arith) in
    let o = other y i j (slice_index_or y i 0 - t) n in
    omega arith
  where
    other : (y : List ℕ) (i j w : ℕ) → i ≢ j → slice_index_or (set y i w) j 0 ≡ slice_index_or y j 0
    other y i j w n = get_or-set_other y i j w 0 (λ e. n (sym e))

-- what is known of a list that keeps the count of places and the sum
pub record IsKeeping (n budget : ℕ) (y : List ℕ) : Type 0 where
  pub count : length y ≡ n
  pub total : sum y ≡ budget

some_same : (y z : List ℕ) → (let A : Type 0 = Option (List ℕ) in ◌≡◌ {A = A} (Some y) (Some z)) → y ≡ z
some_same y z e = cc

none_some : {P : Type 0} (z : List ℕ) → (let A : Type 0 = Option (List ℕ) in ◌≡◌ {A = A} None (Some z)) → P
none_some z e = cc

step_most : (room gap curve : ℕ) → 1 ≤ room → step_of room gap curve ≤ room
step_most room gap curve h = grind (arith, nat_tests)

pub apart : (i j : ℕ) → not (eqb j i) ≡ true → i ≢ j
apart i j e = grind (arith, nat_tests)

exchange_keeps : (s : Setting) (c : Choice) (y z : List ℕ) (i j : ℕ) → length y ≡ length c.cells → i < length c.cells → lower_end c i < slice_index_or y i 0 → taker s c y i ≡ Some j → exchange s c y i (Some j) ≡ Some z → IsKeeping (length y) (sum y) z
exchange_keeps s c y z i j n l g f e =
    let w = found_some (length c.cells) (λ j. not (eqb j i) && ltb (slice_index_or y j 0) (upper_end c j)) (λ j. neg_ℤ (gradient s c y j)) j f in
    let b = both_true (not (eqb j i)) (ltb (slice_index_or y j 0) (upper_end c j)) w.allowed in
    let room = below_is (slice_index_or y j 0) (upper_end c j) b.1 in
    let m = step_most (room_between c y i j) (unsigned_abs (gradient s c y i -ℤ gradient s c y j)) (unsigned_abs (curvature s i j)) (omega arith) in
    by_test (int_le (gradient s c y i) (gradient s c y j) || is_idle s c y i j) (step_between s c y i j) (omega arith) (let k = w.below in omega arith) (apart i j b.0) (omega arith) e
  where
    by_test : (b : Bool) (t : ℕ) → i < length y → j < length y → i ≢ j → t ≤ slice_index_or y i 0 → cond b None (Some (shifted_by y t i j)) ≡ Some z → IsKeeping (length y) (sum y) z
    by_test true t p q d h e = none_some z e
    by_test false t p q d h e =
        subst (λ (x : List ℕ). IsKeeping (length y) (sum y) x) (some_same (shifted_by y t i j) z e)
        (record { count = let a = length-set y i (slice_index_or y i 0 - t) in let b = length-set (set y i (slice_index_or y i 0 - t)) j (slice_index_or y j 0 + t) in omega arith; total = sum-shifted y t i j p q d h })

from_keeps : (s : Setting) (c : Choice) (y z : List ℕ) (i : ℕ) (o : Option ℕ) → length y ≡ length c.cells → i < length c.cells → lower_end c i < slice_index_or y i 0 → taker s c y i ≡ o → exchange s c y i o ≡ Some z → IsKeeping (length y) (sum y) z
from_keeps s c y z i None n l g f e = none_some z e
from_keeps s c y z i (Some j) n l g f e = exchange_keeps s c y z i j n l g f e

next_from_keeps : (s : Setting) (c : Choice) (y z : List ℕ) (o : Option ℕ) → length y ≡ length c.cells → giver s c y ≡ o → next_from s c y o ≡ Some z → IsKeeping (length y) (sum y) z
next_from_keeps s c y z None n f e = none_some z e
next_from_keeps s c y z (Some i) n f e =
    let w = found_some (length c.cells) (λ i. ltb (lower_end c i) (slice_index_or y i 0)) (gradient s c y) i f in
    from_keeps s c y z i (taker s c y i) n w.below (below_is (lower_end c i) (slice_index_or y i 0) w.allowed) refl e

pub next_keeps : (s : Setting) (c : Choice) (y z : List ℕ) → length y ≡ length c.cells → next s c y ≡ Some z → IsKeeping (length y) (sum y) z
next_keeps s c y z n e = next_from_keeps s c y z (giver s c y) n refl e

after_keeps : (s : Setting) (c : Choice) (y : List ℕ) (go : List ℕ → List ℕ) (o : Option (List ℕ)) → length y ≡ length c.cells → next s c y ≡ o → ((z : List ℕ) → length z ≡ length c.cells → IsKeeping (length z) (sum z) (go z)) → IsKeeping (length y) (sum y) (after o y go)
after_keeps s c y go None n e h = record { count = refl; total = refl }
after_keeps s c y go (Some z) n e h =
    let a = next_keeps s c y z n e in
    let b = h z (a.count ∙ n) in
    record { count = b.count ∙ a.count; total = b.total ∙ a.total }

rounds_keep : (k : ℕ) (s : Setting) (c : Choice) (y : List ℕ) → length y ≡ length c.cells → IsKeeping (length y) (sum y) (rounds k (next s c) y)
unfolding rounds
rounds_keep zero s c y n = record { count = refl; total = refl }
rounds_keep (suc k) s c y n = after_keeps s c y (rounds k (next s c)) (next s c y) n refl (λ z m. rounds_keep k s c z m)

-- the first point is in range where some list that meets the count has at most L lots
pub first_in_range : (s : Setting) (part : List Cell) (hint z : List ℕ) → length part ≡ s.instance.market.assets → AreCells part → IsPick part s.instance.held s.instance.held_most z → sum z ≤ s.instance.lots → IsPoint s.instance (first_point s (choice_of s part) hint)
first_in_range s part hint z n h p m =
    let c = choice_of s part in
    let low = lowers_below c z h p in
    let first = first_below s c hint (omega arith) in
    record { count = first_length s c hint ∙ n; most = first }

-- a tangent point is in range where some list that meets the count has at most L lots
pub point_in_range : (s : Setting) (part : List Cell) (hint z : List ℕ) → length part ≡ s.instance.market.assets → AreCells part → IsPick part s.instance.held s.instance.held_most z → sum z ≤ s.instance.lots → IsPoint s.instance (point s (choice_of s part) hint)
unfolding point
point_in_range s part hint z n h p m =
    let c = choice_of s part in
    let low = lowers_below c z h p in
    let first = first_below s c hint (omega arith) in
    let l = first_length s c hint in
    let r = rounds_keep (8 * length part) s c (first_point s c hint) l in
    let rc = r.count in
    let rt = r.total in
    record { count = omega arith; most = omega arith }
