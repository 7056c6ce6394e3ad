-- Laws of the list to which a point is rounded, and of how its assets are chosen.
use Rattle.std.proofs.Common.{◌≡◌, ◌≢◌, ℕ, ◌+◌, ◌<◌, ◌≤◌, ◌==◌, ◌&&◌, ◌||◌, Bool, true, false, not, cond, nat_lt, List, length, slice_index_or, slice_set, replicate, Option, None, Some, ◌⊎◌, inl, inr, if◌then◌else◌, refl, sym, ap, ◌∙◌, subst, arith, length-set, get_or-set_same, get_or-set_other}
use Rattle.std.proofs.lemmas.Bool.{cases_lt, cases_eq}
use Rattle.std.proofs.lemmas.Bool.Decides.{nat_tests}
use Rattle.std.proofs.lemmas.List.{get_or-replicate, length-replicate, get_or_past}
use Rattle.gap_base.specs.Sums.{count_if}
use Rattle.gap_base.proofs.Counts.{count_split, count_same, count_implied, count_nowhere}
use Rattle.gap_base.proofs.Ring.{if_same, if_other}
use Rattle.gap_box.specs.declared.cell.Cell.{Cell}
use Rattle.gap_box.specs.declared.cell.Cell.TheVariants.{Out}
use Rattle.gap_box.specs.Cells.{is_held, is_free}
use Rattle.gap_box.specs.Parts.{helds}
use Rattle.gap_instance.specs.Instances.{InstanceValue, IsInstance}
use Rattle.gap_instance.specs.Selections.{is_marked}
use Rattle.gap_instance.proofs.OrderLaws.{same_list}
use Rattle.gap_start.specs.Choices.{is_left, IsNext, IsNextSoFar, AreChosenSoFar, AreMusts}
use Rattle.gap_start.specs.Roundings.{has_more, free_before, is_wanted, is_chosen, AreChosen, IsRoundedDown, IsRounding}
use Rattle.gap_start.specs.Fills.{IsBroughtToSum}
use Rattle.gap_start.proofs.FillLaws.{sums_same}

-- ---- having more eighths, or as many as the lower asset, is an order
more_of : (a b i j : ℕ) → b < a → (nat_lt b a || (a == b && nat_lt i j)) ≡ true
more_of a b i j h = grind (arith, nat_tests)

as_many : (a b i j : ℕ) → b ≤ a → i < j → (nat_lt b a || (a == b && nat_lt i j)) ≡ true
as_many a b i j h l = grind (arith, nat_tests)

no_fewer : (a b i j : ℕ) → (nat_lt b a || (a == b && nat_lt i j)) ≡ true → b ≤ a
no_fewer a b i j h = grind (arith, nat_tests)

one_way : (a b i j : ℕ) → (nat_lt b a || (a == b && nat_lt i j)) ≡ true → (nat_lt a b || (b == a && nat_lt j i)) ≡ false
one_way a b i j h = grind (arith, nat_tests)

not_itself : (a i : ℕ) → (nat_lt a a || (a == a && nat_lt i i)) ≡ false
not_itself a i = grind (arith, nat_tests)

-- ---- the next one
below_more : (P : ℕ → Type 0) (n : ℕ) → ((j : ℕ) → j < n → P j) → P n → (j : ℕ) → j < n + 1 → P j
below_more P n before here j h = by_place (cases_eq j n)
  where
    by_place : (j ≡ n) ⊎ (j ≡ n → ⊥) → P j
    by_place (inl e) = subst P (sym e) here
    by_place (inr m) = before j (omega (arith, m))

pub next_none : (cells : List Cell) (marks y : List ℕ) → IsNextSoFar cells marks y 0 None
next_none cells marks y = λ i h. absurd (omega arith)

pub next_skipped : (cells : List Cell) (marks y : List ℕ) (n : ℕ) (best : Option ℕ) → IsNextSoFar cells marks y n best → is_left cells marks n ≡ false → IsNextSoFar cells marks y (n + 1) best
next_skipped cells marks y n None none gone = below_more (λ i. is_left cells marks i ≡ true → ⊥) n none (λ left. let e : true ≡ false = sym left ∙ gone in cc)
next_skipped cells marks y n (Some i) best gone = record {
  inside = let a = best.inside in omega arith;
  left = best.left;
  before = below_more (λ j. is_left cells marks j ≡ true → j ≢ i → has_more y i j ≡ true) n best.before (λ left. let e : true ≡ false = sym left ∙ gone in cc);
}

pub next_first : (cells : List Cell) (marks y : List ℕ) (n : ℕ) → IsNextSoFar cells marks y n None → is_left cells marks n ≡ true → IsNextSoFar cells marks y (n + 1) (Some n)
next_first cells marks y n none left = record {
  inside = omega arith;
  left = left;
  before = below_more (λ j. is_left cells marks j ≡ true → j ≢ n → has_more y n j ≡ true) n (λ j h is. absurd (none j h is)) (λ is m. absurd (m refl));
}

pub next_more : (cells : List Cell) (marks y : List ℕ) (n b : ℕ) → IsNextSoFar cells marks y n (Some b) → is_left cells marks n ≡ true → slice_index_or y b 0 < slice_index_or y n 0 → IsNextSoFar cells marks y (n + 1) (Some n)
next_more cells marks y n b best left more = record {
  inside = omega arith;
  left = left;
  before = below_more (λ j. is_left cells marks j ≡ true → j ≢ n → has_more y n j ≡ true) n (λ j h is m. by_best j h is (cases_eq j b)) (λ is m. absurd (m refl));
}
  where
    by_best : (j : ℕ) → j < n → is_left cells marks j ≡ true → (j ≡ b) ⊎ (j ≡ b → ⊥) → has_more y n j ≡ true
    by_best j h is (inl e) = let le : slice_index_or y j 0 ≡ slice_index_or y b 0 = ap (λ (k : ℕ). slice_index_or y k 0) e in more_of (slice_index_or y n 0) (slice_index_or y j 0) n j (omega arith)
    by_best j h is (inr m) = let le = no_fewer (slice_index_or y b 0) (slice_index_or y j 0) b j (best.before j h is m) in more_of (slice_index_or y n 0) (slice_index_or y j 0) n j (omega arith)

pub next_kept : (cells : List Cell) (marks y : List ℕ) (n b : ℕ) → IsNextSoFar cells marks y n (Some b) → slice_index_or y n 0 ≤ slice_index_or y b 0 → IsNextSoFar cells marks y (n + 1) (Some b)
next_kept cells marks y n b best le = record {
  inside = let a = best.inside in omega arith;
  left = best.left;
  before = below_more (λ j. is_left cells marks j ≡ true → j ≢ b → has_more y b j ≡ true) n best.before (λ is m. as_many (slice_index_or y b 0) (slice_index_or y n 0) b n le best.inside);
}

pub ruleset next_steps = (next_skipped, next_first, next_more, next_kept)

-- ---- how many stand before an asset that is left
and_same : (f m h : Bool) → (f ≡ true → m ≡ true → h ≡ true) → (f ≡ true → m ≡ false → h ≡ false) → (f && h) ≡ (f && m)
and_same false m h a b = refl
and_same true true h a b = a refl refl
and_same true false h a b = b refl refl

and_true : (f m h : Bool) → (f ≡ true → m ≡ true → h ≡ true) → (f && m) ≡ true → (f && h) ≡ true
and_true true true h a b = a refl refl
and_true true false h a b = cc
and_true false m h a b = cc

left_of : (f m : Bool) → f ≡ true → m ≡ false → (f && not m) ≡ true
left_of true false a b = refl
left_of true true a b = cc
left_of false m a b = cc

left_free : (f m : Bool) → (f && not m) ≡ true → (f ≡ true) × (m ≡ false)
left_free true false h = (refl, refl)
left_free true true h = cc
left_free false m h = cc

-- as many as are marked stand before the next
before_next : (I : InstanceValue) (cells : List Cell) (y marks : List ℕ) (held i : ℕ) → length cells ≡ I.market.assets → AreChosenSoFar I cells y marks held → IsNext cells marks y (length cells) i → helds cells + free_before cells y i ≡ held
unfolding free_before
before_next I cells y marks held i size far next =
    let same = count_same (length cells) (λ j. is_free (slice_index_or cells j Out) && has_more y j i) (λ j. is_free (slice_index_or cells j Out) && is_marked marks j) (λ j h. and_same (is_free (slice_index_or cells j Out)) (is_marked marks j) (has_more y j i) (λ free marked. far.ahead j i (rw (sym size) h) (rw (sym size) next.inside) marked free next.left) (λ free gone. by_place j h free gone (cases_eq j i))) in
    let all = far.count in
    omega arith
  where
    by_place : (j : ℕ) → j < length cells → is_free (slice_index_or cells j Out) ≡ true → is_marked marks j ≡ false → (j ≡ i) ⊎ (j ≡ i → ⊥) → has_more y j i ≡ false
    by_place j h free gone (inl e) = rw e (not_itself (slice_index_or y i 0) i)
    by_place j h free gone (inr m) = one_way (slice_index_or y i 0) (slice_index_or y j 0) i j (next.before j h (left_of (is_free (slice_index_or cells j Out)) (is_marked marks j) free gone) m)

-- at least as many stand before each that is left
before_left : (I : InstanceValue) (cells : List Cell) (y marks : List ℕ) (held j : ℕ) → length cells ≡ I.market.assets → AreChosenSoFar I cells y marks held → j < I.market.assets → is_left cells marks j ≡ true → held ≤ helds cells + free_before cells y j
unfolding free_before
before_left I cells y marks held j size far h left =
    let less = count_implied (length cells) (λ i. is_free (slice_index_or cells i Out) && is_marked marks i) (λ i. is_free (slice_index_or cells i Out) && has_more y i j) (λ i l. and_true (is_free (slice_index_or cells i Out)) (is_marked marks i) (has_more y i j) (λ free marked. far.ahead i j (rw (sym size) l) h marked free left)) in
    let all = far.count in
    omega arith

-- ---- one more is chosen
wanted_more : (fewest most held v : ℕ) → held < most → (fewest ≤ held → v ≡ 0 → ⊥) → is_wanted fewest most held v ≡ true
wanted_more fewest most held v h more = by_case (cases_lt held fewest) (cases_lt 0 v)
  where
    by_case : (held < fewest) ⊎ (fewest ≤ held) → (0 < v) ⊎ (v ≤ 0) → is_wanted fewest most held v ≡ true
    by_case (inl l) _ = grind (arith, nat_tests)
    by_case (inr l) (inl o) = grind (arith, nat_tests)
    by_case (inr l) (inr o) = absurd (more l (omega arith))

or_free : (m f w : Bool) → f ≡ true → w ≡ true → (m || (f && w)) ≡ true
or_free true f w a b = refl
or_free false f w a b = rw (a, b) refl

pub chosen_more : (I : InstanceValue) (cells : List Cell) (y marks : List ℕ) (held i : ℕ) → length cells ≡ I.market.assets → AreChosenSoFar I cells y marks held → IsNext cells marks y (length cells) i → held < I.held_most → (I.held ≤ held → slice_index_or y i 0 ≡ 0 → ⊥) → AreChosenSoFar I cells y (slice_set marks i 1) (held + 1)
chosen_more I cells y marks held i size far next most more = record {
  size = length-set marks i 1 ∙ far.size;
  ones = λ k. ones k (cases_eq k i);
  musts = λ k h is. musts k h is (cases_eq k i);
  chosen = λ k h is. chosen k h is (cases_eq k i);
  ahead = λ k j h l is free left. ahead k j h l is free left (cases_eq k i) (cases_eq j i);
  count = count;
}
  where
    inside : i < length marks
    inside = rw (far.size, sym size) next.inside

    free : (is_free (slice_index_or cells i Out) ≡ true) × (is_marked marks i ≡ false)
    free = left_free (is_free (slice_index_or cells i Out)) (is_marked marks i) next.left

    here : slice_index_or (slice_set marks i 1) i 0 ≡ 1
    here = get_or-set_same marks i 1 0 inside

    there : (k : ℕ) → (k ≡ i → ⊥) → slice_index_or (slice_set marks i 1) k 0 ≡ slice_index_or marks k 0
    there k m = get_or-set_other marks i k 1 0 m

    ones : (k : ℕ) → (k ≡ i) ⊎ (k ≡ i → ⊥) → slice_index_or (slice_set marks i 1) k 0 ≡ cond (is_marked (slice_set marks i 1) k) 1 0
    ones k (inl e) = rw (e, here) refl
    ones k (inr m) = rw (there k m) (far.ones k)

    musts : (k : ℕ) → k < I.market.assets → is_held (slice_index_or cells k Out) ≡ true → (k ≡ i) ⊎ (k ≡ i → ⊥) → is_marked (slice_set marks i 1) k ≡ true
    musts k h is (inl e) = rw (e, here) refl
    musts k h is (inr m) = rw (there k m) (far.musts k h is)

    chosen : (k : ℕ) → k < I.market.assets → is_marked (slice_set marks i 1) k ≡ true → (k ≡ i) ⊎ (k ≡ i → ⊥) → is_chosen I cells y k ≡ true
    chosen k h is (inl e) = rw e (or_free (is_held (slice_index_or cells i Out)) (is_free (slice_index_or cells i Out)) (is_wanted I.held I.held_most (helds cells + free_before cells y i) (slice_index_or y i 0)) free.0 (rw (before_next I cells y marks held i size far next) (wanted_more I.held I.held_most held (slice_index_or y i 0) most more)))
    chosen k h is (inr m) = far.chosen k h (sym (ap (nat_lt 0) (there k m)) ∙ is)

    left_before : (k : ℕ) → is_left cells (slice_set marks i 1) k ≡ true → (k ≡ i → ⊥) → is_left cells marks k ≡ true
    left_before k left m = sym (ap (λ (v : ℕ). is_free (slice_index_or cells k Out) && not (nat_lt 0 v)) (there k m)) ∙ left

    gone : is_left cells (slice_set marks i 1) i ≡ true → ⊥
    gone left = let f = left_free (is_free (slice_index_or cells i Out)) (is_marked (slice_set marks i 1) i) left in let e : true ≡ false = sym (ap (nat_lt 0) here) ∙ f.1 in cc

    ahead : (k j : ℕ) → k < I.market.assets → j < I.market.assets → is_marked (slice_set marks i 1) k ≡ true → is_free (slice_index_or cells k Out) ≡ true → is_left cells (slice_set marks i 1) j ≡ true → (k ≡ i) ⊎ (k ≡ i → ⊥) → (j ≡ i) ⊎ (j ≡ i → ⊥) → has_more y k j ≡ true
    ahead k j h l is f left _ (inl e) = absurd (gone (subst (λ (t : ℕ). is_left cells (slice_set marks i 1) t ≡ true) e left))
    ahead k j h l is f left (inl e) (inr m) = rw e (next.before j (rw size l) (left_before j left m) m)
    ahead k j h l is f left (inr n) (inr m) = far.ahead k j h l (sym (ap (nat_lt 0) (there k n)) ∙ is) f (left_before j left m)

    rest : (k : ℕ) → (k ≡ i) ⊎ (k ≡ i → ⊥) → (if k == i then false else (is_free (slice_index_or cells k Out) && is_marked (slice_set marks i 1) k)) ≡ (if k == i then false else (is_free (slice_index_or cells k Out) && is_marked marks k))
    rest k (inl e) = if_same k i false (is_free (slice_index_or cells k Out) && is_marked (slice_set marks i 1) k) e ∙ sym (if_same k i false (is_free (slice_index_or cells k Out) && is_marked marks k) e)
    rest k (inr m) = if_other k i false (is_free (slice_index_or cells k Out) && is_marked (slice_set marks i 1) k) m ∙ ap (λ (v : ℕ). is_free (slice_index_or cells k Out) && nat_lt 0 v) (there k m) ∙ sym (if_other k i false (is_free (slice_index_or cells k Out) && is_marked marks k) m)

    count : helds cells + count_if (length cells) (λ k. is_free (slice_index_or cells k Out) && is_marked (slice_set marks i 1) k) ≡ held + 1
    count =
        let old = count_split (length cells) i (λ k. is_free (slice_index_or cells k Out) && is_marked marks k) next.inside in
        let new = count_split (length cells) i (λ k. is_free (slice_index_or cells k Out) && is_marked (slice_set marks i 1) k) next.inside in
        let others = count_same (length cells) (λ k. if k == i then false else (is_free (slice_index_or cells k Out) && is_marked (slice_set marks i 1) k)) (λ k. if k == i then false else (is_free (slice_index_or cells k Out) && is_marked marks k)) (λ k l. rest k (cases_eq k i)) in
        let was : cond {A = ℕ} (is_free (slice_index_or cells i Out) && is_marked marks i) 1 0 ≡ 0 = rw (free.0, free.1) refl in
        let now : cond {A = ℕ} (is_free (slice_index_or cells i Out) && is_marked (slice_set marks i 1) i) 1 0 ≡ 1 = rw (free.0, here) refl in
        let before = far.count in
        omega arith

-- ---- all are chosen
each_is : (v : ℕ) (m h f w : Bool) → v ≡ cond m 1 0 → (h ≡ true → m ≡ true) → (m ≡ true → (h || (f && w)) ≡ true) → ((f && not m) ≡ true → w ≡ false) → v ≡ cond (h || (f && w)) 1 0
each_is v true h f w e musts chosen left = rw (chosen refl) e
each_is v false true f w e musts chosen left = let no : false ≡ true = musts refl in cc
each_is v false false true w e musts chosen left = rw (left refl) e
each_is v false false false w e musts chosen left = e

all_chosen : (I : InstanceValue) (cells : List Cell) (y marks : List ℕ) (held : ℕ) → AreChosenSoFar I cells y marks held → ((j : ℕ) → j < I.market.assets → is_left cells marks j ≡ true → is_wanted I.held I.held_most (helds cells + free_before cells y j) (slice_index_or y j 0) ≡ false) → AreChosen I cells y marks
all_chosen I cells y marks held far done = record {
  size = far.size;
  each = λ i h. each_is (slice_index_or marks i 0) (is_marked marks i) (is_held (slice_index_or cells i Out)) (is_free (slice_index_or cells i Out)) (is_wanted I.held I.held_most (helds cells + free_before cells y i) (slice_index_or y i 0)) (far.ones i) (far.musts i h) (far.chosen i h) (done i h);
}

unwanted : (fewest most held before v : ℕ) → fewest ≤ most → most ≤ held → held ≤ before → is_wanted fewest most before v ≡ false
unwanted fewest most held before v a b c = grind (arith, nat_tests)

unwanted_none : (fewest most held before v : ℕ) → fewest ≤ held → held ≤ before → v ≡ 0 → is_wanted fewest most before v ≡ false
unwanted_none fewest most held before v a b c = by_case (cases_lt before most)
  where
    by_case : (before < most) ⊎ (most ≤ before) → is_wanted fewest most before v ≡ false
    by_case (inl l) = grind (arith, nat_tests)
    by_case (inr l) = grind (arith, nat_tests)

-- where as many as may be are held
pub chosen_full : (I : InstanceValue) (cells : List Cell) (y marks : List ℕ) (held : ℕ) → IsInstance I → length cells ≡ I.market.assets → AreChosenSoFar I cells y marks held → I.held_most ≤ held → AreChosen I cells y marks
chosen_full I cells y marks held known size far full = all_chosen I cells y marks held far (λ j h left. unwanted I.held I.held_most held (helds cells + free_before cells y j) (slice_index_or y j 0) known.limits_are.held_range full (before_left I cells y marks held j size far h left))

-- where no free one is left
pub chosen_none : (I : InstanceValue) (cells : List Cell) (y marks : List ℕ) (held : ℕ) → length cells ≡ I.market.assets → AreChosenSoFar I cells y marks held → ((j : ℕ) → j < length cells → is_left cells marks j ≡ true → ⊥) → AreChosen I cells y marks
chosen_none I cells y marks held size far none = all_chosen I cells y marks held far (λ j h left. absurd (none j (rw size h) left))

-- where enough are held and the next one has no eighths
pub chosen_enough : (I : InstanceValue) (cells : List Cell) (y marks : List ℕ) (held i : ℕ) → length cells ≡ I.market.assets → AreChosenSoFar I cells y marks held → IsNext cells marks y (length cells) i → I.held ≤ held → slice_index_or y i 0 ≡ 0 → AreChosen I cells y marks
chosen_enough I cells y marks held i size far next enough none = all_chosen I cells y marks held far (λ j h left. unwanted_none I.held I.held_most held (helds cells + free_before cells y j) (slice_index_or y j 0) enough (before_left I cells y marks held j size far h left) (zero j h left (cases_eq j i)))
  where
    zero : (j : ℕ) → j < I.market.assets → is_left cells marks j ≡ true → (j ≡ i) ⊎ (j ≡ i → ⊥) → slice_index_or y j 0 ≡ 0
    zero j h left (inl e) = rw e none
    zero j h left (inr m) = let le = no_fewer (slice_index_or y i 0) (slice_index_or y j 0) i j (next.before j (rw size h) left m) in omega arith

-- ---- those that must be held
pub musts_none : (cells : List Cell) (n : ℕ) → AreMusts cells n 0 (replicate {A = ℕ} n 0)
musts_none cells n = record {
  size = length-replicate {A = ℕ} n 0;
  below = λ i h. absurd (omega arith);
  above = λ i h. by_place i (cases_lt i n);
}
  where
    by_place : (i : ℕ) → (i < n) ⊎ (n ≤ i) → slice_index_or (replicate {A = ℕ} n 0) i 0 ≡ 0
    by_place i (inl l) = get_or-replicate n i 0 0 l
    by_place i (inr l) = let e : length (replicate {A = ℕ} n 0) ≡ n = length-replicate {A = ℕ} n 0 in get_or_past (replicate {A = ℕ} n 0) i 0 (omega arith)

pub musts_held : (cells : List Cell) (n k : ℕ) (marks : List ℕ) → k < n → AreMusts cells n k marks → is_held (slice_index_or cells k Out) ≡ true → AreMusts cells n (k + 1) (slice_set marks k 1)
musts_held cells n k marks h musts is = record {
  size = length-set marks k 1 ∙ musts.size;
  below = below_more (λ i. slice_index_or (slice_set marks k 1) i 0 ≡ cond (is_held (slice_index_or cells i Out)) 1 0) k (λ i l. get_or-set_other marks k i 1 0 (λ e. omega arith) ∙ musts.below i l) (rw is (get_or-set_same marks k 1 0 (rw musts.size h)));
  above = λ i l. get_or-set_other marks k i 1 0 (λ e. omega arith) ∙ musts.above i (omega arith);
}

pub musts_other : (cells : List Cell) (n k : ℕ) (marks : List ℕ) → AreMusts cells n k marks → is_held (slice_index_or cells k Out) ≡ false → AreMusts cells n (k + 1) marks
musts_other cells n k marks musts is = record {
  size = musts.size;
  below = below_more (λ i. slice_index_or marks i 0 ≡ cond (is_held (slice_index_or cells i Out)) 1 0) k musts.below (rw is (musts.above k (omega arith)));
  above = λ i l. musts.above i (omega arith);
}

one_of : (v : ℕ) (b : Bool) → v ≡ cond b 1 0 → v ≡ cond (nat_lt 0 v) 1 0
one_of v true e = rw e refl
one_of v false e = rw e refl

marked_of : (v : ℕ) (b : Bool) → v ≡ cond b 1 0 → nat_lt 0 v ≡ b
marked_of v true e = rw e refl
marked_of v false e = rw e refl

or_held : (m f w : Bool) → m ≡ true → (m || (f && w)) ≡ true
or_held true f w e = refl
or_held false f w e = cc

exclusive : (c : Cell) → is_held c ≡ true → is_free c ≡ true → ⊥
exclusive Out h f = cc
exclusive (Cell.Held l u) h f = cc
exclusive (Cell.Free l u) h f = cc

not_both : (h f : Bool) → (h ≡ true → f ≡ true → ⊥) → (f && h) ≡ false
not_both true true n = absurd (n refl refl)
not_both true false n = refl
not_both false true n = refl
not_both false false n = refl

-- with them the choice begins
pub chosen_begun : (I : InstanceValue) (cells : List Cell) (y marks : List ℕ) → length cells ≡ I.market.assets → AreMusts cells I.market.assets I.market.assets marks → AreChosenSoFar I cells y marks (helds cells)
chosen_begun I cells y marks size musts = record {
  size = musts.size;
  ones = λ i. ones i (cases_lt i I.market.assets);
  musts = λ i h is. held i h ∙ is;
  chosen = λ i h is. or_held (is_held (slice_index_or cells i Out)) (is_free (slice_index_or cells i Out)) (is_wanted I.held I.held_most (helds cells + free_before cells y i) (slice_index_or y i 0)) (sym (held i h) ∙ is);
  ahead = λ i j h l is free left. absurd (exclusive (slice_index_or cells i Out) (sym (held i h) ∙ is) free);
  count = let none = count_nowhere (length cells) (λ i. is_free (slice_index_or cells i Out) && is_marked marks i) (λ i h. not_both (is_marked marks i) (is_free (slice_index_or cells i Out)) (λ is free. exclusive (slice_index_or cells i Out) (sym (held i (rw (sym size) h)) ∙ is) free)) in omega arith;
}
  where
    held : (i : ℕ) → i < I.market.assets → is_marked marks i ≡ is_held (slice_index_or cells i Out)
    held i h = marked_of (slice_index_or marks i 0) (is_held (slice_index_or cells i Out)) (musts.below i h)

    ones : (i : ℕ) → (i < I.market.assets) ⊎ (I.market.assets ≤ i) → slice_index_or marks i 0 ≡ cond (is_marked marks i) 1 0
    ones i (inl h) = one_of (slice_index_or marks i 0) (is_held (slice_index_or cells i Out)) (musts.below i h)
    ones i (inr h) = one_of (slice_index_or marks i 0) false (musts.above i h)

-- ---- a point is rounded to one list alone
chosen_same : (I : InstanceValue) (cells : List Cell) (y a b : List ℕ) → AreChosen I cells y a → AreChosen I cells y b → a ≡ b
chosen_same I cells y a b p q = same_list a b (p.size ∙ sym q.size) (λ i h. let l : i < I.market.assets = rw (sym p.size) h in p.each i l ∙ sym (q.each i l))

down_same : (I : InstanceValue) (marks y a b : List ℕ) → IsRoundedDown I marks y a → IsRoundedDown I marks y b → a ≡ b
down_same I marks y a b p q = same_list a b (p.size ∙ sym q.size) (λ i h. by_mark i (rw (sym p.size) h) (cases_lt 0 (slice_index_or marks i 0)))
  where
    by_mark : (i : ℕ) → i < I.market.assets → (0 < slice_index_or marks i 0) ⊎ (slice_index_or marks i 0 ≤ 0) → slice_index_or a i 0 ≡ slice_index_or b i 0
    by_mark i h (inl o) = p.held i h o ∙ sym (q.held i h o)
    by_mark i h (inr z) = p.others i h (omega arith) ∙ sym (q.others i h (omega arith))

pub rounding_same : (I : InstanceValue) (p q : ℕ) (cells : List Cell) (y a b : List ℕ) → IsRounding I p q cells y a → IsRounding I p q cells y b → a ≡ b
rounding_same I p q cells y a b r s =
    let marks = chosen_same I cells y r.marks s.marks r.chosen s.chosen in
    let first = down_same I s.marks y r.first s.first (subst (λ (m : List ℕ). IsRoundedDown I m y r.first) marks r.down) s.down in
    sums_same I p q s.marks s.first a b (subst (λ (f : List ℕ). IsBroughtToSum I p q s.marks f a) first (subst (λ (m : List ℕ). IsBroughtToSum I p q m r.first a) marks r.brought)) s.brought
