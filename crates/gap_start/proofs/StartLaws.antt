-- Laws of the lists that a search starts from.
use Rattle.std.proofs.Common.{◌≡◌, ◌≢◌, ℕ, ◌+◌, ◌-◌, ◌<◌, ◌≤◌, ◌==◌, if◌then◌else◌, min, max, Bool, true, false, not, ◌||◌, cond, nat_lt, List, length, replicate, slice_index_or, slice_set, Option, None, Some, ℤ, pos, ◌+ℤ◌, ◌-ℤ◌, ◌≤ℤ◌, ◌⊎◌, inl, inr, refl, sym, ap, ◌∙◌, subst, arith, length-set, get_or-set_same, get_or-set_other, IsTrue, IsNone, is_some}
use Rattle.std.proofs.Math.Dec.{leb}
use Rattle.std.specs.Option.{ForSome}
use Rattle.std.proofs.lemmas.Bool.{cases_lt, cases_eq, false≢true, leb-true, le-leb}
use Rattle.std.proofs.lemmas.Bool.Decides.{nat_tests}
use Rattle.std.proofs.lemmas.Int.{ints}
use Rattle.std.proofs.lemmas.List.{get_or-replicate, length-replicate, get_or_past}
use Rattle.std.proofs.lemmas.List.Folds.{list_any_more}
use Rattle.gap_base.specs.Lots.{lots_at}
use Rattle.gap_base.specs.Sums.{count_if, abs_z}
use Rattle.gap_base.proofs.Ring.{if_same, if_other, linear}
use Rattle.gap_base.proofs.SumLaws.{sum_same, sum-add}
use Rattle.gap_base.proofs.Counts.{count_split, count_same, count_nowhere}
use Rattle.gap_instance.specs.Instances.{InstanceValue, IsInstance, AreBetween}
use Rattle.gap_instance.specs.Limits.{MeetsLimits, sum_of, held_of, turnover_of}
use Rattle.gap_instance.specs.declared.order.By.{By}
use Rattle.gap_instance.specs.declared.order.By.TheVariants.{Key, Least, Greatest}
use Rattle.gap_instance.specs.Orders.{first_lots, holds, sum_held, start_turnover, HeldGiveList, GivesList}
use Rattle.gap_instance.specs.Selections.{is_marked}
use Rattle.gap_start.specs.Fills.{HoldsWithin, LeadsAway, toward, RoomFor, IsFilled, IsBroughtToSum}
use Rattle.gap_start.proofs.FillLaws.{filled_brought}
use Rattle.gap_start.specs.Starts.{AreMarks, AreFirst, IsFirstList, IsFirstStart, IsStartBy, IsStartOf, IsStartWith, turn_of}

-- ---- what an asset gets at first
lots_within : (I : InstanceValue) (o : Option ℕ) (i : ℕ) → slice_index_or I.least i 0 ≤ slice_index_or I.greatest i 0 → (slice_index_or I.least i 0 ≤ first_lots I o i) × (first_lots I o i ≤ slice_index_or I.greatest i 0)
lots_within I None i h = (omega arith, h)
lots_within I (Some t) i h = (omega arith, omega arith)

pub first_within : (I : InstanceValue) (marks x : List ℕ) → AreFirst I marks → IsFirstList I marks x → HoldsWithin I marks x
first_within I marks x are first = record {
  size = first.size;
  least = λ i h m. rw (first.held i h m) (lots_within I I.turnover i (are.held i h m).limits).0;
  most = λ i h m. rw (first.held i h m) (lots_within I I.turnover i (are.held i h m).limits).1;
  others = first.others;
}

past_up : (b l g : ℕ) → max l (min b g) < g → b ≤ max l (min b g)
past_up b l g h = omega arith

past_down : (b l g : ℕ) → l < max l (min b g) → max l (min b g) ≤ b
past_down b l g h = omega arith

first_away : (I : InstanceValue) (marks : List ℕ) (up : Bool) (x : List ℕ) (t : ℕ) → IsFirstList I marks x → I.turnover ≡ Some t → LeadsAway I marks up x
first_away I marks true x t first e i h can =
    let is : slice_index_or x i 0 ≡ first_lots I (Some t) i = first.held i h can.0 ∙ ap (λ (o : Option ℕ). first_lots I o i) e in
    rw is (past_up (slice_index_or I.present i 0) (slice_index_or I.least i 0) (slice_index_or I.greatest i 0) (rw is at can.1))
first_away I marks false x t first e i h can =
    let is : slice_index_or x i 0 ≡ first_lots I (Some t) i = first.held i h can.0 ∙ ap (λ (o : Option ℕ). first_lots I o i) e in
    rw is (past_down (slice_index_or I.present i 0) (slice_index_or I.least i 0) (slice_index_or I.greatest i 0) (rw is at can.1))

-- ---- its sum and its turnover
marked_cases : (m : ℕ) → ((0 < m) × (nat_lt 0 m ≡ true)) ⊎ ((m ≡ 0) × (nat_lt 0 m ≡ false))
marked_cases m = by_case (cases_lt 0 m)
  where
    by_case : (0 < m) ⊎ (m ≤ 0) → ((0 < m) × (nat_lt 0 m ≡ true)) ⊎ ((m ≡ 0) × (nat_lt 0 m ≡ false))
    by_case (inl p) = inl (p, grind (arith, nat_tests))
    by_case (inr p) = inr (omega arith, grind (arith, nat_tests))

sum_term : (m v f : ℕ) → (0 < m → v ≡ f) → (m ≡ 0 → v ≡ 0) → pos v ≡ (if nat_lt 0 m then pos f else pos 0)
sum_term m v f h z = by_case (marked_cases m)
  where
    by_case : ((0 < m) × (nat_lt 0 m ≡ true)) ⊎ ((m ≡ 0) × (nat_lt 0 m ≡ false)) → pos v ≡ (if nat_lt 0 m then pos f else pos 0)
    by_case (inl p) = rw p.1 (ap pos (h p.0))
    by_case (inr p) = rw p.1 (ap pos (z p.0))

turned_term : (m v f b : ℕ) → (0 < m → v ≡ f) → (m ≡ 0 → v ≡ 0) → abs_z (pos v -ℤ pos b) ≡ (if nat_lt 0 m then abs_z (pos f -ℤ pos b) else pos 0) +ℤ (if not (nat_lt 0 m) then pos b else pos 0)
turned_term m v f b h z = by_case (marked_cases m)
  where
    by_case : ((0 < m) × (nat_lt 0 m ≡ true)) ⊎ ((m ≡ 0) × (nat_lt 0 m ≡ false)) → abs_z (pos v -ℤ pos b) ≡ (if nat_lt 0 m then abs_z (pos f -ℤ pos b) else pos 0) +ℤ (if not (nat_lt 0 m) then pos b else pos 0)
    by_case (inl p) = let e = h p.0 in rw (p.1, e) (omega (arith, linear))
    by_case (inr p) = let e = z p.0 in rw (p.1, e) (omega (arith, ints))

first_sum : (I : InstanceValue) (marks x : List ℕ) → IsFirstList I marks x → sum_of I.market.assets x ≡ sum_held I (is_marked marks) (λ i. pos (first_lots I I.turnover i))
unfolding sum_held
first_sum I marks x first = sum_same I.market.assets (lots_at x) (λ i. if is_marked marks i then pos (first_lots I I.turnover i) else pos 0) (λ i h. sum_term (slice_index_or marks i 0) (slice_index_or x i 0) (first_lots I I.turnover i) (first.held i h) (first.others i h))

first_turnover : (I : InstanceValue) (marks x : List ℕ) → IsFirstList I marks x → turnover_of I.market.assets I.present x ≡ sum_held I (is_marked marks) (λ i. abs_z (pos (first_lots I I.turnover i) -ℤ lots_at I.present i)) +ℤ sum_held I (λ i. not (is_marked marks i)) (lots_at I.present)
unfolding sum_held
first_turnover I marks x first =
    sum_same I.market.assets (λ i. abs_z (lots_at x i -ℤ lots_at I.present i)) (λ i. (if is_marked marks i then abs_z (pos (first_lots I I.turnover i) -ℤ lots_at I.present i) else pos 0) +ℤ (if not (is_marked marks i) then lots_at I.present i else pos 0)) (λ i h. turned_term (slice_index_or marks i 0) (slice_index_or x i 0) (first_lots I I.turnover i) (slice_index_or I.present i 0) (first.held i h) (first.others i h))
    ∙ sum-add I.market.assets (λ i. if is_marked marks i then abs_z (pos (first_lots I I.turnover i) -ℤ lots_at I.present i) else pos 0) (λ i. if not (is_marked marks i) then lots_at I.present i else pos 0)

pub start_turnover_is : (I : InstanceValue) (marks x : List ℕ) → IsFirstList I marks x → start_turnover I (is_marked marks) ≡ turnover_of I.market.assets I.present x +ℤ abs_z (pos I.lots -ℤ sum_of I.market.assets x)
unfolding start_turnover
start_turnover_is I marks x first =
    ap (λ s. s +ℤ abs_z (pos I.lots -ℤ sum_held I (is_marked marks) (λ i. pos (first_lots I I.turnover i)))) (sym (first_turnover I marks x first))
    ∙ ap (λ s. turnover_of I.market.assets I.present x +ℤ abs_z (pos I.lots -ℤ s)) (sym (first_sum I marks x first))

-- ---- the list that it is brought to
room_first : (I : InstanceValue) (marks x : List ℕ) (up : Bool) (d : ℕ) → HeldGiveList I (is_marked marks) → sum_of I.market.assets x +ℤ toward up d ≡ pos I.lots → RoomFor I marks up x d
room_first I marks x true d gives way = let g = gives.greatest_fits in omega (arith, ints)
room_first I marks x false d gives way = let l = gives.least_fits in omega (arith, ints)

held_count : (I : InstanceValue) (marks y : List ℕ) → IsInstance I → HoldsWithin I marks y → held_of I.market.assets y ≡ count_if I.market.assets (is_marked marks)
held_count I marks y known within = count_same I.market.assets (λ i. nat_lt 0 (slice_index_or y i 0)) (is_marked marks) (λ i h. by_case i h (marked_cases (slice_index_or marks i 0)))
  where
    by_case : (i : ℕ) → i < I.market.assets → ((0 < slice_index_or marks i 0) × (is_marked marks i ≡ true)) ⊎ ((slice_index_or marks i 0 ≡ 0) × (is_marked marks i ≡ false)) → nat_lt 0 (slice_index_or y i 0) ≡ is_marked marks i
    by_case i h (inl p) = let a = within.least i h p.0 in let b = known.limits_are.least_within.least i h in let e : nat_lt 0 (slice_index_or y i 0) ≡ true = grind (arith, nat_tests) in e ∙ sym p.1
    by_case i h (inr p) = ap (nat_lt 0) (within.others i h p.0) ∙ sym p.1

way_is : (up : Bool) (l d : ℕ) (s : ℤ) → s +ℤ toward up d ≡ pos l → abs_z (pos l -ℤ s) ≡ pos d
way_is true l d s way = omega (arith, ints)
way_is false l d s way = omega (arith, ints)

meets_filled : (I : InstanceValue) (marks x y : List ℕ) (up : Bool) (d : ℕ) → AreFirst I marks → IsFirstList I marks x → HeldGiveList I (is_marked marks) → IsFilled I marks up x d y → sum_of I.market.assets x +ℤ toward up d ≡ pos I.lots → MeetsLimits I y
meets_filled I marks x y up d are first gives filled way =
    let count = held_count I marks y are.known filled.within in
    record {
      assets_are = filled.within.size;
      lots_are = filled.sum ∙ way;
      fewest = let a = are.fewest in omega arith;
      many = let a = are.most in omega arith;
      least_kept = λ i h o. least i h o (marked_cases (slice_index_or marks i 0));
      greatest_kept = λ i h. most i h (marked_cases (slice_index_or marks i 0));
      turnover_kept = λ t e.
          let grown = (filled.turnover (first_away I marks up x t first e)).1 in
          let far = way_is up I.lots d (sum_of I.market.assets x) way in
          let whole = start_turnover_is I marks x first in
          let fits = gives.turnover_fits t e in
          omega (arith, ints);
    }
  where
    least : (i : ℕ) → i < I.market.assets → 0 < slice_index_or y i 0 → ((0 < slice_index_or marks i 0) × (is_marked marks i ≡ true)) ⊎ ((slice_index_or marks i 0 ≡ 0) × (is_marked marks i ≡ false)) → slice_index_or I.least i 0 ≤ slice_index_or y i 0
    least i h o (inl p) = filled.within.least i h p.0
    least i h o (inr p) = let z = filled.within.others i h p.0 in absurd (omega arith)

    most : (i : ℕ) → i < I.market.assets → ((0 < slice_index_or marks i 0) × (is_marked marks i ≡ true)) ⊎ ((slice_index_or marks i 0 ≡ 0) × (is_marked marks i ≡ false)) → slice_index_or y i 0 ≤ slice_index_or I.greatest i 0
    most i h (inl p) = filled.within.most i h p.0
    most i h (inr p) = let z = filled.within.others i h p.0 in omega arith

-- the first list of assets that give one, brought to the sum, meets the limits
pub meets_brought : (I : InstanceValue) (p q : ℕ) (marks x y : List ℕ) → AreFirst I marks → IsFirstList I marks x → HeldGiveList I (is_marked marks) → IsBroughtToSum I p q marks x y → MeetsLimits I y
meets_brought I p q marks x y are first gives to =
    let room = room_first I marks x to.up to.missing gives to.way in
    meets_filled I marks x y to.up to.missing are first gives (filled_brought I p q marks to.up to.missing x y are.known (first_within I marks x are first) room to.brought) to.way

pub within_between : (I : InstanceValue) (marks x : List ℕ) → IsInstance I → HoldsWithin I marks x → AreBetween I.market.assets 0 10000 x
within_between I marks x known within = record {
  count = within.size;
  least = λ i h. omega arith;
  most = λ i h. most i h (marked_cases (slice_index_or marks i 0));
}
  where
    most : (i : ℕ) → i < I.market.assets → ((0 < slice_index_or marks i 0) × (is_marked marks i ≡ true)) ⊎ ((slice_index_or marks i 0 ≡ 0) × (is_marked marks i ≡ false)) → slice_index_or x i 0 ≤ 10000
    most i h (inl p) = let a = within.most i h p.0 in let b = known.limits_are.greatest_within.most i h in let c = known.limits_are.lots_most in omega arith
    most i h (inr p) = let z = within.others i h p.0 in omega arith

-- ---- the marks of the first assets of an order
zero_at : (n i : ℕ) → slice_index_or (replicate {A = ℕ} n 0) i 0 ≡ 0
zero_at n i = by_case (cases_lt i n)
  where
    by_case : (i < n) ⊎ (n ≤ i) → slice_index_or (replicate {A = ℕ} n 0) i 0 ≡ 0
    by_case (inl h) = get_or-replicate n i 0 0 h
    by_case (inr h) = let e : length (replicate {A = ℕ} n 0) ≡ n = length-replicate {A = ℕ} n 0 in get_or_past (replicate {A = ℕ} n 0) i 0 (omega arith)

pub marks_none : (n : ℕ) (order : List ℕ) → AreMarks n order 0 (replicate {A = ℕ} n 0)
marks_none n order = record {
  size = length-replicate {A = ℕ} n 0;
  marked = λ i h. ap (nat_lt 0) (zero_at n i);
  count = count_nowhere n (is_marked (replicate {A = ℕ} n 0)) (λ i h. ap (nat_lt 0) (zero_at n i));
  from = λ i h. let z = zero_at n i in absurd (omega arith);
}

or_true : (b : Bool) → (b || true) ≡ true
or_true true = refl
or_true false = refl

or_false : (b : Bool) → (b || false) ≡ b
or_false true = refl
or_false false = refl

same_test : (a i : ℕ) → a ≡ i → (a == i) ≡ true
same_test a i e = grind (arith, nat_tests)

other_test : (a i : ℕ) → (a ≡ i → ⊥) → (a == i) ≡ false
other_test a i n = grind (arith, nat_tests)

pub marks_more : (n : ℕ) (order : List ℕ) (k : ℕ) (marks : List ℕ) → AreMarks n order k marks → k < length order → slice_index_or order k 0 < n → ((m l : ℕ) → m < l → l < length order → slice_index_or order m 0 ≢ slice_index_or order l 0) → AreMarks n order (k + 1) (slice_set marks (slice_index_or order k 0) 1)
marks_more n order k marks are h below once =
    let a = slice_index_or order k 0 in
    let inside : a < length marks = rw are.size below in
    record {
      size = length-set marks a 1 ∙ are.size;
      marked = λ i l. by_test i l (cases_eq i a);
      count = counted;
      from = λ i o. found i o (cases_eq i a);
    }
  where
    new_a : slice_index_or order k 0 < length marks
    new_a = rw are.size below

    unmarked : (0 < slice_index_or marks (slice_index_or order k 0) 0) ⊎ (slice_index_or marks (slice_index_or order k 0) 0 ≤ 0) → slice_index_or marks (slice_index_or order k 0) 0 ≡ 0
    unmarked (inl o) = let f = are.from (slice_index_or order k 0) o in absurd (once f.0 k f.1 h f.2)
    unmarked (inr o) = omega arith

    by_test : (i : ℕ) → i < n → (i ≡ slice_index_or order k 0) ⊎ (i ≡ slice_index_or order k 0 → ⊥) → is_marked (slice_set marks (slice_index_or order k 0) 1) i ≡ holds order (k + 1) i
    by_test i l (inl e) =
        let one : slice_index_or (slice_set marks (slice_index_or order k 0) 1) i 0 ≡ 1 = rw e (get_or-set_same marks (slice_index_or order k 0) 1 0 new_a) in
        ap (nat_lt 0) one ∙ sym (list_any_more (λ b. b == i) order k 0 h ∙ ap (λ b. holds order k i || b) (same_test (slice_index_or order k 0) i (sym e)) ∙ or_true (holds order k i))
    by_test i l (inr m) = ap (nat_lt 0) (get_or-set_other marks (slice_index_or order k 0) i 1 0 m) ∙ are.marked i l ∙ sym (list_any_more (λ b. b == i) order k 0 h ∙ ap (λ b. holds order k i || b) (other_test (slice_index_or order k 0) i (λ e. m (sym e))) ∙ or_false (holds order k i))

    rest : (i : ℕ) → (i ≡ slice_index_or order k 0) ⊎ (i ≡ slice_index_or order k 0 → ⊥) → (if i == slice_index_or order k 0 then false else is_marked (slice_set marks (slice_index_or order k 0) 1) i) ≡ (if i == slice_index_or order k 0 then false else is_marked marks i)
    rest i (inl e) = if_same i (slice_index_or order k 0) false (is_marked (slice_set marks (slice_index_or order k 0) 1) i) e ∙ sym (if_same i (slice_index_or order k 0) false (is_marked marks i) e)
    rest i (inr m) = if_other i (slice_index_or order k 0) false (is_marked (slice_set marks (slice_index_or order k 0) 1) i) m ∙ ap (nat_lt 0) (get_or-set_other marks (slice_index_or order k 0) i 1 0 m) ∙ sym (if_other i (slice_index_or order k 0) false (is_marked marks i) m)

    counted : count_if n (is_marked (slice_set marks (slice_index_or order k 0) 1)) ≡ k + 1
    counted =
        let old = count_split n (slice_index_or order k 0) (is_marked marks) below in
        let new = count_split n (slice_index_or order k 0) (is_marked (slice_set marks (slice_index_or order k 0) 1)) below in
        let others = count_same n (λ i. if i == slice_index_or order k 0 then false else is_marked (slice_set marks (slice_index_or order k 0) 1) i) (λ i. if i == slice_index_or order k 0 then false else is_marked marks i) (λ i l. rest i (cases_eq i (slice_index_or order k 0))) in
        let was : is_marked marks (slice_index_or order k 0) ≡ false = ap (nat_lt 0) (unmarked (cases_lt 0 (slice_index_or marks (slice_index_or order k 0) 0))) in
        let now : is_marked (slice_set marks (slice_index_or order k 0) 1) (slice_index_or order k 0) ≡ true = ap (nat_lt 0) (get_or-set_same marks (slice_index_or order k 0) 1 0 new_a) in
        let old_one : cond {A = ℕ} (is_marked marks (slice_index_or order k 0)) 1 0 ≡ 0 = ap (λ b. cond {A = ℕ} b 1 0) was in
        let new_one : cond {A = ℕ} (is_marked (slice_set marks (slice_index_or order k 0) 1) (slice_index_or order k 0)) 1 0 ≡ 1 = ap (λ b. cond {A = ℕ} b 1 0) now in
        let before = are.count in
        omega arith

    found : (i : ℕ) → 0 < slice_index_or (slice_set marks (slice_index_or order k 0) 1) i 0 → (i ≡ slice_index_or order k 0) ⊎ (i ≡ slice_index_or order k 0 → ⊥) → (m : ℕ) × (m < k + 1) × (slice_index_or order m 0 ≡ i)
    found i o (inl e) = (k, omega arith, sym e)
    found i o (inr d) = let f = are.from i (rw (get_or-set_other marks (slice_index_or order k 0) i 1 0 d) at o) in let l = f.1 in (f.0, omega arith, f.2)

-- ---- the same assets give a list by either test
sum_held_same : (I : InstanceValue) (f g : ℕ → Bool) (t : ℕ → ℤ) → ((i : ℕ) → i < I.market.assets → f i ≡ g i) → sum_held I f t ≡ sum_held I g t
unfolding sum_held
sum_held_same I f g t h = sum_same I.market.assets (λ i. if f i then t i else pos 0) (λ i. if g i then t i else pos 0) (λ i l. ap (λ b. if b then t i else pos 0) (h i l))

start_turnover_same : (I : InstanceValue) (f g : ℕ → Bool) → ((i : ℕ) → i < I.market.assets → f i ≡ g i) → start_turnover I f ≡ start_turnover I g
unfolding start_turnover
start_turnover_same I f g h =
    let a = sum_held_same I f g (λ i. abs_z (pos (first_lots I I.turnover i) -ℤ lots_at I.present i)) h in
    let b = sum_held_same I (λ i. not (f i)) (λ i. not (g i)) (lots_at I.present) (λ i l. ap not (h i l)) in
    let c = sum_held_same I f g (λ i. pos (first_lots I I.turnover i)) h in
    ap (λ s. s +ℤ sum_held I (λ i. not (f i)) (lots_at I.present) +ℤ abs_z (pos I.lots -ℤ sum_held I f (λ i. pos (first_lots I I.turnover i)))) a
    ∙ ap (λ s. sum_held I g (λ i. abs_z (pos (first_lots I I.turnover i) -ℤ lots_at I.present i)) +ℤ s +ℤ abs_z (pos I.lots -ℤ sum_held I f (λ i. pos (first_lots I I.turnover i)))) b
    ∙ ap (λ s. sum_held I g (λ i. abs_z (pos (first_lots I I.turnover i) -ℤ lots_at I.present i)) +ℤ sum_held I (λ i. not (g i)) (lots_at I.present) +ℤ abs_z (pos I.lots -ℤ s)) c

pub gives_same : (I : InstanceValue) (f g : ℕ → Bool) → ((i : ℕ) → i < I.market.assets → f i ≡ g i) → HeldGiveList I f → HeldGiveList I g
gives_same I f g h gives = record {
  least_fits = subst (λ (s : ℤ). s ≤ℤ pos I.lots) (sum_held_same I f g (lots_at I.least) h) gives.least_fits;
  greatest_fits = subst (λ (s : ℤ). pos I.lots ≤ℤ s) (sum_held_same I f g (lots_at I.greatest) h) gives.greatest_fits;
  turnover_fits = λ t e. subst (λ (s : ℤ). s ≤ℤ pos t) (start_turnover_same I f g h) (gives.turnover_fits t e);
}

-- ---- how far a first list is from its sum
apart_is : (t l d : ℕ) → d ≡ (t - l) + (l - t) → pos d ≡ abs_z (pos l -ℤ pos t)
apart_is t l d e = omega (arith, ints)

-- the test of the turnover of a start
pub turned : (o : Option ℕ) (turnover sum : ℤ) (most a t l d : ℕ) → Some most ≡ o → pos a ≡ turnover → pos t ≡ sum → d ≡ (t - l) + (l - t) → (IsTrue (leb (a + d) most) → ForSome o (λ u. (turnover +ℤ abs_z (pos l -ℤ sum)) ≤ℤ pos u)) × (ForSome o (λ u. (turnover +ℤ abs_z (pos l -ℤ sum)) ≤ℤ pos u) → IsTrue (leb (a + d) most))
turned o turnover sum most a t l d is ea et ed =
    let far : pos d ≡ abs_z (pos l -ℤ sum) = apart_is t l d ed ∙ ap (λ z. abs_z (pos l -ℤ z)) et in
    (λ h u e. let same : most ≡ u = some_same most u (is ∙ e) in let le = leb-true (a + d) most h in omega (arith, ints), λ f. let fits = f most (sym is) in le-leb (a + d) most (omega (arith, ints)))
  where
    some_same : (m u : ℕ) → Some m ≡ Some u → m ≡ u
    some_same m u e = cc

-- the marked assets give a list where the three tests hold
pub gives_all : (I : InstanceValue) (f : ℕ → Bool) (least greatest : ℕ) → pos least ≡ sum_held I f (lots_at I.least) → pos greatest ≡ sum_held I f (lots_at I.greatest) → least ≤ I.lots → I.lots ≤ greatest → ForSome I.turnover (λ t. start_turnover I f ≤ℤ pos t) → HeldGiveList I f
gives_all I f least greatest a b l g turnover = record { least_fits = omega (arith, ints); greatest_fits = omega (arith, ints); turnover_fits = turnover }

pub too_many : (I : InstanceValue) (f : ℕ → Bool) (least : ℕ) → pos least ≡ sum_held I f (lots_at I.least) → I.lots < least → HeldGiveList I f → ⊥
too_many I f least a l gives = let b = gives.least_fits in omega (arith, ints)

pub too_few : (I : InstanceValue) (f : ℕ → Bool) (greatest : ℕ) → pos greatest ≡ sum_held I f (lots_at I.greatest) → greatest < I.lots → HeldGiveList I f → ⊥
too_few I f greatest a l gives = let b = gives.greatest_fits in omega (arith, ints)

-- ---- where a start comes from
pub start_by_order : (I : InstanceValue) (p q : ℕ) (by : By) (k : ℕ) (order marks x : List ℕ) → I.held ≤ k → k ≤ I.held_most → GivesList I p q by k order → AreMarks I.market.assets order k marks → IsStartOf I p q marks x → IsStartBy I p q by k x
start_by_order I p q by k order marks x fewest most gives are s = record {
  start = record { gives = (by, k, order, fewest, most, gives); meets = s.meets; best = s.best };
  given = s.given;
  given_is = record { order = order; gives = gives; marks = marks; marks_are = are; first = s.first; first_is = s.first_is; brought = s.brought };
  better = s.better;
}

pub first_by_key : (I : InstanceValue) (p q k : ℕ) (x : List ℕ) → IsStartBy I p q Key k x → IsStartWith I p q k x
first_by_key I p q k x s = record { by = Key; from = s; first = λ by order l. absurd (omega arith) }

no_turn : (I : InstanceValue) (p q k : ℕ) (by : By) (order : List ℕ) → ((order : List ℕ) → GivesList I p q Key k order → ⊥) → turn_of by < 1 → GivesList I p q by k order → ⊥
no_turn I p q k Key order none l gives = none order gives
no_turn I p q k Least order none l gives = absurd (omega arith)
no_turn I p q k Greatest order none l gives = absurd (omega arith)

pub second_by_least : (I : InstanceValue) (p q k : ℕ) (x : List ℕ) → ((order : List ℕ) → GivesList I p q Key k order → ⊥) → IsStartBy I p q Least k x → IsStartWith I p q k x
second_by_least I p q k x none s = record { by = Least; from = s; first = λ by order l. no_turn I p q k by order none l }

no_two_turns : (I : InstanceValue) (p q k : ℕ) (by : By) (order : List ℕ) → ((order : List ℕ) → GivesList I p q Key k order → ⊥) → ((order : List ℕ) → GivesList I p q Least k order → ⊥) → turn_of by < 2 → GivesList I p q by k order → ⊥
no_two_turns I p q k Key order none nor l gives = none order gives
no_two_turns I p q k Least order none nor l gives = nor order gives
no_two_turns I p q k Greatest order none nor l gives = absurd (omega arith)

pub third_by_greatest : (I : InstanceValue) (p q k : ℕ) (x : List ℕ) → ((order : List ℕ) → GivesList I p q Key k order → ⊥) → ((order : List ℕ) → GivesList I p q Least k order → ⊥) → IsStartBy I p q Greatest k x → IsStartWith I p q k x
third_by_greatest I p q k x none nor s = record { by = Greatest; from = s; first = λ by order l. no_two_turns I p q k by order none nor l }

pub first_start : (I : InstanceValue) (p q k : ℕ) (x : List ℕ) → I.held ≤ k → ((j : ℕ) → I.held ≤ j → j < k → (by : By) (order : List ℕ) → GivesList I p q by j order → ⊥) → IsStartWith I p q k x → IsFirstStart I p q x
first_start I p q k x fewest none s = record { count = k; fewest = fewest; from = s; fewer = λ j l m by order t gives. none j l m by order gives }

pub not_some : (o : Option (List ℕ)) (b : Bool) → b ≡ is_some o → b ≡ false → IsNone o
not_some None b e f = refl
not_some (Some x) b e f = absurd (false≢true (sym f ∙ e))
