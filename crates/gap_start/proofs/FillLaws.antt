-- Laws of lists that come to their sum lot by lot.
use Rattle.std.proofs.Common.{◌≡◌, ℕ, zero, suc, add-one, suc-add, zero-add, ◌<ℤ◌, ◌+◌, ◌-◌, ◌<◌, ◌≤◌, if◌then◌else◌, Bool, true, false, nat_lt, List, length, slice_index_or, slice_set, Option, None, Some, ℤ, pos, ◌+ℤ◌, ◌-ℤ◌, ◌≤ℤ◌, ◌⊎◌, inl, inr, refl, sym, ap, ◌∙◌, subst, arith, length-set, get_or-set_same, get_or-set_other}
use Rattle.std.proofs.lemmas.Bool.{cases_lt, cases_eq}
use Rattle.std.proofs.lemmas.Bool.Decides.{nat_tests}
use Rattle.std.proofs.lemmas.Int.{ints}
use Rattle.gap_base.specs.Lots.{lots_at}
use Rattle.gap_base.specs.Sums.{abs_z}
use Rattle.gap_base.proofs.Ring.{linear}
use Rattle.gap_base.proofs.SumLaws.{sum_le}
use Rattle.gap_instance.specs.Instances.{InstanceValue, IsInstance}
use Rattle.gap_instance.specs.Objective.{objective}
use Rattle.gap_instance.specs.Orders.{sum_held}
use Rattle.gap_instance.specs.Selections.{is_marked}
use Rattle.gap_objective.proofs.CountLaws.{sum_set}
use Rattle.gap_start.specs.declared.fill.Change.{Change}
use Rattle.gap_start.specs.Fills.{HoldsWithin, CanGo, IsLookedAt, IsBestToGo, changed_at, gone, IsStuck, IsSoFar, IsStep, IsBrought, IsBroughtToSum, toward, RoomFor, IsFilled}

-- ---- a list in which one number is set
pub at_set : (x : List ℕ) (i k v : ℕ) → i < length x → (k ≡ i) ⊎ (k ≡ i → ⊥) → (P : ℕ → Type 0) → (k ≡ i → P v) → ((k ≡ i → ⊥) → P (slice_index_or x k 0)) → P (slice_index_or (slice_set x i v) k 0)
at_set x i k v h (inl e) P here there = rw (e, get_or-set_same x i v 0 h) (here e)
at_set x i k v h (inr n) P here there = rw (get_or-set_other x i k v 0 n) (there n)

HoldsWithin-set : (I : InstanceValue) (marks x : List ℕ) (i v : ℕ) → HoldsWithin I marks x → i < I.market.assets → 0 < slice_index_or marks i 0 → slice_index_or I.least i 0 ≤ v → v ≤ slice_index_or I.greatest i 0 → HoldsWithin I marks (slice_set x i v)
HoldsWithin-set I marks x i v within h m l g =
    let inside : i < length x = rw within.size h in
    record {
      size = length-set x i v ∙ within.size;
      least = λ k p o. at_set x i k v inside (cases_eq k i) (λ t. slice_index_or I.least k 0 ≤ t) (λ e. rw e l) (λ n. within.least k p o);
      most = λ k p o. at_set x i k v inside (cases_eq k i) (λ t. t ≤ slice_index_or I.greatest k 0) (λ e. rw e g) (λ n. within.most k p o);
      others = λ k p o. at_set x i k v inside (cases_eq k i) (λ t. t ≡ 0) (λ e. let z : slice_index_or marks i 0 ≡ 0 = ap (λ (t : ℕ). slice_index_or marks t 0) (sym e) ∙ o in absurd (omega arith)) (λ n. within.others k p o);
    }

-- ---- one lot after the other
farther : (v b : ℕ) → b ≤ v → abs_z (pos (v + 1) -ℤ pos b) -ℤ abs_z (pos v -ℤ pos b) ≡ pos 1
farther v b h = omega (arith, ints)

nearer_end : (v b : ℕ) → 0 < v → v ≤ b → abs_z (pos (v - 1) -ℤ pos b) -ℤ abs_z (pos v -ℤ pos b) ≡ pos 1
nearer_end v b p h = omega (arith, ints)

pub filled_none : (I : InstanceValue) (marks : List ℕ) (up : Bool) (x : List ℕ) → HoldsWithin I marks x → IsFilled I marks up x 0 x
filled_none I marks true x within = record { within = within; sum = omega (arith, linear); turnover = λ away. (away, omega (arith, linear)) }
filled_none I marks false x within = record { within = within; sum = omega (arith, linear); turnover = λ away. (away, omega (arith, linear)) }

pub filled_more : (I : InstanceValue) (marks : List ℕ) (up : Bool) (x y : List ℕ) (n i : ℕ) → IsInstance I → IsFilled I marks up x n y → i < I.market.assets → CanGo I marks y up i → IsFilled I marks up x (n + 1) (slice_set y i (gone up (slice_index_or y i 0)))
filled_more I marks true x y n i known filled h can =
    let inside : i < length y = rw filled.within.size h in
    let v = slice_index_or y i 0 in
    let low = filled.within.least i h can.0 in
    let go = can.1 in
    record {
      within = HoldsWithin-set I marks y i (v + 1) filled.within h can.0 (omega arith) (omega arith);
      sum = let a = sum_set I.market.assets i (v + 1) (λ k t. pos t) y h inside in let b = filled.sum in omega (arith, ints);
      turnover = λ away.
          let before = filled.turnover away in
          let t = sum_set I.market.assets i (v + 1) (λ k t. abs_z (pos t -ℤ lots_at I.present k)) y h inside in
          let one = farther v (slice_index_or I.present i 0) (before.0 i h can) in
          let sofar = before.1 in
          (λ k p c. at_set y i k (v + 1) inside (cases_eq k i) (λ t. slice_index_or I.present k 0 ≤ t) (λ e. let b = before.0 i h can in rw e (omega arith)) (λ m. before.0 k p (c.0, rw (get_or-set_other y i k (v + 1) 0 m) at c.1)), omega (arith, ints));
    }
filled_more I marks false x y n i known filled h can =
    let inside : i < length y = rw filled.within.size h in
    let v = slice_index_or y i 0 in
    let high = filled.within.most i h can.0 in
    let go = can.1 in
    record {
      within = HoldsWithin-set I marks y i (v - 1) filled.within h can.0 (omega arith) (omega arith);
      sum = let a = sum_set I.market.assets i (v - 1) (λ k t. pos t) y h inside in let b = filled.sum in omega (arith, ints);
      turnover = λ away.
          let before = filled.turnover away in
          let t = sum_set I.market.assets i (v - 1) (λ k t. abs_z (pos t -ℤ lots_at I.present k)) y h inside in
          let one = nearer_end v (slice_index_or I.present i 0) (omega arith) (before.0 i h can) in
          let sofar = before.1 in
          (λ k p c. at_set y i k (v - 1) inside (cases_eq k i) (λ t. t ≤ slice_index_or I.present k 0) (λ e. let b = before.0 i h can in rw e (omega arith)) (λ m. before.0 k p (c.0, rw (get_or-set_other y i k (v - 1) 0 m) at c.1)), omega (arith, ints));
    }

-- ---- there is room as long as lots are missing
full_term : (m v g : ℕ) → (0 < m → g ≤ v) → (if nat_lt 0 m then pos g else pos 0) ≤ℤ pos v
full_term m v g h = by_case (cases_lt 0 m)
  where
    by_case : (0 < m) ⊎ (m ≤ 0) → (if nat_lt 0 m then pos g else pos 0) ≤ℤ pos v
    by_case (inl p) = let e : nat_lt 0 m ≡ true = grind (arith, nat_tests) in let l = h p in rw e (omega (arith, ints))
    by_case (inr p) = let e : nat_lt 0 m ≡ false = grind (arith, nat_tests) in rw e (omega (arith, ints))

least_term : (m v g : ℕ) → (0 < m → v ≤ g) → (m ≡ 0 → v ≡ 0) → pos v ≤ℤ (if nat_lt 0 m then pos g else pos 0)
least_term m v g h z = by_case (cases_lt 0 m)
  where
    by_case : (0 < m) ⊎ (m ≤ 0) → pos v ≤ℤ (if nat_lt 0 m then pos g else pos 0)
    by_case (inl p) = let e : nat_lt 0 m ≡ true = grind (arith, nat_tests) in let l = h p in rw e (omega (arith, ints))
    by_case (inr p) = let e : nat_lt 0 m ≡ false = grind (arith, nat_tests) in let l = z (omega arith) in rw e (omega (arith, ints))

not_below : (a b : ℕ) → (a < b → ⊥) → b ≤ a
not_below a b h = omega (arith, h)

pub not_stuck : (I : InstanceValue) (marks : List ℕ) (up : Bool) (x y : List ℕ) (n missing : ℕ) → IsFilled I marks up x n y → RoomFor I marks up x missing → n < missing → IsStuck I marks y up I.market.assets → ⊥
unfolding sum_held
not_stuck I marks true x y n missing filled room more stuck =
    let full = sum_le I.market.assets (λ i. if is_marked marks i then lots_at I.greatest i else pos 0) (lots_at y) (λ i h. full_term (slice_index_or marks i 0) (slice_index_or y i 0) (slice_index_or I.greatest i 0) (λ m. not_below (slice_index_or y i 0) (slice_index_or I.greatest i 0) (λ l. stuck i h (m, l)))) in
    let sum = filled.sum in
    omega (arith, ints)
not_stuck I marks false x y n missing filled room more stuck =
    let full = sum_le I.market.assets (lots_at y) (λ i. if is_marked marks i then lots_at I.least i else pos 0) (λ i h. least_term (slice_index_or marks i 0) (slice_index_or y i 0) (slice_index_or I.least i 0) (λ m. not_below (slice_index_or I.least i 0) (slice_index_or y i 0) (λ l. stuck i h (m, l))) (filled.within.others i h)) in
    let sum = filled.sum in
    omega (arith, ints)

-- ---- which asset goes
-- what holds below n and at n holds below n + 1
below_more : (P : ℕ → Type 0) (n : ℕ) → ((j : ℕ) → j < n → P j) → P n → (j : ℕ) → j < n + 1 → P j
below_more P n before here j h = by_place (cases_eq j n)
  where
    by_place : (j ≡ n) ⊎ (j ≡ n → ⊥) → P j
    by_place (inl e) = subst P (sym e) here
    by_place (inr m) = before j (omega (arith, m))

pub none_skipped : (I : InstanceValue) (marks x : List ℕ) (up : Bool) (n : ℕ) → ((i : ℕ) → i < n → IsLookedAt I marks x up i → ⊥) → (IsLookedAt I marks x up n → ⊥) → (i : ℕ) → i < n + 1 → IsLookedAt I marks x up i → ⊥
none_skipped I marks x up n before here = below_more (λ i. IsLookedAt I marks x up i → ⊥) n before here

pub best_skipped : (I : InstanceValue) (p q : ℕ) (marks x : List ℕ) (up : Bool) (n i : ℕ) → IsBestToGo I p q marks x up n i → (IsLookedAt I marks x up n → ⊥) → IsBestToGo I p q marks x up (n + 1) i
best_skipped I p q marks x up n i best here = record {
  inside = let a = best.inside in omega arith;
  looked = best.looked;
  least = below_more (λ j. IsLookedAt I marks x up j → objective I p q (changed_at x up i) ≤ℤ objective I p q (changed_at x up j)) n best.least (λ look. absurd (here look));
  first = best.first;
}

pub best_first : (I : InstanceValue) (p q : ℕ) (marks x : List ℕ) (up : Bool) (n : ℕ) → ((i : ℕ) → i < n → IsLookedAt I marks x up i → ⊥) → IsLookedAt I marks x up n → IsBestToGo I p q marks x up (n + 1) n
best_first I p q marks x up n none here = record {
  inside = omega arith;
  looked = here;
  least = below_more (λ j. IsLookedAt I marks x up j → objective I p q (changed_at x up n) ≤ℤ objective I p q (changed_at x up j)) n (λ j h look. absurd (none j h look)) (λ look. omega (arith, ints));
  first = λ j h look. absurd (none j h look);
}

pub best_better : (I : InstanceValue) (p q : ℕ) (marks x : List ℕ) (up : Bool) (n i : ℕ) → IsBestToGo I p q marks x up n i → IsLookedAt I marks x up n → objective I p q (changed_at x up n) <ℤ objective I p q (changed_at x up i) → IsBestToGo I p q marks x up (n + 1) n
best_better I p q marks x up n i best here lower = record {
  inside = omega arith;
  looked = here;
  least = below_more (λ j. IsLookedAt I marks x up j → objective I p q (changed_at x up n) ≤ℤ objective I p q (changed_at x up j)) n (λ j h look. let a = best.least j h look in omega (arith, ints)) (λ look. omega (arith, ints));
  first = λ j h look. let a = best.least j h look in omega (arith, ints);
}

pub best_kept : (I : InstanceValue) (p q : ℕ) (marks x : List ℕ) (up : Bool) (n i : ℕ) → IsBestToGo I p q marks x up n i → objective I p q (changed_at x up i) ≤ℤ objective I p q (changed_at x up n) → IsBestToGo I p q marks x up (n + 1) i
best_kept I p q marks x up n i best higher = record {
  inside = let a = best.inside in omega arith;
  looked = best.looked;
  least = below_more (λ j. IsLookedAt I marks x up j → objective I p q (changed_at x up i) ≤ℤ objective I p q (changed_at x up j)) n best.least (λ look. higher);
  first = best.first;
}

-- what is known of the assets below one more
pub sofar_skipped : (I : InstanceValue) (p q : ℕ) (marks x : List ℕ) (up : Bool) (n : ℕ) (best : Option Change) → IsSoFar I p q marks x up n best → (IsLookedAt I marks x up n → ⊥) → IsSoFar I p q marks x up (n + 1) best
sofar_skipped I p q marks x up n None sofar here = none_skipped I marks x up n sofar here
sofar_skipped I p q marks x up n (Some change) sofar here = (best_skipped I p q marks x up n change.asset sofar.0 here, sofar.1)

-- where none is looked at, none can go
pub stuck_none : (I : InstanceValue) (marks x : List ℕ) (up : Bool) → ((i : ℕ) → i < I.market.assets → IsLookedAt I marks x up i → ⊥) → IsStuck I marks x up I.market.assets
stuck_none I marks x up none i h go = none i h (record { go = go; nearer = λ s. absurd (none s.2.0 s.2.1 (record { go = s.2.2; nearer = λ t. s.2.3 })) })

-- ---- step by step
pub brought_none : (I : InstanceValue) (p q : ℕ) (marks : List ℕ) (up : Bool) (x : List ℕ) → IsBrought I p q marks up 0 x x
unfolding IsBrought
brought_none I p q marks up x = refl

pub brought_more : (I : InstanceValue) (p q : ℕ) (marks : List ℕ) (up : Bool) (n : ℕ) (x z y : List ℕ) → IsBrought I p q marks up n x z → IsStep I p q marks up z y → IsBrought I p q marks up (n + 1) x y
unfolding IsBrought
brought_more I p q marks up n x z y before step = rw (add-one n) (z, before, step)

stays : (I : InstanceValue) (p q : ℕ) (marks : List ℕ) (up : Bool) (e n : ℕ) (x z : List ℕ) → IsBrought I p q marks up n x z → IsStuck I marks z up I.market.assets → IsBrought I p q marks up (e + n) x z
unfolding IsBrought
stays I p q marks up zero n x z before stuck = rw (zero-add n) before
stays I p q marks up (suc e) n x z before stuck = rw (suc-add e n) (z, stays I p q marks up e n x z before stuck, inr (stuck, refl))

-- where no asset can go nothing more changes
pub brought_stuck : (I : InstanceValue) (p q : ℕ) (marks : List ℕ) (up : Bool) (n m : ℕ) (x z : List ℕ) → IsBrought I p q marks up n x z → IsStuck I marks z up I.market.assets → n ≤ m → IsBrought I p q marks up m x z
brought_stuck I p q marks up n m x z before stuck h = let e : (m - n) + n ≡ m = omega arith in let s = stays I p q marks up (m - n) n x z before stuck in rw e at s

-- ---- a list is brought to one list alone
best_same : (I : InstanceValue) (p q : ℕ) (marks x : List ℕ) (up : Bool) (n i j : ℕ) → IsBestToGo I p q marks x up n i → IsBestToGo I p q marks x up n j → (i < j) ⊎ (j ≤ i) → (j < i) ⊎ (i ≤ j) → i ≡ j
best_same I p q marks x up n i j a b (inl l) _ = let f = b.first i l a.looked in let g = a.least j b.inside b.looked in absurd (omega (arith, ints))
best_same I p q marks x up n i j a b (inr l) (inl m) = let f = a.first j m b.looked in let g = b.least i a.inside a.looked in absurd (omega (arith, ints))
best_same I p q marks x up n i j a b (inr l) (inr m) = omega arith

step_same : (I : InstanceValue) (p q : ℕ) (marks : List ℕ) (up : Bool) (x y z : List ℕ) → IsStep I p q marks up x y → IsStep I p q marks up x z → y ≡ z
step_same I p q marks up x y z (inl a) (inl b) =
    let same = best_same I p q marks x up I.market.assets a.0 b.0 a.1 b.1 (cases_lt a.0 b.0) (cases_lt b.0 a.0) in
    a.2 ∙ ap (λ (i : ℕ). changed_at x up i) same ∙ sym b.2
step_same I p q marks up x y z (inl a) (inr b) = absurd (b.0 a.0 a.1.inside a.1.looked.go)
step_same I p q marks up x y z (inr a) (inl b) = absurd (a.0 b.0 b.1.inside b.1.looked.go)
step_same I p q marks up x y z (inr a) (inr b) = a.1 ∙ sym b.1

brought_same : (I : InstanceValue) (p q : ℕ) (marks : List ℕ) (up : Bool) (n : ℕ) (x y z : List ℕ) → IsBrought I p q marks up n x y → IsBrought I p q marks up n x z → y ≡ z
unfolding IsBrought
brought_same I p q marks up zero x y z a b = a ∙ sym b
brought_same I p q marks up (suc n) x y z a b =
    let same = brought_same I p q marks up n x a.0 b.0 a.1 b.1 in
    step_same I p q marks up b.0 y z (subst (λ (t : List ℕ). IsStep I p q marks up t y) same a.2) b.2

none_same : (I : InstanceValue) (p q : ℕ) (marks : List ℕ) (s t : Bool) (n m : ℕ) (x y z : List ℕ) → n ≡ 0 → m ≡ 0 → IsBrought I p q marks s n x y → IsBrought I p q marks t m x z → y ≡ z
unfolding IsBrought
none_same I p q marks s t zero zero x y z e f a b = a ∙ sym b
none_same I p q marks s t (suc n) m x y z e f a b = absurd (omega arith)
none_same I p q marks s t zero (suc m) x y z e f a b = absurd (omega arith)

ways_same : (I : InstanceValue) (p q : ℕ) (marks : List ℕ) (s t : Bool) (n m : ℕ) (x y z : List ℕ) → toward s n ≡ toward t m → IsBrought I p q marks s n x y → IsBrought I p q marks t m x z → y ≡ z
ways_same I p q marks true true n m x y z e a b = let same : n ≡ m = omega (arith, ints) in brought_same I p q marks true m x y z (subst (λ (k : ℕ). IsBrought I p q marks true k x y) same a) b
ways_same I p q marks false false n m x y z e a b = let same : n ≡ m = omega (arith, ints) in brought_same I p q marks false m x y z (subst (λ (k : ℕ). IsBrought I p q marks false k x y) same a) b
ways_same I p q marks true false n m x y z e a b = none_same I p q marks true false n m x y z (omega (arith, ints)) (omega (arith, ints)) a b
ways_same I p q marks false true n m x y z e a b = none_same I p q marks false true n m x y z (omega (arith, ints)) (omega (arith, ints)) a b

pub sums_same : (I : InstanceValue) (p q : ℕ) (marks x y z : List ℕ) → IsBroughtToSum I p q marks x y → IsBroughtToSum I p q marks x z → y ≡ z
sums_same I p q marks x y z a b =
    let v = a.way in
    let w = b.way in
    ways_same I p q marks a.up b.up a.missing b.missing x y z (omega (arith, linear)) a.brought b.brought

-- so many lots are missing from a sum, or too many
pub way_of : (t l d : ℕ) (s : ℤ) → pos t ≡ s → d ≡ (t - l) + (l - t) → s +ℤ toward (nat_lt t l) d ≡ pos l
way_of t l d s is e = by_case (cases_lt t l)
  where
    by_case : (t < l) ⊎ (l ≤ t) → s +ℤ toward (nat_lt t l) d ≡ pos l
    by_case (inl h) = let up : nat_lt t l ≡ true = grind (arith, nat_tests) in rw up (omega (arith, ints))
    by_case (inr h) = let up : nat_lt t l ≡ false = grind (arith, nat_tests) in rw up (omega (arith, ints))

-- ---- with room for all the lots, each step adds one or takes one
filled_one : (I : InstanceValue) (p q : ℕ) (marks : List ℕ) (up : Bool) (n missing : ℕ) (x z y : List ℕ) → IsInstance I → RoomFor I marks up x missing → n < missing → IsFilled I marks up x n z → IsStep I p q marks up z y → IsFilled I marks up x (suc n) y
filled_one I p q marks up n missing x z y known room h before (inl go) = subst (IsFilled I marks up x (suc n)) (sym go.2) (rw (sym (add-one n)) (filled_more I marks up x z n go.0 known before go.1.inside go.1.looked.go))
filled_one I p q marks up n missing x z y known room h before (inr stuck) = absurd (not_stuck I marks up x z n missing before room h stuck.0)

filled_steps : (I : InstanceValue) (p q : ℕ) (marks : List ℕ) (up : Bool) (n missing : ℕ) (x y : List ℕ) → IsInstance I → HoldsWithin I marks x → RoomFor I marks up x missing → n ≤ missing → IsBrought I p q marks up n x y → IsFilled I marks up x n y
unfolding IsBrought
filled_steps I p q marks up zero missing x y known within room le is = subst (IsFilled I marks up x 0) (sym is) (filled_none I marks up x within)
filled_steps I p q marks up (suc n) missing x y known within room le is = filled_one I p q marks up n missing x is.0 y known room (omega arith) (filled_steps I p q marks up n missing x is.0 known within room (omega arith) is.1) is.2

pub filled_brought : (I : InstanceValue) (p q : ℕ) (marks : List ℕ) (up : Bool) (missing : ℕ) (x y : List ℕ) → IsInstance I → HoldsWithin I marks x → RoomFor I marks up x missing → IsBrought I p q marks up missing x y → IsFilled I marks up x missing y
filled_brought I p q marks up missing x y known within room is = filled_steps I p q marks up missing missing x y known within room (omega arith) is
