-- Laws of the steps to neighbours.
use Rattle.std.proofs.Common.{◌≡◌, ◌≢◌, ℕ, ◌+◌, ◌-◌, ◌<◌, ◌≤◌, true, false, cond, nat_lt, List, length, slice_index_or, slice_set, ℤ, pos, ◌+ℤ◌, ◌≤ℤ◌, ◌<ℤ◌, ◌⊎◌, inl, inr, refl, sym, ap, ◌∙◌, subst, arith, Option, None, Some, IsTrue, length-set, get_or-set_same, get_or-set_other, unsigned_abs}
use Rattle.std.proofs.Math.Dec.{leb}
use Rattle.std.specs.Option.{ForSome}
use Rattle.std.proofs.lemmas.Bool.{cases_lt, cases_eq, leb-true, le-leb}
use Rattle.std.proofs.lemmas.Bool.Decides.{nat_tests}
use Rattle.std.proofs.lemmas.Int.{ints}
use Rattle.std.proofs.lemmas.List.{get_or_past}
use Rattle.gap_instance.specs.Instances.{InstanceValue, IsInstance}
use Rattle.gap_instance.specs.Limits.{MeetsLimits, sum_of, held_of, turnover_of}
use Rattle.gap_instance.specs.Neighbours.{IsMove, IsReplacement, HasNoBetterNeighbour, lot_moved, lots_shifted, exchanged}
use Rattle.gap_instance.specs.Objective.{objective}
use Rattle.gap_start.specs.declared.step.Kind.{Kind}
use Rattle.gap_start.specs.declared.step.Kind.TheVariants.{Move, Replace}
use Rattle.gap_start.specs.Steps.{CanStep, stepped, HasRoom, NoneBelow, NoneBelowFrom, NoneBelowKind, IsFoundBy}
use Rattle.gap_start.specs.declared.step.Step.{Step}
use Rattle.gap_objective.specs.Slopes.{StaysFrom}
use Rattle.gap_objective.proofs.CountLaws.{sum_set, held_put, held_positive}

-- a lower number is below still
pub NoneBelow-lower : (I : InstanceValue) (p q : ℕ) (x : List ℕ) (v w : ℤ) (kind : Kind) (i j : ℕ) → NoneBelow I p q x v kind i j → w ≤ℤ v → NoneBelow I p q x w kind i j
NoneBelow-lower I p q x v w kind i j none le can meets = let a = none can meets in omega (arith, ints)

taker_moved : (x : List ℕ) (i j : ℕ) → j < length x → slice_index_or (lot_moved x i j) j 0 ≡ slice_index_or x j 0 + 1
taker_moved x i j h = get_or-set_same (slice_set x i (slice_index_or x i 0 - 1)) j (slice_index_or x j 0 + 1) 0 (rw (length-set x i (slice_index_or x i 0 - 1)) h)

giver_moved : (x : List ℕ) (i j : ℕ) → (i ≢ j) → i < length x → slice_index_or (lot_moved x i j) i 0 ≡ slice_index_or x i 0 - 1
giver_moved x i j other h =
    let a = get_or-set_same x i (slice_index_or x i 0 - 1) 0 h in
    let b = get_or-set_other (slice_set x i (slice_index_or x i 0 - 1)) j i (slice_index_or x j 0 + 1) 0 other in
    rw b a

taker_exchanged : (x : List ℕ) (i j : ℕ) → j < length x → slice_index_or (exchanged x i j) j 0 ≡ slice_index_or x i 0
taker_exchanged x i j h = get_or-set_same (slice_set x i (slice_index_or x j 0)) j (slice_index_or x i 0) 0 (rw (length-set x i (slice_index_or x j 0)) h)

inside : (x : List ℕ) (i : ℕ) → 0 < slice_index_or x i 0 → i < length x
inside x i h = here (cases_lt i (length x))
  where
    here : (i < length x) ⊎ (length x ≤ i) → i < length x
    here (inl l) = l
    here (inr l) = let z = get_or_past x i 0 l in absurd (omega arith)

-- how many are held after one lot was moved, and after an asset was replaced
held_moved : (n i j : ℕ) (x : List ℕ) → length x ≡ n → (i ≢ j) → 0 < slice_index_or x i 0 → 0 < slice_index_or x j 0 → j < n → held_of n x ≡ held_of n (lot_moved x i j) + cond (nat_lt 1 (slice_index_or x i 0)) 0 1
held_moved n i j x size other from to h =
    let a = inside x i from in
    let first = held_put n i (slice_index_or x i 0 - 1) (held_of n x) x (rw (sym size) a) a refl in
    let there : slice_index_or (slice_set x i (slice_index_or x i 0 - 1)) j 0 ≡ slice_index_or x j 0 = get_or-set_other x i j (slice_index_or x i 0 - 1) 0 (λ s. other (sym s)) in
    let second = held_put n j (slice_index_or x j 0 + 1) (held_of n (slice_set x i (slice_index_or x i 0 - 1))) (slice_set x i (slice_index_or x i 0 - 1)) h (rw (length-set x i (slice_index_or x i 0 - 1), size) h) refl in
    let most = held_positive n i x (rw (sym size) a) from in
    counts (held_of n x) (held_of n (slice_set x i (slice_index_or x i 0 - 1))) (held_of n (lot_moved x i j)) (slice_index_or x i 0) (slice_index_or x j 0) from to most (sym first) (sym (rw there at second)) (cases_lt 1 (slice_index_or x i 0))
  where
    counts : (before once twice given taken : ℕ) → 0 < given → 0 < taken → 1 ≤ before → once ≡ (before + cond (nat_lt 0 (given - 1)) 1 0) - cond (nat_lt 0 given) 1 0 → twice ≡ (once + cond (nat_lt 0 (taken + 1)) 1 0) - cond (nat_lt 0 taken) 1 0 → (1 < given) ⊎ (given ≤ 1) → before ≡ twice + cond (nat_lt 1 given) 0 1
    counts before once twice given taken from to most e f (inl more) =
        let a : nat_lt 0 (given - 1) ≡ true = grind (arith, nat_tests) in
        let b : nat_lt 0 given ≡ true = grind (arith, nat_tests) in
        let c : nat_lt 0 (taken + 1) ≡ true = grind (arith, nat_tests) in
        let d : nat_lt 0 taken ≡ true = grind (arith, nat_tests) in
        let g : nat_lt 1 given ≡ true = grind (arith, nat_tests) in
        let p = rw (a, b) at e in
        let q = rw (c, d) at f in
        rw g (omega arith)
    counts before once twice given taken from to most e f (inr few) =
        let a : nat_lt 0 (given - 1) ≡ false = grind (arith, nat_tests) in
        let b : nat_lt 0 given ≡ true = grind (arith, nat_tests) in
        let c : nat_lt 0 (taken + 1) ≡ true = grind (arith, nat_tests) in
        let d : nat_lt 0 taken ≡ true = grind (arith, nat_tests) in
        let g : nat_lt 1 given ≡ false = grind (arith, nat_tests) in
        let p = rw (a, b) at e in
        let q = rw (c, d) at f in
        rw g (omega arith)

held_exchanged : (n i j : ℕ) (x : List ℕ) → length x ≡ n → 0 < slice_index_or x i 0 → slice_index_or x j 0 ≡ 0 → j < n → held_of n (exchanged x i j) ≡ held_of n x
held_exchanged n i j x size from to h =
    let a = inside x i from in
    let other : j ≡ i → ⊥ = λ e. let same = ap (λ (k : ℕ). slice_index_or x k 0) e in absurd (omega arith) in
    let first = held_put n i (slice_index_or x j 0) (held_of n x) x (rw (sym size) a) a refl in
    let there : slice_index_or (slice_set x i (slice_index_or x j 0)) j 0 ≡ slice_index_or x j 0 = get_or-set_other x i j (slice_index_or x j 0) 0 other in
    let second = held_put n j (slice_index_or x i 0) (held_of n (slice_set x i (slice_index_or x j 0))) (slice_set x i (slice_index_or x j 0)) h (rw (length-set x i (slice_index_or x j 0), size) h) refl in
    let most = held_positive n i x (rw (sym size) a) from in
    counts (held_of n x) (held_of n (slice_set x i (slice_index_or x j 0))) (held_of n (exchanged x i j)) (slice_index_or x i 0) (slice_index_or x j 0) from to most (sym first) (sym (rw there at second))
  where
    counts : (before once twice given taken : ℕ) → 0 < given → taken ≡ 0 → 1 ≤ before → once ≡ (before + cond (nat_lt 0 taken) 1 0) - cond (nat_lt 0 given) 1 0 → twice ≡ (once + cond (nat_lt 0 given) 1 0) - cond (nat_lt 0 taken) 1 0 → twice ≡ before
    counts before once twice given taken from to most e f =
        let a : nat_lt 0 taken ≡ false = grind (arith, nat_tests) in
        let b : nat_lt 0 given ≡ true = grind (arith, nat_tests) in
        let p = rw (a, b) at e in
        let q = rw (a, b) at f in
        omega arith

-- a step to a list that meets the limits has room
pub HasRoom-meets : (I : InstanceValue) (x : List ℕ) (kind : Kind) (i j : ℕ) → length x ≡ I.market.assets → j < I.market.assets → CanStep x kind i j → MeetsLimits I (stepped x kind i j) → HasRoom I x kind i j
HasRoom-meets I x Move i j size h can meets =
    let new = taker_moved x i j (rw size h) in
    let most = meets.greatest_kept j h in
    let held = inside x i can.1 in
    let left = giver_moved x i j can.0 held in
    let count = held_moved I.market.assets i j x size can.0 can.1 can.2 h in
    (can.0, can.1, can.2, omega arith, some_left (cases_lt 1 (slice_index_or x i 0)) left count (λ more. meets.least_kept i (rw (sym size) held) more))
  where
    some_left : (1 < slice_index_or x i 0) ⊎ (slice_index_or x i 0 ≤ 1) → slice_index_or (lot_moved x i j) i 0 ≡ slice_index_or x i 0 - 1 → held_of I.market.assets x ≡ held_of I.market.assets (lot_moved x i j) + cond (nat_lt 1 (slice_index_or x i 0)) 0 1 → (0 < slice_index_or (lot_moved x i j) i 0 → slice_index_or I.least i 0 ≤ slice_index_or (lot_moved x i j) i 0) → (slice_index_or I.least i 0 < slice_index_or x i 0) ⊎ ((slice_index_or x i 0 ≡ 1) × (I.held < held_of I.market.assets x))
    some_left (inl more) left count kept = let least = kept (omega arith) in inl (omega arith)
    some_left (inr few) left count kept =
        let held = can.1 in
        let g : nat_lt 1 (slice_index_or x i 0) ≡ false = grind (arith, nat_tests) in
        let c = rw g at count in
        let fewest = meets.fewest in
        inr (omega arith, omega arith)
HasRoom-meets I x Replace i j size h can meets =
    let new = taker_exchanged x i j (rw size h) in
    let most = meets.greatest_kept j h in
    let held = can.1 in
    let least = meets.least_kept j h (omega arith) in
    (can.1, can.2, omega arith, omega arith)

-- ---- a step that has room to a list of a turnover within the limit leads to a list that meets the limits
-- what holds of the two new numbers and of each old one holds of each
at_two : (x : List ℕ) (i j a b k : ℕ) (P : ℕ → Type 0) → i < length x → j < length x → (k ≡ i) ⊎ (k ≡ i → ⊥) → (k ≡ j) ⊎ (k ≡ j → ⊥) → (k ≡ i → P a) → (k ≡ j → P b) → P (slice_index_or x k 0) → P (slice_index_or (slice_set (slice_set x i a) j b) k 0)
at_two x i j a b k P h m _ (inl e) first second old = rw (e, get_or-set_same (slice_set x i a) j b 0 (rw (length-set x i a) m)) (second e)
at_two x i j a b k P h m (inl e) (inr n) first second old = rw (get_or-set_other (slice_set x i a) j k b 0 n) (rw (e, get_or-set_same x i a 0 h) (first e))
at_two x i j a b k P h m (inr d) (inr n) first second old = rw (get_or-set_other (slice_set x i a) j k b 0 n, get_or-set_other x i k a 0 d) old

sum_two : (n i j a b : ℕ) (x : List ℕ) → length x ≡ n → i < n → j < n → i ≢ j → a + b ≡ slice_index_or x i 0 + slice_index_or x j 0 → sum_of n (slice_set (slice_set x i a) j b) ≡ sum_of n x
sum_two n i j a b x size h m other e =
    let first = sum_set n i a (λ k t. pos t) x h (rw size h) in
    let second = sum_set n j b (λ k t. pos t) (slice_set x i a) m (rw (length-set x i a, size) m) in
    let there : slice_index_or (slice_set x i a) j 0 ≡ slice_index_or x j 0 = get_or-set_other x i j a 0 (λ s. other (sym s)) in
    let last = rw there at second in
    omega (arith, ints)

pub MeetsLimits-stepped : (I : InstanceValue) (x : List ℕ) (kind : Kind) (i j : ℕ) → IsInstance I → MeetsLimits I x → j < I.market.assets → HasRoom I x kind i j → ForSome I.turnover (λ t. turnover_of I.market.assets I.present (stepped x kind i j) ≤ℤ pos t) → MeetsLimits I (stepped x kind i j)
MeetsLimits-stepped I x Move i j known meets h room turned =
    let size = meets.assets_are in
    let a = inside x i room.1 in
    let b : j < length x = rw size h in
    let count = held_moved I.market.assets i j x size room.0 room.1 room.2 h in
    let few = meets.fewest in
    let many = meets.many in
    record {
      assets_are = length-set (slice_set x i (slice_index_or x i 0 - 1)) j (slice_index_or x j 0 + 1) ∙ length-set x i (slice_index_or x i 0 - 1) ∙ size;
      lots_are = sum_two I.market.assets i j (slice_index_or x i 0 - 1) (slice_index_or x j 0 + 1) x size (rw (sym size) a) h room.0 (let l = room.1 in omega arith) ∙ meets.lots_are;
      fewest = fewest (known.limits_are.least_within.least i (rw (sym size) a)) count few room.4 (cases_lt 1 (slice_index_or x i 0));
      many = omega arith;
      least_kept = λ k l o. at_two x i j (slice_index_or x i 0 - 1) (slice_index_or x j 0 + 1) k (λ t. 0 < t → slice_index_or I.least k 0 ≤ t) a b (cases_eq k i) (cases_eq k j) (λ e p. rw e (left room.4 p)) (λ e p. let c = meets.least_kept j h room.2 in rw e (omega arith)) (meets.least_kept k l) o;
      greatest_kept = λ k l. at_two x i j (slice_index_or x i 0 - 1) (slice_index_or x j 0 + 1) k (λ t. t ≤ slice_index_or I.greatest k 0) a b (cases_eq k i) (cases_eq k j) (λ e. let c = meets.greatest_kept i (rw (sym size) a) in rw e (omega arith)) (λ e. let c = room.3 in rw e (omega arith)) (meets.greatest_kept k l);
      turnover_kept = turned;
    }
  where
    left : (slice_index_or I.least i 0 < slice_index_or x i 0) ⊎ ((slice_index_or x i 0 ≡ 1) × (I.held < held_of I.market.assets x)) → 0 < slice_index_or x i 0 - 1 → slice_index_or I.least i 0 ≤ slice_index_or x i 0 - 1
    left (inl l) p = omega arith
    left (inr l) p = let one = l.0 in absurd (omega arith)

    fewest : 1 ≤ slice_index_or I.least i 0 → held_of I.market.assets x ≡ held_of I.market.assets (lot_moved x i j) + cond (nat_lt 1 (slice_index_or x i 0)) 0 1 → I.held ≤ held_of I.market.assets x → (slice_index_or I.least i 0 < slice_index_or x i 0) ⊎ ((slice_index_or x i 0 ≡ 1) × (I.held < held_of I.market.assets x)) → (1 < slice_index_or x i 0) ⊎ (slice_index_or x i 0 ≤ 1) → I.held ≤ held_of I.market.assets (lot_moved x i j)
    fewest some count few keep (inl more) = let g : nat_lt 1 (slice_index_or x i 0) ≡ true = grind (arith, nat_tests) in let c = rw g at count in omega arith
    fewest some count few (inr last) (inr one) = let g : nat_lt 1 (slice_index_or x i 0) ≡ false = grind (arith, nat_tests) in let c = rw g at count in let l = last.1 in omega arith
    fewest some count few (inl last) (inr one) = absurd (omega arith)
MeetsLimits-stepped I x Replace i j known meets h room turned =
    let size = meets.assets_are in
    let a = inside x i room.0 in
    let b : j < length x = rw size h in
    let count = held_exchanged I.market.assets i j x size room.0 room.1 h in
    let few = meets.fewest in
    let many = meets.many in
    let other : i ≢ j = λ e. let same = ap (λ (k : ℕ). slice_index_or x k 0) e in let p = room.0 in let z = room.1 in absurd (omega arith) in
    record {
      assets_are = length-set (slice_set x i (slice_index_or x j 0)) j (slice_index_or x i 0) ∙ length-set x i (slice_index_or x j 0) ∙ size;
      lots_are = sum_two I.market.assets i j (slice_index_or x j 0) (slice_index_or x i 0) x size (rw (sym size) a) h other (omega arith) ∙ meets.lots_are;
      fewest = omega arith;
      many = omega arith;
      least_kept = λ k l o. at_two x i j (slice_index_or x j 0) (slice_index_or x i 0) k (λ t. 0 < t → slice_index_or I.least k 0 ≤ t) a b (cases_eq k i) (cases_eq k j) (λ e p. let z = room.1 in absurd (omega arith)) (λ e p. rw e room.2) (meets.least_kept k l) o;
      greatest_kept = λ k l. at_two x i j (slice_index_or x j 0) (slice_index_or x i 0) k (λ t. t ≤ slice_index_or I.greatest k 0) a b (cases_eq k i) (cases_eq k j) (λ e. let z = room.1 in rw z (omega arith)) (λ e. rw e room.3) (meets.greatest_kept k l);
      turnover_kept = turned;
    }

some_same : (m u : ℕ) → Some m ≡ Some u → m ≡ u
some_same m u e = cc

pub within_stepped : (I : InstanceValue) (x : List ℕ) (kind : Kind) (i j most after : ℕ) → IsInstance I → MeetsLimits I x → j < I.market.assets → HasRoom I x kind i j → Some most ≡ I.turnover → pos after ≡ turnover_of I.market.assets I.present (stepped x kind i j) → (IsTrue (leb after most) → MeetsLimits I (stepped x kind i j)) × (MeetsLimits I (stepped x kind i j) → IsTrue (leb after most))
within_stepped I x kind i j most after known meets h room is e = (
  λ b. MeetsLimits-stepped I x kind i j known meets h room (λ t f. let same : most ≡ t = some_same most t (is ∙ f) in let le = leb-true after most b in omega (arith, ints)),
  λ m. let kept = m.turnover_kept most (sym is) in le-leb after most (omega (arith, ints)),
)

pub free_stepped : (I : InstanceValue) (x : List ℕ) (kind : Kind) (i j : ℕ) → IsInstance I → MeetsLimits I x → j < I.market.assets → HasRoom I x kind i j → None ≡ I.turnover → (IsTrue true → MeetsLimits I (stepped x kind i j)) × (MeetsLimits I (stepped x kind i j) → IsTrue true)
free_stepped I x kind i j known meets h room is = (λ b. MeetsLimits-stepped I x kind i j known meets h room (λ t f. cc), λ m. refl)

-- where there is no room nothing is found
pub NoneBelow-full : (I : InstanceValue) (p q : ℕ) (x : List ℕ) (v : ℤ) (kind : Kind) (i j : ℕ) → length x ≡ I.market.assets → j < I.market.assets → (HasRoom I x kind i j → ⊥) → NoneBelow I p q x v kind i j
NoneBelow-full I p q x v kind i j size h full can meets = absurd (full (HasRoom-meets I x kind i j size h can meets))

-- what was found is at most the objective of the list
pub IsFoundBy-low : (I : InstanceValue) (p q : ℕ) (x : List ℕ) (v : ℤ) (step : Option Step) → IsFoundBy I p q x v step → v ≤ℤ objective I p q x
IsFoundBy-low I p q x v None is = omega (arith, ints)
IsFoundBy-low I p q x v (Some step) is = let a = is.better in omega (arith, ints)

-- a replacement moves all lots of the giver
replaced_is : (x : List ℕ) (i j : ℕ) → slice_index_or x j 0 ≡ 0 → lots_shifted x i j (slice_index_or x i 0) ≡ exchanged x i j
replaced_is x i j e = let a : slice_index_or x i 0 - slice_index_or x i 0 ≡ slice_index_or x j 0 = omega arith in let b : slice_index_or x j 0 + slice_index_or x i 0 ≡ slice_index_or x i 0 = omega arith in rw (a, b) refl

-- where the objective stays by lots that go from i to j, nothing is found
pub NoneBelow-flat : (I : InstanceValue) (p q : ℕ) (x : List ℕ) (v : ℤ) (kind : Kind) (i j : ℕ) → v ≤ℤ objective I p q x → StaysFrom I p q x i j → NoneBelow I p q x v kind i j
NoneBelow-flat I p q x v Move i j low stays can meets =
    let up = stays 1 can.0 (let a = can.1 in omega arith) in omega (arith, ints)
NoneBelow-flat I p q x v Replace i j low stays can meets =
    let other : i ≡ j → ⊥ = λ e. let same = ap (λ (k : ℕ). slice_index_or x k 0) e in let a = can.1 in let b = can.2 in absurd (omega arith) in
    let up = subst (λ (y : List ℕ). objective I p q x ≤ℤ objective I p q y) (replaced_is x i j can.2) (stays (slice_index_or x i 0) other (omega arith)) in
    omega (arith, ints)

-- an asset that isn't held gives nothing
pub NoneBelow-empty : (I : InstanceValue) (p q : ℕ) (x : List ℕ) (v : ℤ) (kind : Kind) (i : ℕ) → slice_index_or x i 0 ≡ 0 → NoneBelowFrom I p q x v kind i I.market.assets
NoneBelow-empty I p q x v Move i e j h can meets = let a = can.1 in absurd (omega arith)
NoneBelow-empty I p q x v Replace i e j h can meets = let a = can.1 in absurd (omega arith)

-- where no step of either kind leads below the objective of a list, it has no better neighbour
pub no_better : (I : InstanceValue) (p q : ℕ) (x : List ℕ) (v : ℤ) → length x ≡ I.market.assets → v ≡ objective I p q x → NoneBelowKind I p q x v Move → NoneBelowKind I p q x v Replace → HasNoBetterNeighbour I p q x
no_better I p q x v size is moves replacements y near meets = by_kind near.0 near.1 near.2
  where
    by_kind : (i j : ℕ) → IsMove x y i j ⊎ IsReplacement x y i j → objective I p q x ≤ℤ objective I p q y
    by_kind i j (inl m) =
        let a : i < I.market.assets = rw (sym size) (inside x i m.from) in
        let b : j < I.market.assets = rw (sym size) (inside x j m.to) in
        let low = moves i a j b (m.other, m.from, m.to) (subst (MeetsLimits I) m.is meets) in
        subst (λ (z : List ℕ). objective I p q x ≤ℤ objective I p q z) (sym m.is) (subst (λ (t : ℤ). t ≤ℤ objective I p q (lot_moved x i j)) is low)
    by_kind i j (inr m) =
        let a : i < I.market.assets = rw (sym size) (inside x i m.from) in
        let b : j < I.market.assets = rw (sym size) m.inside in
        let low = replacements i a j b (m.inside, m.from, m.to) (subst (MeetsLimits I) m.is meets) in
        subst (λ (z : List ℕ). objective I p q x ≤ℤ objective I p q z) (sym m.is) (subst (λ (t : ℤ). t ≤ℤ objective I p q (exchanged x i j)) is low)

-- a lower objective is less high
pub height_falls : (I : InstanceValue) (p q : ℕ) (x y : List ℕ) → unsigned_abs (objective I p q x) ≤ 2000000000000000000000000000000000 → unsigned_abs (objective I p q y) ≤ 2000000000000000000000000000000000 → objective I p q y <ℤ objective I p q x → unsigned_abs (objective I p q y +ℤ pos 2000000000000000000000000000000000) < unsigned_abs (objective I p q x +ℤ pos 2000000000000000000000000000000000)
height_falls I p q x y a b l = omega (arith, ints)

-- a taker with room has fewer than 10000 lots
pub room_small : (I : InstanceValue) (x : List ℕ) (i j : ℕ) → IsInstance I → j < I.market.assets → HasRoom I x Move i j → slice_index_or x j 0 < 10000
room_small I x i j known h room = let a = room.3 in let b = known.limits_are.greatest_within.most j h in let c = known.limits_are.lots_most in omega arith

-- one more taker of a list, one more giver
pub more_takers : (I : InstanceValue) (p q : ℕ) (x : List ℕ) (v w : ℤ) (kind : Kind) (i : ℕ) (xs : List ℕ) (n : ℕ) → ((a : ℕ) → a < n → NoneBelow I p q x v kind i (slice_index_or xs a 0)) → w ≤ℤ v → NoneBelow I p q x w kind i (slice_index_or xs n 0) → (a : ℕ) → a < n + 1 → NoneBelow I p q x w kind i (slice_index_or xs a 0)
more_takers I p q x v w kind i xs n before le here a h = by_place (cases_lt a n)
  where
    by_place : (a < n) ⊎ (n ≤ a) → NoneBelow I p q x w kind i (slice_index_or xs a 0)
    by_place (inl l) = NoneBelow-lower I p q x v w kind i (slice_index_or xs a 0) (before a l) le
    by_place (inr l) = let e : n ≡ a = omega arith in subst (λ (k : ℕ). NoneBelow I p q x w kind i (slice_index_or xs k 0)) e here

pub more_givers : (I : InstanceValue) (p q : ℕ) (x : List ℕ) (v w : ℤ) (kind : Kind) (xs : List ℕ) (n : ℕ) → ((a : ℕ) → a < n → NoneBelowFrom I p q x v kind (slice_index_or xs a 0) I.market.assets) → w ≤ℤ v → NoneBelowFrom I p q x w kind (slice_index_or xs n 0) I.market.assets → (a : ℕ) → a < n + 1 → NoneBelowFrom I p q x w kind (slice_index_or xs a 0) I.market.assets
more_givers I p q x v w kind xs n before le here a h = by_place (cases_lt a n)
  where
    by_place : (a < n) ⊎ (n ≤ a) → NoneBelowFrom I p q x w kind (slice_index_or xs a 0) I.market.assets
    by_place (inl l) = λ j m. NoneBelow-lower I p q x v w kind (slice_index_or xs a 0) j (before a l j m) le
    by_place (inr l) = let e : n ≡ a = omega arith in subst (λ (k : ℕ). NoneBelowFrom I p q x w kind (slice_index_or xs k 0) I.market.assets) e here

-- for the search of a step
pub ruleset step_laws = (NoneBelow-full, NoneBelow-empty, NoneBelow-lower)
