-- Laws of the lists of assets that can give lots or take them.
use Rattle.std.proofs.Common.{◌≡◌, ℕ, ◌+◌, ◌<◌, ◌≤◌, Bool, true, false, cond, IsTrue, nat_lt, List, length, replicate, slice_index_or, slice_set, ℤ, ◌≤ℤ◌, ◌<ℤ◌, ◌⊎◌, inl, inr, ◌∙◌, subst, arith, length-set, get_or-set_same, get_or-set_other}
use Rattle.std.proofs.lemmas.Bool.{cases_eq, cases_lt, false≢true}
use Rattle.std.proofs.lemmas.Bool.Decides.{nat_tests}
use Rattle.std.proofs.lemmas.Int.{ints, by_lt_z}
use Rattle.std.proofs.lemmas.List.{get_or-replicate, length-replicate, get_or_past}
use Rattle.gap_instance.specs.Instances.{InstanceValue, IsInstance}
use Rattle.gap_instance.specs.Objective.{objective}
use Rattle.gap_objective.specs.Slopes.{slope_of}
use Rattle.gap_objective.proofs.FallLaws.{StaysFrom-level}
use Rattle.gap_start.specs.declared.step.Kind.{Kind}
use Rattle.gap_start.specs.declared.step.Kind.TheVariants.{Move, Replace}
use Rattle.gap_start.specs.Places.{IsAmong, AreAll, IsGiver, CanTake, IsTaker, IsSteepest}
use Rattle.gap_start.specs.Steps.{CanStep, NoneBelow, NoneBelowFrom, NoneBelowKind}
use Rattle.gap_start.proofs.StepLaws.{NoneBelow-flat}

-- ---- a list of places that grows
filled_at : (n a v : ℕ) → slice_index_or (replicate n v) a v ≡ v
filled_at n a v = by_place (cases_lt a n)
  where
    by_place : (a < n) ⊎ (n ≤ a) → slice_index_or (replicate n v) a v ≡ v
    by_place (inl l) = get_or-replicate n a v v l
    by_place (inr l) = get_or_past (replicate n v) a v (rw (length-replicate n v) l)

pub AreAll-none : (P : ℕ → Type 0) (n : ℕ) → 2 ≤ n → AreAll P n 0 (replicate n 0) 0
AreAll-none P n h = record {
  size = length-replicate n 0;
  few = omega arith;
  inside = λ a. rw (filled_at n a 0) (omega arith);
  all = λ i l p. absurd (omega arith);
}

set_inside : (n : ℕ) (xs : List ℕ) (k v : ℕ) → length xs ≡ n → k < n → v < n → ((a : ℕ) → slice_index_or xs a 0 < n) → (a : ℕ) → slice_index_or (slice_set xs k v) a 0 < n
set_inside n xs k v size l h before a = by_place (cases_eq a k)
  where
    by_place : (a ≡ k) ⊎ (a ≡ k → ⊥) → slice_index_or (slice_set xs k v) a 0 < n
    by_place (inl e) = rw (e, get_or-set_same xs k v 0 (rw size l)) h
    by_place (inr ne) = rw (get_or-set_other xs k a v 0 ne) (before a)

among_set : (xs : List ℕ) (k v i : ℕ) → IsAmong xs k i → IsAmong (slice_set xs k v) k i
among_set xs k v i (a, l, e) = (a, l, get_or-set_other xs k a v 0 (λ (s : a ≡ k). absurd (omega arith)) ∙ e)

pub AreAll-more : (P : ℕ → Type 0) (n m : ℕ) (xs : List ℕ) (k : ℕ) (wanted : Bool) → AreAll P n m xs k → m < n → (P m → IsTrue wanted) → AreAll P n (m + 1) (slice_set xs k m) (k + cond wanted 1 0)
AreAll-more P n m xs k true before l give =
    let few = before.few in
    record {
      size = length-set xs k m ∙ before.size;
      few = omega arith;
      inside = set_inside n xs k m before.size (omega arith) l before.inside;
      all = λ i h p. by_place i h p (cases_lt i m);
    }
  where
    by_place : (i : ℕ) → i < m + 1 → P i → (i < m) ⊎ (m ≤ i) → IsAmong (slice_set xs k m) (k + 1) i
    by_place i h p (inl below) = let old = among_set xs k m i (before.all i below p) in (old.0, let o = old.1 in omega arith, old.2)
    by_place i h p (inr here) = let f = before.few in let e : m ≡ i = omega arith in (k, omega arith, get_or-set_same xs k m 0 (rw before.size (omega arith)) ∙ e)
AreAll-more P n m xs k false before l give =
    let few = before.few in
    record {
      size = length-set xs k m ∙ before.size;
      few = omega arith;
      inside = set_inside n xs k m before.size (omega arith) l before.inside;
      all = λ i h p. by_place i h p (cases_lt i m);
    }
  where
    by_place : (i : ℕ) → i < m + 1 → P i → (i < m) ⊎ (m ≤ i) → IsAmong (slice_set xs k m) (k + 0) i
    by_place i h p (inl below) = let old = among_set xs k m i (before.all i below p) in (old.0, let o = old.1 in omega arith, old.2)
    by_place i h p (inr here) = let e : i ≡ m = omega arith in absurd (false≢true (give (subst P e p)))

pub positive : (a : ℕ) → 0 < a → IsTrue (nat_lt 0 a)
positive a h = grind (arith, nat_tests)

-- what holds of the first k numbers holds of each place among them
pub of_among : (P : ℕ → Type 0) (xs : List ℕ) (k i : ℕ) → ((a : ℕ) → a < k → P (slice_index_or xs a 0)) → IsAmong xs k i → P i
of_among P xs k i each (a, l, e) = subst P e (each a l)

-- ---- the steepest of the held assets
pub IsSteepest-whole : (I : InstanceValue) (p q : ℕ) (x : List ℕ) (xs : List ℕ) (k top : ℕ) → AreAll (IsGiver x) I.market.assets I.market.assets xs k → ((a : ℕ) → a < k → slope_of I p q x (slice_index_or xs a 0) ≤ℤ slope_of I p q x top) → IsSteepest I p q x top
IsSteepest-whole I p q x xs k top givers each i h held = of_among (λ (m : ℕ). slope_of I p q x m ≤ℤ slope_of I p q x top) xs k i each (givers.all i h held)

-- ---- steps from one giver, and from all
can_take : (x : List ℕ) (kind : Kind) (i j : ℕ) → CanStep x kind i j → CanTake x kind j
can_take x Move i j can = can.2
can_take x Replace i j can = can.2

gives : (x : List ℕ) (kind : Kind) (i j : ℕ) → CanStep x kind i j → IsGiver x i
gives x Move i j can = can.1
gives x Replace i j can = can.1

-- where nothing is found at the takers, nothing is at the others
pub NoneBelowFrom-takers : (I : InstanceValue) (p q : ℕ) (x : List ℕ) (v : ℤ) (kind : Kind) (i top : ℕ) (xs : List ℕ) (k : ℕ) → IsInstance I → length x ≡ I.market.assets → i < I.market.assets → v ≤ℤ objective I p q x → IsSteepest I p q x top → AreAll (IsTaker I p q x kind top) I.market.assets I.market.assets xs k → ((a : ℕ) → a < k → NoneBelow I p q x v kind i (slice_index_or xs a 0)) → NoneBelowFrom I p q x v kind i I.market.assets
NoneBelowFrom-takers I p q x v kind i top xs k known size hi low steepest takers each j hj can meets =
    by_lt_z (slope_of I p q x j) (slope_of I p q x top)
    (λ (lower : slope_of I p q x j <ℤ slope_of I p q x top). of_among (λ (m : ℕ). NoneBelow I p q x v kind i m) xs k j each (takers.all j hj (can_take x kind i j can, lower)) can meets)
    (λ (level : slope_of I p q x top ≤ℤ slope_of I p q x j).
    let steep = steepest i hi (gives x kind i j can) in
    NoneBelow-flat I p q x v kind i j low (StaysFrom-level I p q x i j known.market_is size hi hj (omega (arith, ints))) can meets)

-- where nothing is found from the givers, nothing is from the others
pub NoneBelowKind-givers : (I : InstanceValue) (p q : ℕ) (x : List ℕ) (v : ℤ) (kind : Kind) (xs : List ℕ) (k : ℕ) → AreAll (IsGiver x) I.market.assets I.market.assets xs k → ((a : ℕ) → a < k → NoneBelowFrom I p q x v kind (slice_index_or xs a 0) I.market.assets) → NoneBelowKind I p q x v kind
NoneBelowKind-givers I p q x v kind xs k givers each i hi j hj can meets =
    of_among (λ (m : ℕ). NoneBelowFrom I p q x v kind m I.market.assets) xs k i each (givers.all i hi (gives x kind i j can)) j hj can meets
