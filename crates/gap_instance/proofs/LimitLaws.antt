-- Laws of the limits.
use Rattle.std.proofs.Common.{◌≡◌, ℕ, zero, suc, ◌<◌, ◌≤◌, List, [], ◌∷◌, length, replicate, slice_index_or, inl, inr, refl, arith}
use Rattle.std.proofs.lemmas.List.{get_or-replicate, length-replicate}
use Rattle.std.proofs.lemmas.Int.{ints}
use Rattle.gap_instance.specs.Instances.{InstanceValue, IsInstance, AreBetween}
use Rattle.gap_instance.specs.Limits.{MeetsLimits, HoldsOutside, IsFirstBroken, TurnsTooMuch}
use Rattle.gap_instance.specs.declared.keeps.Broken.{Broken}
use Rattle.gap_instance.specs.declared.keeps.Broken.TheVariants.{Length, Lots, Held, Least, Greatest, Turnover}

-- a list whose turnover is above the limit does not meet the limits
pub turned_not_kept : (I : InstanceValue) (x : List ℕ) → TurnsTooMuch I x → MeetsLimits I x → ⊥
turned_not_kept I x h k = let a = k.turnover_kept h.0 h.1 in let b = h.2 in omega (arith, ints)

-- a list that holds too few or too many assets does not meet the limits
pub outside_not_kept : (I : InstanceValue) (x : List ℕ) → HoldsOutside I x → MeetsLimits I x → ⊥
outside_not_kept I x (inl few) k = let a = k.fewest in omega arith
outside_not_kept I x (inr many) k = let a = k.many in omega arith

-- a list that breaks a limit does not meet the limits
pub broken_not_kept : (I : InstanceValue) (x : List ℕ) (b : Broken) → IsFirstBroken I x b → MeetsLimits I x → ⊥
broken_not_kept I x Length h k = h k.assets_are
broken_not_kept I x Lots h k = h.1 k.lots_are
broken_not_kept I x Held h k = outside_not_kept I x h.2 k
broken_not_kept I x (Least i) h k = let a = k.least_kept i h.1.below h.1.here.0 in let b = h.1.here.1 in omega arith
broken_not_kept I x (Greatest i) h k = let a = k.greatest_kept i h.2.below in let b = h.2.here in omega arith
broken_not_kept I x Turnover h k = turned_not_kept I x h.3 k

-- n times one number in low..high
pub AreBetween-replicate : (n low high v : ℕ) → low ≤ v → v ≤ high → AreBetween n low high (replicate n v)
AreBetween-replicate n low high v p q = record {
  count = length-replicate n v;
  least = λ i h. rw (get_or-replicate n i v 0 h) p;
  most = λ i h. rw (get_or-replicate n i v 0 h) q;
}

-- n numbers that are all v, in low..high
pub AreBetween-all : (n low high v : ℕ) (xs : List ℕ) → length xs ≡ n → ((i : ℕ) → i < n → slice_index_or xs i 0 ≡ v) → low ≤ v → v ≤ high → AreBetween n low high xs
AreBetween-all n low high v xs size is p q = record {
  count = size;
  least = λ i h. rw (is i h) p;
  most = λ i h. rw (is i h) q;
}

two_within : (P : ℕ → Type 0) (a b : ℕ) → P a → P b → (i : ℕ) → i < 2 → P (slice_index_or (a ∷ b ∷ []) i 0)
two_within P a b p q zero h = p
two_within P a b p q (suc zero) h = q
two_within P a b p q (suc (suc i)) h = absurd (omega arith)

-- a list of two numbers in low..high
pub AreBetween-two : (low high a b : ℕ) → low ≤ a → low ≤ b → a ≤ high → b ≤ high → AreBetween 2 low high (a ∷ b ∷ [])
AreBetween-two low high a b p q u v = record { count = refl; least = two_within (λ n. low ≤ n) a b p q; most = two_within (λ n. n ≤ high) a b u v }

three_within : (P : ℕ → Type 0) (a b c : ℕ) → P a → P b → P c → (i : ℕ) → i < 3 → P (slice_index_or (a ∷ b ∷ c ∷ []) i 0)
three_within P a b c p q r zero h = p
three_within P a b c p q r (suc zero) h = q
three_within P a b c p q r (suc (suc zero)) h = r
three_within P a b c p q r (suc (suc (suc i))) h = absurd (omega arith)

-- a list of three numbers in low..high
pub AreBetween-three : (low high a b c : ℕ) → low ≤ a → low ≤ b → low ≤ c → a ≤ high → b ≤ high → c ≤ high → AreBetween 3 low high (a ∷ b ∷ c ∷ [])
AreBetween-three low high a b c p q r u v w = record { count = refl; least = three_within (λ n. low ≤ n) a b c p q r; most = three_within (λ n. n ≤ high) a b c u v w }

-- for lists of few numbers
pub ruleset few_numbers = (AreBetween-two, AreBetween-three, AreBetween-replicate)

-- the numbers of a list that meets the limits are at most 10000, so that its risk, return and objective can be taken
pub AreBetween-meets : (I : InstanceValue) (x : List ℕ) → IsInstance I → MeetsLimits I x → AreBetween I.market.assets 0 10000 x
AreBetween-meets I x known meets = record {
  count = meets.assets_are;
  least = λ i p. omega arith;
  most = λ i p. let a = meets.greatest_kept i p in let b = known.limits_are.greatest_within.most i p in let c = known.limits_are.lots_most in omega arith;
}
