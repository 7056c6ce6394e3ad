-- A plain instance has an order that gives a list: that of its assets' numbers.
use Rattle.std.proofs.Common.{◌≡◌, ℕ, zero, suc, ◌+◌, ◌*◌, ◌<◌, ◌≤◌, inr, List, length, slice_index_or, pos, refl, sym, ap, ◌∙◌, subst, arith}
use Rattle.std.specs.List.{range_with_len}
use Rattle.std.proofs.lemmas.List.FromFn.{get_or-range_with_len, length-range_with_len}
use Rattle.std.proofs.Math.Nat.{le_of_mul-le-mul_left}
use Rattle.gap_base.specs.declared.job.Job.{Job}
use Rattle.gap_base.specs.Markets.{MarketValue}
use Rattle.gap_valid.specs.Said.{said_market}
use Rattle.gap_instance.specs.declared.order.By.TheVariants.{Least}
use Rattle.gap_instance.specs.Instances.{InstanceValue, IsInstance, instance_of}
use Rattle.gap_instance.specs.Orders.{CanBeHeld, StandsBefore, number_of, IsOrder, SomeOrderGives}
use Rattle.gap_start.specs.Plain.{IsPlain}
use Rattle.gap_start.proofs.PlainLaws.{some_gives}

-- the numbers of the assets
abbrev numbers : ℕ → List ℕ
numbers n = range_with_len 0 n

number_at : (n k : ℕ) → k < n → slice_index_or (numbers n) k 0 ≡ k
number_at n k less = get_or-range_with_len 0 n k 0 less ∙ none_more k
  where
    none_more : (m : ℕ) → 0 + m ≡ m
    none_more m = omega arith

le_both : (a b c : ℕ) → a ≤ b → b ≤ c → a ≤ c
le_both a b c h k = omega arith

low_high : (count low high lots : ℕ) → 1 ≤ lots → count * low ≤ lots → lots ≤ count * high → low ≤ high
low_high zero low high lots some least greatest = absurd (omega arith)
low_high (suc count) low high lots some least greatest = le_of_mul-le-mul_left (le_both (suc count * low) lots (suc count * high) least greatest) (omega arith)

-- each asset of a plain instance can be held
can_hold : (I : InstanceValue) (i : ℕ) → IsInstance I → IsPlain I → i < I.market.assets → CanBeHeld I i
can_hold I i known plain inside = record {
  inside = inside;
  limits = let a = plain.low_is i inside in
      let b = plain.high_is i inside in
      let c = low_high plain.count plain.low plain.high I.lots known.limits_are.lots_least plain.least_fits plain.greatest_fits in omega arith;
}

same_least : (I : InstanceValue) (p q i j : ℕ) → IsPlain I → i < I.market.assets → j < I.market.assets → number_of I p q Least i ≡ number_of I p q Least j
same_least I p q i j plain first second = ap pos (plain.low_is i first ∙ sym (plain.low_is j second))

before : (I : InstanceValue) (p q i j : ℕ) → IsPlain I → i < I.market.assets → j < I.market.assets → i < j → StandsBefore I p q Least i j
before I p q i j plain first second less = inr (refl, inr (same_least I p q i j plain first second, less))

-- their order by the least lots is that of the numbers, since all least lots are the same
in_order : (I : InstanceValue) (p q : ℕ) → IsInstance I → IsPlain I → IsOrder I p q Least (numbers I.market.assets)
in_order I p q known plain =
    let n : ℕ = I.market.assets in
    let count : length (numbers n) ≡ n = length-range_with_len 0 n in
    record {
      inside = λ k less. subst (CanBeHeld I) (sym (number_at n k (omega arith))) (can_hold I k known plain (omega arith));
      all = λ i can. (i, subst (λ (m : ℕ). i < m) (sym count) can.inside, number_at n i can.inside);
      once = λ k l less end same. let a = number_at n k (omega arith) in let b = number_at n l (omega arith) in absurd (omega arith);
      sorted = λ k l less end. subst (λ (i : ℕ). StandsBefore I p q Least i (slice_index_or (numbers n) l 0)) (sym (number_at n k (omega arith)))
          (subst (StandsBefore I p q Least k) (sym (number_at n l (omega arith))) (before I p q k l plain (omega arith) (omega arith) less));
    }

pub plain_gives : (I : InstanceValue) (p q : ℕ) → IsInstance I → IsPlain I → SomeOrderGives I p q
plain_gives I p q known plain = some_gives I p q Least (numbers I.market.assets) known plain (in_order I p q known plain)

-- a plain instance is plain as the head of a certificate says it
pub plain_said : (m : MarketValue) (job : Job) → IsPlain (instance_of m job) → IsPlain (instance_of (said_market m) job)
unfolding said_market
plain_said m job plain = plain
