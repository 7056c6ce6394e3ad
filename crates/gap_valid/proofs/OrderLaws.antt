-- The orders of an instance give a list exactly where those of its said one do.

use Rattle.std.proofs.Common.{◌≡◌, ◌↔◌, ℕ, List, ℤ, refl, sym, ap, subst, slice_index_or}
use Rattle.gap_instance.specs.declared.order.By.{By}
use Rattle.gap_instance.specs.declared.order.By.TheVariants.{Key, Least, Greatest}
use Rattle.gap_instance.specs.Instances.{InstanceValue}
use Rattle.gap_instance.specs.Orders.{CanBeHeld, alone, IsBefore, group_of, key_or_present, number_of, StandsBefore, IsOrder, sum_held, start_turnover, GivesList, SomeOrderGives}
use Rattle.gap_valid.specs.Said.{said_market, said_instance}
use Rattle.gap_valid.proofs.SaidLaws.{objective_said}

group_said : (I : InstanceValue) (by : By) (i : ℕ) → group_of (said_instance I) by i ≡ group_of I by i
unfolding said_instance
group_said I Key i = refl
group_said I Least i = refl
group_said I Greatest i = refl

number_said : (I : InstanceValue) (p q : ℕ) (by : By) (i : ℕ) → number_of (said_instance I) p q by i ≡ number_of I p q by i
unfolding said_instance said_market
number_said I p q Key i = ap (λ (k : ℤ). key_or_present I.turnover (slice_index_or I.present i 0) k) (objective_said I p q (alone I i))
number_said I p q Least i = refl
number_said I p q Greatest i = refl

before_along : (g g' o o' : ℕ) (n n' t t' : ℤ) (i j : ℕ) → g ≡ g' → o ≡ o' → n ≡ n' → t ≡ t' → IsBefore g o n t i j → IsBefore g' o' n' t' i j
before_along g g' o o' n n' t t' i j a b c d h =
    subst (λ (z : ℤ). IsBefore g' o' n' z i j) d (subst (λ (z : ℤ). IsBefore g' o' z t i j) c (subst (λ (z : ℕ). IsBefore g' z n t i j) b (subst (λ (z : ℕ). IsBefore z o n t i j) a h)))

before_from : (I : InstanceValue) (p q : ℕ) (by : By) (i j : ℕ) → StandsBefore (said_instance I) p q by i j → StandsBefore I p q by i j
before_from I p q by i j h =
    before_along (group_of (said_instance I) by i) (group_of I by i) (group_of (said_instance I) by j) (group_of I by j)
    (number_of (said_instance I) p q by i) (number_of I p q by i) (number_of (said_instance I) p q by j) (number_of I p q by j) i j
    (group_said I by i) (group_said I by j) (number_said I p q by i) (number_said I p q by j) h

before_to : (I : InstanceValue) (p q : ℕ) (by : By) (i j : ℕ) → StandsBefore I p q by i j → StandsBefore (said_instance I) p q by i j
before_to I p q by i j h =
    before_along (group_of I by i) (group_of (said_instance I) by i) (group_of I by j) (group_of (said_instance I) by j)
    (number_of I p q by i) (number_of (said_instance I) p q by i) (number_of I p q by j) (number_of (said_instance I) p q by j) i j
    (sym (group_said I by i)) (sym (group_said I by j)) (sym (number_said I p q by i)) (sym (number_said I p q by j)) h

held_from : (I : InstanceValue) (i : ℕ) → CanBeHeld (said_instance I) i → CanBeHeld I i
unfolding said_instance said_market
held_from I i h = record { inside = h.inside; limits = h.limits }

held_to : (I : InstanceValue) (i : ℕ) → CanBeHeld I i → CanBeHeld (said_instance I) i
unfolding said_instance said_market
held_to I i h = record { inside = h.inside; limits = h.limits }

order_from : (I : InstanceValue) (p q : ℕ) (by : By) (order : List ℕ) → IsOrder (said_instance I) p q by order → IsOrder I p q by order
order_from I p q by order h = record {
  inside = λ k l. held_from I _ (h.inside k l);
  all = λ i c. h.all i (held_to I i c);
  once = h.once;
  sorted = λ k l a b. before_from I p q by _ _ (h.sorted k l a b);
}

order_to : (I : InstanceValue) (p q : ℕ) (by : By) (order : List ℕ) → IsOrder I p q by order → IsOrder (said_instance I) p q by order
order_to I p q by order h = record {
  inside = λ k l. held_to I _ (h.inside k l);
  all = λ i c. h.all i (held_from I i c);
  once = h.once;
  sorted = λ k l a b. before_to I p q by _ _ (h.sorted k l a b);
}

gives_from : (I : InstanceValue) (p q : ℕ) (by : By) (k : ℕ) (order : List ℕ) → GivesList (said_instance I) p q by k order → GivesList I p q by k order
unfolding said_instance said_market sum_held start_turnover
gives_from I p q by k order h = record {
  order_is = order_from I p q by order h.order_is;
  enough = h.enough;
  gives = record { least_fits = h.gives.least_fits; greatest_fits = h.gives.greatest_fits; turnover_fits = h.gives.turnover_fits };
}

gives_to : (I : InstanceValue) (p q : ℕ) (by : By) (k : ℕ) (order : List ℕ) → GivesList I p q by k order → GivesList (said_instance I) p q by k order
unfolding said_instance said_market sum_held start_turnover
gives_to I p q by k order h = record {
  order_is = order_to I p q by order h.order_is;
  enough = h.enough;
  gives = record { least_fits = h.gives.least_fits; greatest_fits = h.gives.greatest_fits; turnover_fits = h.gives.turnover_fits };
}

pub orders_said : (I : InstanceValue) (p q : ℕ) → SomeOrderGives (said_instance I) p q ↔ SomeOrderGives I p q
unfolding said_instance
orders_said I p q =
    (λ h. (h.0, h.1, h.2, h.3, h.4, gives_from I p q h.0 h.1 h.2 h.5), λ h. (h.0, h.1, h.2, h.3, h.4, gives_to I p q h.0 h.1 h.2 h.5))
