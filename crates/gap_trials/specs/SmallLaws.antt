-- The small bound keeps what prices keep. Own to portgap.

use Rattle.std.proofs.Common.{◌≡◌, ℕ, ◌+◌, ◌*◌, ◌%◌, ◌<◌, ◌≤◌, true, false, ◌&&◌, eqb, leb, List, sum, slice_index_or, ◌⊎◌, inl, inr, ℤ, pos, negsuc, ◌+ℤ◌, ◌-ℤ◌, ◌*ℤ◌, ◌≤ℤ◌, ◌<ℤ◌, unsigned_abs, refl, sym, ◌∙◌, arith}
use Rattle.std.proofs.lemmas.Int.{ints}
use Rattle.std.proofs.lemmas.Bool.Decides.{nat_tests}
use Rattle.std.proofs.lemmas.Bool.{cases_lt, eqb-true, leb-true, le-leb, and_parts, and_from}
use Rattle.gap_box.specs.Parts.{in_part, held_count, IsPick}
use Rattle.gap_model.specs.declared.leaf.Leaf.{Leaf}
use Rattle.gap_model.specs.declared.leaf.Leaf.TheVariants.{Count, Void, Tangent}
use Rattle.gap_model.specs.Leaves.{entries_from}
use Rattle.gap_model.specs.Tight.{is_tangent}
use Rattle.gap_model.specs.Priced.{IsPriced, Charges, IsExactAt, is_void}
use Rattle.gap_model.specs.Problems.{IsTangentAt, IsBound}
use Rattle.gap_model.proofs.LeafLaws.{entries_of_lots}
use Rattle.gap_model.proofs.PricedLaws.{priced_lawful}
use Rattle.gap_trials.specs.Small.{small_whole, place_of, cost_of, small_meets, apart, distance, charge, small_price, small_prices, small}

-- ---- lists that meet the limits
-- a list meets the limits, said by facts
pub record Meets (lots : ℕ) (x : List ℕ) : Type 0 where
  pub pick : IsPick small_whole 1 2 x
  pub total : sum x ≡ lots

pub meets_facts : (lots : ℕ) (x : List ℕ) → small_meets lots x ≡ true → Meets lots x
meets_facts lots x e =
    let a = and_parts (in_part small_whole x) (leb 1 (held_count x) && (leb (held_count x) 2 && eqb (sum x) lots)) e in
    let b = and_parts (leb 1 (held_count x)) (leb (held_count x) 2 && eqb (sum x) lots) a.1 in
    let d = and_parts (leb (held_count x) 2) (eqb (sum x) lots) b.1 in
    record {
      pick = record {
        inside = a.0;
        few = leb-true 1 (held_count x) b.0;
        many = leb-true (held_count x) 2 d.0;
      };
      total = eqb-true (sum x) lots d.1;
    }

pub meets_from : (lots : ℕ) (x : List ℕ) → IsPick small_whole 1 2 x → sum x ≡ lots → small_meets lots x ≡ true
meets_from lots x p e =
    and_from (in_part small_whole x) _ p.inside
    (and_from (leb 1 (held_count x)) _ (le-leb 1 (held_count x) p.few)
    (and_from (leb (held_count x) 2) _ (le-leb (held_count x) 2 p.many) (eq_test (sum x) lots e))) where
      eq_test : (a b : ℕ) → a ≡ b → eqb a b ≡ true
      eq_test a b q = grind (arith, nat_tests)

-- ---- costs and charges
below_97 : (n : ℕ) → n % 97 < 97
below_97 n = omega arith

pub cost_small : (seed : ℕ) (x : List ℕ) → unsigned_abs (cost_of seed x) ≤ 48
cost_small seed x =
    small_by (seed * (place_of x + 1) * (place_of x + 1) % 97) (below_97 (seed * (place_of x + 1) * (place_of x + 1)))
  where
    small_by : (r : ℕ) → r < 97 → unsigned_abs (pos r -ℤ pos 48) ≤ 48
    small_by r h = omega (arith, ints)

pub no_charge : (lots : ℕ) (alpha : ℤ) (x : List ℕ) → sum x ≡ lots → charge lots alpha x ≡ pos 0
no_charge lots alpha x e = let z = level (sum x) lots e in rw z (none_by alpha) where
  level : (a b : ℕ) → a ≡ b → pos a -ℤ pos b ≡ pos 0
  level a b q = omega (arith, ints)

  none_by : (v : ℤ) → v *ℤ pos 0 ≡ pos 0
  none_by v = omega (arith, ints)

-- the point at eight times a list is nowhere away from it
pub at_the_point : (x : List ℕ) (i : ℕ) → apart (entries_from 0 x) x i ≡ 0
at_the_point x i = rw (entries_of_lots x i) (none_by (slice_index_or x i 0)) where
  none_by : (v : ℕ) → unsigned_abs (pos (8 * v) -ℤ pos 8 *ℤ pos v) ≡ 0
  none_by v = omega (arith, ints)

-- ---- the laws of prices
small_below : (seed lots : ℕ) (leaf : Leaf) (x : List ℕ) → is_tangent leaf ≡ true → small_meets lots x ≡ true
    → small_price seed lots leaf x ≤ℤ (pos 64 *ℤ cost_of seed x)
small_below seed lots Count x e m = cc
small_below seed lots (Void alpha tau third) x e m = cc
small_below seed lots (Tangent y alpha tau third) x e m =
    below_by (cost_of seed x) (distance y.now x) (charge lots alpha x)
    (no_charge lots alpha x (meets_facts lots x m).total) where
      below_by : (c : ℤ) (d : ℕ) (b : ℤ) → b ≡ pos 0 → (pos 64 *ℤ (c -ℤ pos d) +ℤ b) ≤ℤ (pos 64 *ℤ c)
      below_by c d b z = omega (arith, ints)

small_paid : (seed lots : ℕ) (leaf : Leaf) (x : List ℕ) → is_void leaf ≡ true → small_meets lots x ≡ true
    → small_price seed lots leaf x ≤ℤ pos 0
small_paid seed lots Count x e m = cc
small_paid seed lots (Tangent y alpha tau third) x e m = cc
small_paid seed lots (Void alpha tau third) x e m =
    rw (no_charge lots alpha x (meets_facts lots x m).total) (omega (arith, ints))

small_exact : (seed lots : ℕ) (leaf : Leaf) (x : List ℕ) → small_meets lots x ≡ true → IsTangentAt x leaf
    → IsExactAt (small_prices seed lots) x leaf
small_exact seed lots Count x m t = absurd t
small_exact seed lots (Void alpha tau third) x m t = absurd t
small_exact seed lots (Tangent y alpha tau third) x m t = record {
  said = record { in_range = rw t.1 refl; says = refl };
  exact =
      exact_by (cost_of seed x) (distance y.now x) (charge lots alpha x) there
      (no_charge lots alpha x (meets_facts lots x m).total);
} where
  there : distance y.now x ≡ 0
  there = let a = at_the_point x 0 in let b = at_the_point x 1 in let d = at_the_point x 2 in rw t.0 (omega arith)

  exact_by : (c : ℤ) (d : ℕ) (b : ℤ) → d ≡ 0 → b ≡ pos 0 → pos 64 *ℤ (c -ℤ pos d) +ℤ b ≡ pos 64 *ℤ c
  exact_by c d b e z = omega (arith, ints)

small_charged : (seed lots : ℕ) (x : List ℕ) → IsPick small_whole 1 2 x → small_meets lots x ≡ false
    → (third : ℤ) × (Charges (small_prices seed lots) x (Void (pos 1) (pos 0) third)
    ⊎ Charges (small_prices seed lots) x (Void (negsuc 0) (pos 0) third)
    ⊎ Charges (small_prices seed lots) x (Void (pos 0) (pos 1) third))
small_charged seed lots x p e = (pos 0, by_sum (order (sum x) lots)) where
  order : (a b : ℕ) → (b < a) ⊎ (a < b) ⊎ (a ≡ b)
  order a b = from_cases (cases_lt b a) (cases_lt a b) where
    from_cases : (b < a) ⊎ (a ≤ b) → (a < b) ⊎ (b ≤ a) → (b < a) ⊎ (a < b) ⊎ (a ≡ b)
    from_cases (inl h) k = inl h
    from_cases (inr h) (inl k) = inr (inl k)
    from_cases (inr h) (inr k) = inr (inr (omega arith))

  both : true ≡ false → ⊥
  both q = cc

  above : (a b : ℕ) → b < a → pos 0 <ℤ (pos 1 *ℤ (pos a -ℤ pos b))
  above a b h = omega (arith, ints)

  under : (a b : ℕ) → a < b → pos 0 <ℤ (negsuc 0 *ℤ (pos a -ℤ pos b))
  under a b h = omega (arith, ints)

  by_sum : (lots < sum x) ⊎ (sum x < lots) ⊎ (sum x ≡ lots)
      → Charges (small_prices seed lots) x (Void (pos 1) (pos 0) (pos 0))
      ⊎ Charges (small_prices seed lots) x (Void (negsuc 0) (pos 0) (pos 0))
      ⊎ Charges (small_prices seed lots) x (Void (pos 0) (pos 1) (pos 0))
  by_sum (inl h) = inl (record { said = record { in_range = refl; says = refl }; positive = above (sum x) lots h })
  by_sum (inr (inl h)) =
      inr (inl (record { said = record { in_range = refl; says = refl }; positive = under (sum x) lots h }))
  by_sum (inr (inr h)) = absurd (both (sym (meets_from lots x p h) ∙ e))

pub small_priced : (seed lots : ℕ) → IsPriced (small_prices seed lots)
small_priced seed lots = record {
  range = omega arith;
  picked = λ x m. (meets_facts lots x m).pick;
  sizes = λ x m. (let s = cost_small seed x in omega arith);
  counts = refl;
  below = λ leaf x e s m. small_below seed lots leaf x e m;
  paid = λ leaf x e s m. small_paid seed lots leaf x e m;
  exact = λ leaf x m t. small_exact seed lots leaf x m t;
  charged = λ x p e. small_charged seed lots x p e;
}

pub small_lawful : (seed lots : ℕ) → IsBound (small seed lots)
small_lawful seed lots = priced_lawful (small_prices seed lots) (small_priced seed lots)
