-- The least price of the small bound is found by going over 64 places.

use Rattle.std.proofs.Common.{◌≡◌, ℕ, ◌+◌, ◌*◌, ◌%◌, ◌/◌, ◌<◌, ◌≤◌, List, [], ◌∷◌, Option, Some, None, ◌⊎◌, inl, inr, ℤ, pos, ◌*ℤ◌, ◌≤ℤ◌, ◌<ℤ◌, IsTrue, refl, sym, ap, ◌∙◌, subst, arith}
use Rattle.std.proofs.lemmas.Int.{ints, clamps, by_lt_z}
use Rattle.std.specs.Int.{int_min}
use Rattle.std.proofs.lemmas.Bool.{cases_lt}
use Rattle.std.proofs.lemmas.Bool.Decides.{nat_tests}
use Rattle.gap_box.specs.declared.cell.Cell.{Cell}
use Rattle.gap_box.specs.Parts.{in_part, IsPick, IsWithin}
use Rattle.gap_model.specs.Theta.{picks, lesser, least_value}
use Rattle.gap_model.proofs.ThetaLaws.{least_is, none_least}
use Rattle.gap_trials.specs.Small.{small_whole, place_of, list_at, IsLeastBelow}

-- ---- the places of lists
-- a list of the root stands at a place below 64, and is the list of that place
pub record IsPlaced (x : List ℕ) : Type 0 where
  pub place : place_of x < 64
  pub list : list_at (place_of x) ≡ x

pub placed : (x : List ℕ) → IsTrue (in_part small_whole x) → IsPlaced x
placed [] e = cc
placed (a ∷ []) e = grind (arith, nat_tests)
placed (a ∷ b ∷ []) e = grind (arith, nat_tests)
placed (a ∷ b ∷ c ∷ []) e = (let h = parts_small a b c e in record { place = place_small a b c h.0 h.1 h.2; list = same_list a b c h.0 h.1 h.2 }) where
  parts_small : (a b c : ℕ) → IsTrue (in_part small_whole (a ∷ b ∷ c ∷ [])) → (a ≤ 3) × (b ≤ 3) × (c ≤ 3)
  parts_small a b c e = grind (arith, nat_tests)

  place_small : (a b c : ℕ) → a ≤ 3 → b ≤ 3 → c ≤ 3 → a + 4 * b + 16 * c < 64
  place_small a b c h k l = omega arith

  three : (a b c d e f : ℕ) → a ≡ d → b ≡ e → c ≡ f → ◌≡◌ {A = List ℕ} (a ∷ b ∷ c ∷ []) (d ∷ e ∷ f ∷ [])
  three a b c d e f h k l = cc

  same_list : (a b c : ℕ) → a ≤ 3 → b ≤ 3 → c ≤ 3 → ◌≡◌ {A = List ℕ} ((a + 4 * b + 16 * c) % 4 ∷ (a + 4 * b + 16 * c) / 4 % 4 ∷ (a + 4 * b + 16 * c) / 16 ∷ []) (a ∷ b ∷ c ∷ [])
  same_list a b c h k l = three _ _ _ a b c (omega arith) (omega arith) (omega arith)
placed (a ∷ b ∷ c ∷ d ∷ x) e = grind (arith, nat_tests)

pub place_back : (k : ℕ) → k < 64 → place_of (list_at k) ≡ k
place_back k h = omega arith

-- ---- the least, place by place
next_cases : (m n : ℕ) → m < n + 1 → (m < n) ⊎ (m ≡ n)
next_cases m n q = from_cases (cases_lt m n) where
  from_cases : (m < n) ⊎ (n ≤ m) → (m < n) ⊎ (m ≡ n)
  from_cases (inl h) = inl h
  from_cases (inr h) = inr (omega arith)

pub least_past : (f : List ℕ → ℤ) (cells : List Cell) (k : ℕ) (o : Option ℤ) → IsWithin cells small_whole → (IsPick cells 1 2 (list_at k) → ⊥) → IsLeastBelow f cells k o → IsLeastBelow f cells (k + 1) o
least_past f cells k o w out h = past_by o h where
  before : (x : List ℕ) → IsPick cells 1 2 x → place_of x < k + 1 → place_of x < k
  before x p l = before_by (next_cases (place_of x) k l) where
    before_by : (place_of x < k) ⊎ (place_of x ≡ k) → place_of x < k
    before_by (inl q) = q
    before_by (inr q) = absurd (out (subst (λ (z : List ℕ). IsPick cells 1 2 z) (sym (placed x (w.inside x p.inside)).list ∙ ap list_at q) p))

  past_by : (o : Option ℤ) → IsLeastBelow f cells k o → IsLeastBelow f cells (k + 1) o
  past_by None h = λ x p l. h x p (before x p l)
  past_by (Some t) h = record { reached = (h.reached.0, h.reached.1, (let q = h.reached.2 in omega arith), h.reached.3); below = λ x p l. h.below x p (before x p l) }

pub least_taken : (f : List ℕ → ℤ) (cells : List Cell) (k : ℕ) (o : Option ℤ) → IsWithin cells small_whole → k < 64 → IsPick cells 1 2 (list_at k) → IsLeastBelow f cells k o → IsLeastBelow f cells (k + 1) (Some (lesser (f (list_at k)) o))
least_taken f cells k o w s pick h = taken_by o h where
  here : place_of (list_at k) < k + 1
  here = let e = place_back k s in omega arith

  at_place : (x : List ℕ) → IsPick cells 1 2 x → place_of x ≡ k → f (list_at k) ≡ f x
  at_place x p q = ap f (ap list_at (sym q) ∙ (placed x (w.inside x p.inside)).list)

  taken_by : (o : Option ℤ) → IsLeastBelow f cells k o → IsLeastBelow f cells (k + 1) (Some (lesser (f (list_at k)) o))
  taken_by None h = record { reached = (list_at k, pick, here, refl); below = λ x p l. below_by x p (next_cases (place_of x) k l) } where
    below_by : (x : List ℕ) → IsPick cells 1 2 x → (place_of x < k) ⊎ (place_of x ≡ k) → f (list_at k) ≤ℤ f x
    below_by x p (inl q) = absurd (h x p q)
    below_by x p (inr q) = let e = at_place x p q in omega (arith, ints)
  taken_by (Some t) h = record { reached = reached_by (by_lt_z (f (list_at k)) t (λ (l : f (list_at k) <ℤ t). inl (first_least (f (list_at k)) t l)) (λ (l : t ≤ℤ f (list_at k)). inr (second_least (f (list_at k)) t l))); below = λ x p l. below_by x p (next_cases (place_of x) k l) } where
    first_least : (a b : ℤ) → a <ℤ b → int_min a b ≡ a
    first_least a b l = omega (arith, ints, clamps)

    second_least : (a b : ℤ) → b ≤ℤ a → int_min a b ≡ b
    second_least a b l = omega (arith, ints, clamps)

    min_first : (a b c : ℤ) → a ≡ c → int_min a b ≤ℤ c
    min_first a b c e = omega (arith, ints, clamps)

    min_second : (a b c : ℤ) → b ≤ℤ c → int_min a b ≤ℤ c
    min_second a b c e = omega (arith, ints, clamps)

    reached_by : (int_min (f (list_at k)) t ≡ f (list_at k)) ⊎ (int_min (f (list_at k)) t ≡ t) → (x : List ℕ) × IsPick cells 1 2 x × (place_of x < k + 1) × (f x ≡ int_min (f (list_at k)) t)
    reached_by (inl e) = (list_at k, pick, here, sym e)
    reached_by (inr e) = let r = h.reached in (r.0, r.1, (let q = r.2 in omega arith), r.3 ∙ sym e)

    below_by : (x : List ℕ) → IsPick cells 1 2 x → (place_of x < k) ⊎ (place_of x ≡ k) → int_min (f (list_at k)) t ≤ℤ f x
    below_by x p (inl q) = min_second (f (list_at k)) t (f x) (h.below x p q)
    below_by x p (inr q) = min_first (f (list_at k)) t (f x) (at_place x p q)

-- after all places it is the least over the part
pub least_found : (f : List ℕ → ℤ) (cells : List Cell) (o : Option ℤ) → IsWithin cells small_whole → IsLeastBelow f cells 64 o → o ≡ least_value f (picks cells 1 2)
least_found f cells o w h = found_by o h where
  found_by : (o : Option ℤ) → IsLeastBelow f cells 64 o → o ≡ least_value f (picks cells 1 2)
  found_by None h = sym (none_least f cells 1 2 (λ x p. h x p (placed x (w.inside x p.inside)).place))
  found_by (Some t) h = sym (least_is f cells 1 2 t (record { reached = (h.reached.0, h.reached.1, h.reached.3); below = λ x p. h.below x p (placed x (w.inside x p.inside)).place }))

-- nothing is below place 0
pub least_at_first : (f : List ℕ → ℤ) (cells : List Cell) → IsLeastBelow f cells 0 None
least_at_first f cells = λ x p l. absurd (none_below (place_of x) l) where
  none_below : (n : ℕ) → n < 0 → ⊥
  none_below n l = omega arith
