-- The list of eighths that entries give.

use Rattle.std.proofs.Common.{◌≡◌, ℕ, zero, suc, ◌*◌, ◌<◌, ◌≤◌, ◌==◌, if◌then◌else◌, Bool, true, false, cond, eqb, List, [], ◌∷◌, length, drop, replicate, slice_get, slice_set, sum_by, Some, ◌⊎◌, inl, inr, pos, ◌+ℤ◌, ◌≤ℤ◌, refl, sym, ap, ◌∙◌, arith}
use Rattle.std.proofs.lemmas.Int.{ints}
use Rattle.std.proofs.lemmas.Bool.{cases_eq, eq-eqb, ne_eqb, cond-true, cond-false}
use Rattle.std.proofs.lemmas.List.Sums.{sum_by-cons}
use Rattle.gap_base.specs.Sums.{sum_below, natural_at}
use Rattle.gap_base.specs.Lots.{lots_at}
use Rattle.gap_base.proofs.Ring.{if_same, if_other}
use Rattle.gap_base.proofs.SumLaws.{sum_same, sum_le, sum-add, sum_pick, sum-zero}
use Rattle.gap_base.proofs.Lists.{natural_at-set, sum_places}
use Rattle.gap_instance.specs.Instances.{InstanceValue}
use Rattle.gap_model.specs.declared.leaf.Entry.{Entry}
use Rattle.gap_model.specs.Leaves.{eighths_at, AreEntries, IsPoint}

pub drop_here : (y : List Entry) (k : ℕ) (e : Entry) → slice_get y k ≡ Some e → drop k y ≡ e ∷ drop (suc k) y
drop_here [] k e h = cc
drop_here (d ∷ y) zero e h = let q : d ≡ e = cc in ap (λ z. z ∷ y) q
drop_here (d ∷ y) (suc k) e h = drop_here y k e h

pub drop_all : (y : List Entry) → drop (length y) y ≡ []
drop_all [] = refl
drop_all (d ∷ y) = drop_all y

pub zeros_lots : (n i : ℕ) → lots_at (replicate n 0) i ≡ pos 0
zeros_lots zero i = refl
zeros_lots (suc n) zero = refl
zeros_lots (suc n) (suc i) = zeros_lots n i

-- the numbers of eighths are those of the entries from a place on
pub record IsFilled (n : ℕ) (entries : List Entry) (left : ℕ) (y : List ℕ) : Type 0 where
  pub few : left ≤ length entries
  pub count : length y ≡ n
  pub numbers : (i : ℕ) → i < n → lots_at y i ≡ eighths_at (drop left entries) i

pub filled_none : (n : ℕ) (entries : List Entry) (y : List ℕ) → length y ≡ n → ((i : ℕ) → lots_at y i ≡ pos 0) → IsFilled n entries (length entries) y
filled_none n entries y e h = record { few = omega arith; count = e; numbers = λ i l. h i ∙ ap (λ (z : List Entry). eighths_at z i) (sym (drop_all entries)) }

set_number : (y : List ℕ) (a v i : ℕ) (e : Entry) (rest : List Entry) → a < length y → a ≡ e.asset → v ≡ e.eighths → lots_at y i ≡ eighths_at rest i → lots_at (slice_set y a v) i ≡ eighths_at (e ∷ rest) i
set_number y a v i e rest h p q r = natural_at-set y a i v h ∙ number_by (cases_eq i a)
  where
    number_by : (i ≡ a) ⊎ (i ≡ a → ⊥) → (if i == a then pos v else natural_at y i) ≡ eighths_at (e ∷ rest) i
    number_by (inl w) = if_same i a (pos v) (natural_at y i) w ∙ ap pos q ∙ sym (cond-true (eqb e.asset i) (pos e.eighths) (eighths_at rest i) (eq-eqb e.asset i (sym (w ∙ p))))
    number_by (inr w) = if_other i a (pos v) (natural_at y i) w ∙ r ∙ sym (cond-false (eqb e.asset i) (pos e.eighths) (eighths_at rest i) (ne_eqb e.asset i (λ t. w (sym (p ∙ t)))))

length_slice_set : (y : List ℕ) (a v : ℕ) → length (slice_set y a v) ≡ length y
length_slice_set [] a v = refl
length_slice_set (u ∷ y) zero v = refl
length_slice_set (u ∷ y) (suc a) v = ap suc (length_slice_set y a v)

pub filled_more : (n : ℕ) (entries : List Entry) (left : ℕ) (y : List ℕ) (e : Entry) → IsFilled n entries (suc left) y → slice_get entries left ≡ Some e → e.asset < n → IsFilled n entries left (slice_set y e.asset e.eighths)
filled_more n entries left y e f h l = record {
  few = let w = f.few in omega arith;
  count = length_slice_set y e.asset e.eighths ∙ f.count;
  numbers = λ i k. set_number y e.asset e.eighths i e (drop (suc left) entries) (let c = f.count in omega arith) refl refl (f.numbers i k) ∙ ap (λ (z : List Entry). eighths_at z i) (sym (drop_here entries left e h));
}

-- all eighths together are at most those of the entries
not_negative : (y : List Entry) (i : ℕ) → pos 0 ≤ℤ eighths_at y i
not_negative [] i = omega (arith, ints)
not_negative (e ∷ y) i = sign_by (eqb e.asset i) (not_negative y i)
  where
    sign_by : (b : Bool) → pos 0 ≤ℤ eighths_at y i → pos 0 ≤ℤ cond b (pos e.eighths) (eighths_at y i)
    sign_by true h = omega (arith, ints)
    sign_by false h = h

one_le : (e : Entry) (y : List Entry) (i : ℕ) → eighths_at (e ∷ y) i ≤ℤ ((if i == e.asset then pos e.eighths else pos 0) +ℤ eighths_at y i)
one_le e y i = le_by (cases_eq i e.asset)
  where
    le_by : (i ≡ e.asset) ⊎ (i ≡ e.asset → ⊥) → eighths_at (e ∷ y) i ≤ℤ ((if i == e.asset then pos e.eighths else pos 0) +ℤ eighths_at y i)
    le_by (inl w) = let a = if_same i e.asset (pos e.eighths) (pos 0) w in let b = cond-true (eqb e.asset i) (pos e.eighths) (eighths_at y i) (eq-eqb e.asset i (sym w)) in let c = not_negative y i in rw (a, b) (omega (arith, ints))
    le_by (inr w) = let a = if_other i e.asset (pos e.eighths) (pos 0) w in let b = cond-false (eqb e.asset i) (pos e.eighths) (eighths_at y i) (ne_eqb e.asset i (λ t. w (sym t))) in rw (a, b) (omega (arith, ints))

pub sum_le_entries : (n : ℕ) (y : List Entry) → ((k : ℕ) (e : Entry) → slice_get y k ≡ Some e → e.asset < n) → sum_below n (eighths_at y) ≤ℤ pos (sum_by (λ (e : Entry). e.eighths) y)
sum_le_entries n [] h = let a = sum-zero n in omega (arith, ints)
sum_le_entries n (e ∷ y) h =
    let a = sum_le n (eighths_at (e ∷ y)) (λ i. (if i == e.asset then pos e.eighths else pos 0) +ℤ eighths_at y i) (λ i l. one_le e y i) in
    let b = sum-add n (λ i. if i == e.asset then pos e.eighths else pos 0) (eighths_at y) in
    let c = sum_pick n e.asset (λ i. pos e.eighths) (h 0 e refl) in
    let d = sum_le_entries n y (λ k f q. h (suc k) f q) in
    let s = sum_by-cons (λ (f : Entry). f.eighths) e y in
    omega (arith, ints)

pub point_is : (I : InstanceValue) (entries : List Entry) (y : List ℕ) → AreEntries I.market.assets entries → sum_by (λ (e : Entry). e.eighths) entries ≤ 8 * I.lots → length y ≡ I.market.assets → ((i : ℕ) → i < I.market.assets → lots_at y i ≡ eighths_at entries i) → IsPoint I y
point_is I entries y are most e h =
    let a = sum_places y ∙ ap (λ n. sum_below n (natural_at y)) e in
    let b = sum_same I.market.assets (natural_at y) (eighths_at entries) h in
    let c = sum_le_entries I.market.assets entries are.below in
    record { count = e; most = omega (arith, ints) }
