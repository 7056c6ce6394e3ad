-- What a round makes of a point, from what the code finds.
use Rattle.std.proofs.Common.{◌≡◌, ◌≢◌, ℕ, ◌+◌, ◌-◌, ◌<◌, ◌≤◌, min, Bool, true, false, not, cond, ◌||◌, ◌&&◌, ltb, eqb, Option, neg_ℤ, List, length, slice_index_or, set, Some, None, ℤ, pos, ◌-ℤ◌, ◌*ℤ◌, ◌≤ℤ◌, ◌<ℤ◌, unsigned_abs, FitsSigned, to_z, of_z, refl, sym, ap, ◌∙◌, arith, length-set}
use Rattle.std.specs.Prelude.{int_le}
use Rattle.std.specs.Int.{w128}
use Rattle.std.proofs.lemmas.Bool.Decides.{nat_tests}
use Rattle.std.specs.Int.Signed.{le_z}
use Rattle.std.proofs.lemmas.Int.{ints, to_z-of_z}
use Rattle.gap_box.specs.declared.cell.Cell.{Cell}
use Rattle.gap_box.specs.declared.cell.Cell.TheVariants.{Out, Held, Free}
use Rattle.gap_box.specs.Cells.{IsCell, AreCells}
use Rattle.gap_model.specs.Settings.{Setting}
use Rattle.gap_box.proofs.CountLaws.{both_true, and_true}
use Rattle.gap_witness.specs.Places.{first_greatest}
use Rattle.gap_witness.specs.Points.{Choice, most_by, is_full, upper_end, gradient, taker, curvature, step_between, is_idle, shifted_by, exchange}
use Rattle.gap_witness.proofs.PlaceLaws.{set_most, found_none, found_some, some_found, none_found}

le_true : (a b : ℤ) → a ≤ℤ b → int_le a b ≡ true
le_true a b h = grind (arith, ints)

le_false : (a b : ℤ) → b <ℤ a → int_le a b ≡ false
le_false a b h = grind (arith, ints)

-- the rounds end where no gradient is left above another, or where a step lowers nothing; else the step is made
pub ends_level : (s : Setting) (o : Choice) (y : List ℕ) (i j : ℕ) → gradient s o y i ≤ℤ gradient s o y j → None ≡ exchange s o y i (Some j)
ends_level s o y i j h = let e = le_true (gradient s o y i) (gradient s o y j) h in rw e refl

pub ends_idle : (s : Setting) (o : Choice) (y : List ℕ) (i j : ℕ) → (gradient s o y i -ℤ gradient s o y j) ≤ℤ (curvature s i j *ℤ pos (step_between s o y i j)) → None ≡ exchange s o y i (Some j)
ends_idle s o y i j h = by_test (int_le (gradient s o y i) (gradient s o y j)) (is_idle s o y i j) (le_true (gradient s o y i -ℤ gradient s o y j) (curvature s i j *ℤ pos (step_between s o y i j)) h)
  where
    by_test : (a b : Bool) → b ≡ true → None ≡ cond (a || b) None (Some (shifted_by y (step_between s o y i j) i j))
    by_test true b e = refl
    by_test false b e = rw e refl

pub goes_on : (s : Setting) (o : Choice) (y : List ℕ) (i j : ℕ) → gradient s o y j <ℤ gradient s o y i → (curvature s i j *ℤ pos (step_between s o y i j)) <ℤ (gradient s o y i -ℤ gradient s o y j) → Some (shifted_by y (step_between s o y i j) i j) ≡ exchange s o y i (Some j)
goes_on s o y i j h k = by_test (int_le (gradient s o y i) (gradient s o y j)) (is_idle s o y i j) (le_false (gradient s o y i) (gradient s o y j) h) (le_false (gradient s o y i -ℤ gradient s o y j) (curvature s i j *ℤ pos (step_between s o y i j)) k)
  where
    by_test : (a b : Bool) → a ≡ false → b ≡ false → Some (shifted_by y (step_between s o y i j) i j) ≡ cond (a || b) None (Some (shifted_by y (step_between s o y i j) i j))
    by_test a b e f = rw (e, f) refl

-- ---- the asset that takes, of all that may
abbrev may_take : Choice → List ℕ → ℕ → Bool
may_take o y j = ltb (slice_index_or y j 0) (upper_end o j)

pub taker_is : (s : Setting) (o : Choice) (y : List ℕ) (i j : ℕ) → j ≢ i → first_greatest (length o.cells) (λ k. ltb (slice_index_or y k 0) (upper_end o k)) (λ k. neg_ℤ (gradient s o y k)) ≡ Some j → taker s o y i ≡ Some j
taker_is s o y i j n e =
    let w = found_some (length o.cells) (may_take o y) (λ k. neg_ℤ (gradient s o y k)) j e in
    some_found (length o.cells) (λ k. not (eqb k i) && may_take o y k) (λ k. neg_ℤ (gradient s o y k)) j (record {
      below = w.below;
      allowed = and_true _ _ (other j i n) w.allowed;
      greatest = λ k l a. w.greatest k l (both_true (not (eqb k i)) (may_take o y k) a).1;
      first = λ k l a. w.first k l (both_true (not (eqb k i)) (may_take o y k) a).1;
    })
  where
    other : (j i : ℕ) → j ≢ i → not (eqb j i) ≡ true
    other j i n = grind (arith, nat_tests)

pub taker_none : (s : Setting) (o : Choice) (y : List ℕ) (i : ℕ) → first_greatest (length o.cells) (λ k. ltb (slice_index_or y k 0) (upper_end o k)) (λ k. neg_ℤ (gradient s o y k)) ≡ None → taker s o y i ≡ None
taker_none s o y i e = none_found (length o.cells) (λ k. not (eqb k i) && may_take o y k) (λ k. neg_ℤ (gradient s o y k)) (λ k l. second_false (not (eqb k i)) (may_take o y k) (found_none (length o.cells) (may_take o y) (λ k. neg_ℤ (gradient s o y k)) e k l))
  where
    second_false : (a b : Bool) → b ≡ false → (a && b) ≡ false
    second_false true b e = e
    second_false false b e = refl

-- where it is the one that gives, no other has a gradient below that one's
pub taker_self : (s : Setting) (o : Choice) (y : List ℕ) (i : ℕ) → first_greatest (length o.cells) (λ k. ltb (slice_index_or y k 0) (upper_end o k)) (λ k. neg_ℤ (gradient s o y k)) ≡ Some i → None ≡ exchange s o y i (taker s o y i)
taker_self s o y i e = by_taker (taker s o y i) refl
  where
    by_taker : (t : Option ℕ) → taker s o y i ≡ t → None ≡ exchange s o y i t
    by_taker None q = refl
    by_taker (Some j) q =
        let w = found_some (length o.cells) (may_take o y) (λ k. neg_ℤ (gradient s o y k)) i e in
        let v = found_some (length o.cells) (λ k. not (eqb k i) && may_take o y k) (λ k. neg_ℤ (gradient s o y k)) j q in
        ends_level s o y i j (turned (gradient s o y i) (gradient s o y j) (w.greatest j v.below (both_true (not (eqb j i)) (may_take o y j) v.allowed).1))
      where
        turned : (a b : ℤ) → neg_ℤ b ≤ℤ neg_ℤ a → a ≤ℤ b
        turned a b h = omega (arith, ints)

pub not_over : (x : ℤ) → FitsSigned w128 x → le_z (to_z w128 (of_z w128 x)) (pos 0) ≡ true → x ≤ℤ pos 0
not_over x f h = let t = sym (ap (λ (z : ℤ). le_z z (pos 0)) (to_z-of_z w128 x f)) ∙ h in within x t
  where
    within : (x : ℤ) → le_z x (pos 0) ≡ true → x ≤ℤ pos 0
    within x e = grind (arith, ints)

pub over : (x : ℤ) → FitsSigned w128 x → le_z (to_z w128 (of_z w128 x)) (pos 0) ≡ false → pos 0 <ℤ x
over x f h = let t = sym (ap (λ (z : ℤ). le_z z (pos 0)) (to_z-of_z w128 x f)) ∙ h in beyond x t
  where
    beyond : (x : ℤ) → le_z x (pos 0) ≡ false → pos 0 <ℤ x
    beyond x e = grind (arith, ints)

pub level_of : (g a b : ℤ) → g ≡ a -ℤ b → g ≤ℤ pos 0 → a ≤ℤ b
level_of g a b e h = omega (arith, ints)

pub apart_of : (g a b : ℤ) → g ≡ a -ℤ b → pos 0 <ℤ g → b <ℤ a
apart_of g a b e h = omega (arith, ints)

pub size_of : (n : ℕ) (x : ℤ) → FitsSigned w128 x → n ≡ unsigned_abs (to_z w128 (of_z w128 x)) → n ≡ unsigned_abs x
size_of n x f e = e ∙ ap unsigned_abs (to_z-of_z w128 x f)

-- the upper end of a range
most_small : (full : Bool) (cell : Cell) → IsCell cell → most_by full cell ≤ 10000
most_small full Out h = omega arith
most_small full (Held l u) h = h.2
most_small true (Free l u) h = omega arith
most_small false (Free l u) h = h.2

pub upper_small : (o : Choice) (i : ℕ) → AreCells o.cells → upper_end o i ≤ 80000
upper_small o i h = let m = most_small (is_full o) (slice_index_or o.cells i Out) (h.each i) in omega arith

pub given_small : (low yi yj up step room : ℕ) → low < yi → yj < up → up ≤ 80000 → room ≡ min (yi - low) (up - yj) → (1 ≤ room → step ≤ room) → (step + yj ≤ 80000) × (step ≤ yi)
given_small low yi yj up step room h k l e m = let p : 1 ≤ room = omega arith in let q = m p in (omega arith, omega arith)

pub shifted_most : (y z : List ℕ) (s i j : ℕ) → i < length y → j < length y → ((k : ℕ) → slice_index_or y k 0 ≤ 80000) → s + slice_index_or y j 0 ≤ 80000 → z ≡ shifted_by y s i j → (k : ℕ) → slice_index_or z k 0 ≤ 80000
shifted_most y z s i j p q h m e =
    let first = set_most y (set y i (slice_index_or y i 0 - s)) i (slice_index_or y i 0 - s) 80000 p (let a = h i in omega arith) h refl in
    set_most (set y i (slice_index_or y i 0 - s)) z j (slice_index_or y j 0 + s) 80000 (let l = length-set y i (slice_index_or y i 0 - s) in omega arith) (omega arith) first e
