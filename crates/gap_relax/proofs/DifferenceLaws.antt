-- The sizes and the number of the differences of the free cells.

use Rattle.std.proofs.Common.{◌≡◌, ℕ, zero, suc, ◌-◌, ◌*◌, ◌<◌, ◌≤◌, Bool, true, false, if◌then◌else◌, List, [], ◌∷◌, ◌++◌, length, slice_index_or, ℤ, pos, ◌-ℤ◌, ◌≤ℤ◌, int_lt, unsigned_abs, refl, sym, ◌∙◌, subst, arith, length-append, add-one}
use Rattle.std.specs.List.{count_by, All}
use Rattle.std.specs.List.Sorted.{IsPermutation}
use Rattle.std.proofs.lemmas.List.Elements.{All-append, All-cons}
use Rattle.std.proofs.lemmas.List.{get_or_append_left, get_or-append_right}
use Rattle.std.proofs.lemmas.List.Sorted.{All-permutation}
use Rattle.std.proofs.lemmas.Int.{ints}
use Rattle.gap_base.specs.Sums.{at, AreWithin}
use Rattle.gap_base.proofs.Counts.{count_nowhere}
use Rattle.gap_box.specs.declared.cell.Cell.{Cell}
use Rattle.gap_box.specs.declared.cell.Cell.TheVariants.{Out}
use Rattle.gap_box.specs.Cells.{is_free}
use Rattle.gap_box.specs.Parts.{frees}
use Rattle.gap_relax.specs.Choices.{cell_at}
use Rattle.gap_relax.specs.Differences.{difference, free_differences}
use Rattle.gap_relax.proofs.Order.{lt_not}
use Rattle.gap_relax.proofs.Places.{count_at, length_free, no_differences, more_differences}

-- where no number lies below a price, none is counted below it
pub none_below : (price : ℤ) (xs : List ℤ) → ((k : ℕ) → k < length xs → price ≤ℤ at xs k) → count_by (λ x. int_lt x price) xs ≡ 0
none_below price xs h =
    count_at (λ x. int_lt x price) (pos 0) xs ∙ count_nowhere (length xs) (λ k. int_lt (at xs k) price) (λ k l. lt_not (at xs k) price (h k l))

any_default : (xs : List ℤ) (k : ℕ) (d e : ℤ) → k < length xs → slice_index_or xs k d ≡ slice_index_or xs k e
any_default [] k d e h = absurd (omega arith)
any_default (x ∷ xs) zero d e h = refl
any_default (x ∷ xs) (suc k) d e h = any_default xs k d e (omega arith)

-- a bound on sizes is kept where a list is put into another order and parted
pub sizes_parted : (b : ℕ) (xs front back : List ℤ) (last : ℤ) → AreWithin b xs → IsPermutation xs (front ++ last ∷ back) → AreWithin b front × (unsigned_abs last ≤ b)
sizes_parted b xs front back last h p =
    let P : ℤ → Type 0 = λ x. unsigned_abs x ≤ b in
    let all = All-permutation P xs (front ++ last ∷ back) p (λ k d l. subst P (any_default xs k (pos 0) d l) (h k l)) in
    let longer = length-append front (last ∷ back) in
    let here = all (length front) (pos 0) (omega arith) in (
      (λ k l. subst P (get_or_append_left front (last ∷ back) (pos 0) k l) (all k (pos 0) (omega arith))),
      subst P (get_or-append_right front (last ∷ back) (length front) (length front) (pos 0) refl (omega arith) ∙ first_of (length front)) here,
    )
  where
    first_of : (n : ℕ) → slice_index_or (last ∷ back) (n - n) (pos 0) ≡ last
    first_of n = let e : n - n ≡ 0 = omega arith in rw e refl

one_small : (P : ℤ → Type 0) (t : Bool) (x : ℤ) → P x → All P (if t then x ∷ [] else [])
one_small P true x h = All-cons P x [] h (λ k d l. absurd (omega arith))
one_small P false x h = λ k d l. absurd (omega arith)

differences_small : (b n : ℕ) (cells : List Cell) (held_cost out_cost : List ℤ) → ((i : ℕ) → i < n → unsigned_abs (at held_cost i) ≤ b) → ((i : ℕ) → i < n → unsigned_abs (at out_cost i) ≤ b) → All (λ x. unsigned_abs x ≤ 2 * b) (free_differences n cells held_cost out_cost)
differences_small b zero cells held_cost out_cost p q = rw (no_differences cells held_cost out_cost) (λ k d l. absurd (omega arith))
differences_small b (suc n) cells held_cost out_cost p q =
    let h = p n (omega arith) in
    let o = q n (omega arith) in
    let P : ℤ → Type 0 = λ x. unsigned_abs x ≤ 2 * b in
    let r = differences_small b n cells held_cost out_cost (λ i l. p i (omega arith)) (λ i l. q i (omega arith)) in
    let s = All-append P (free_differences n cells held_cost out_cost) (if is_free (cell_at cells n) then difference held_cost out_cost n ∷ [] else []) r (one_small P (is_free (cell_at cells n)) (difference held_cost out_cost n) (minus_small (at held_cost n) (at out_cost n) h o)) in
    let e : free_differences (suc n) cells held_cost out_cost ≡ free_differences n cells held_cost out_cost ++ (if is_free (cell_at cells n) then difference held_cost out_cost n ∷ [] else []) = rw (← add-one n) (more_differences n cells held_cost out_cost) in
    subst (λ (xs : List ℤ). All P xs) (sym e) s
  where
    minus_small : (x y : ℤ) → unsigned_abs x ≤ b → unsigned_abs y ≤ b → unsigned_abs (x -ℤ y) ≤ 2 * b
    minus_small x y h o = omega (arith, ints)

-- differences of costs are at most twice their size
pub differences_within : (b : ℕ) (xs : List ℤ) (cells : List Cell) (held_cost out_cost : List ℤ) → length held_cost ≡ length cells → length out_cost ≡ length cells → AreWithin b held_cost → AreWithin b out_cost → xs ≡ free_differences (length cells) cells held_cost out_cost → AreWithin (2 * b) xs
differences_within b xs cells held_cost out_cost e f h o s =
    let all = differences_small b (length cells) cells held_cost out_cost (λ i l. h i (omega arith)) (λ i l. o i (omega arith)) in
    rw s (λ k l. all k (pos 0) l)

-- there are as many differences as free cells
pub differences_frees : (xs : List ℤ) (cells : List Cell) (held_cost out_cost : List ℤ) → xs ≡ free_differences (length cells) cells held_cost out_cost → length xs ≡ frees cells
differences_frees xs cells held_cost out_cost s = rw s (length_free (length cells) cells held_cost out_cost ∙ sym (count_at is_free Out cells))
