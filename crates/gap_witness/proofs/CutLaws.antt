-- Where a cut is lawful, and that a settled part whose held cells leave no width has one list that meets the count.
use Rattle.std.proofs.Common.{◌≡◌, ℕ, zero, suc, ◌+◌, ◌-◌, ◌/◌, ◌<◌, ◌≤◌, min, max, Bool, true, false, cond, ◌&&◌, ◌||◌, List, [], ◌∷◌, length, slice_index_or, Some, None, ◌⊎◌, inl, inr, refl, sym, ap, ◌∙◌, subst, arith}
use Rattle.std.proofs.lemmas.Bool.Decides.{nat_tests}
use Rattle.std.specs.Prelude.{leb, ltb, eqb}
use Rattle.gap_box.specs.declared.cell.Cell.{Cell}
use Rattle.gap_box.specs.declared.cell.Cell.TheVariants.{Out, Held, Free}
use Rattle.gap_box.specs.Cells.{IsCell, AreCells, is_free}
use Rattle.gap_box.specs.Parts.{helds, frees, can_meet, IsSingle}
use Rattle.gap_box.specs.Splits.{width, can_cut, is_settled, IsWidest}
use Rattle.gap_box.specs.Only.{only_number, only_list}
use Rattle.gap_box.proofs.CellLaws.{rest_are, first_is}
use Rattle.gap_box.proofs.CountLaws.{both_true, frees-cons}
use Rattle.gap_box.proofs.SingleLaws.{AreEnds, single_by}
use Rattle.gap_witness.specs.Cutting.{cut_behind}

cut_inside : (l u m : ℕ) → l < u → (leb l (max l (min m (u - 1))) && ltb (max l (min m (u - 1))) u) ≡ true
cut_inside l u m h = grind (arith, nat_tests)

-- a cell that leaves some width is cut where its eighths say
pub cut_lawful : (cell : Cell) (v : ℕ) → 0 < width cell → can_cut cell (cut_behind cell v) ≡ true
cut_lawful Out v h = absurd (omega arith)
cut_lawful (Held l u) v h = cut_inside l u (v / 8) (omega arith)
cut_lawful (Free l u) v h = absurd (omega arith)

-- beyond the last cell all is out
pub beyond : (cells : List Cell) (k : ℕ) → length cells ≤ k → slice_index_or cells k Out ≡ Out
beyond [] k h = refl
beyond (c ∷ cells) zero h = absurd (omega arith)
beyond (c ∷ cells) (suc k) h = beyond cells k (omega arith)

-- the only number of a cell that leaves no width
flat_number : (c : Cell) → IsCell c → width c ≡ 0 → (v : ℕ) × (only_number false c ≡ Some v)
flat_number Out h w = (0, refl)
flat_number (Held l u) h w = (l, held_only l u (let b = h.1 in omega arith))
  where
    held_only : (l u : ℕ) → l ≡ u → cond (eqb l u) (Some l) None ≡ Some l
    held_only l u e = let t : eqb l u ≡ true = grind (arith, nat_tests) in rw t refl
flat_number (Free l u) h w = (0, refl)

flat_cons : (c : Cell) (cells : List Cell) → ((v : ℕ) × (only_number false c ≡ Some v)) → ((x : List ℕ) × (only_list false cells ≡ Some x)) → (z : List ℕ) × (only_list false (c ∷ cells) ≡ Some z)
flat_cons c cells a b = (a.0 ∷ b.0, rw (a.1, b.1) refl)

flat_list : (cells : List Cell) → AreCells cells → ((k : ℕ) → width (slice_index_or cells k Out) ≡ 0) → (x : List ℕ) × (only_list false cells ≡ Some x)
flat_list [] h w = ([], refl)
flat_list (c ∷ cells) h w = flat_cons c cells (flat_number c (first_is c cells h) (w 0)) (flat_list cells (rest_are c cells h) (λ k. w (suc k)))

either_true : (a b : Bool) → (a || b) ≡ true → (a ≡ true) ⊎ (b ≡ true)
either_true true b e = inl refl
either_true false b e = inr e

settled_ends : (h f fewest most : ℕ) → (leb h most && leb fewest (h + f)) ≡ true → fewest ≤ most → (eqb h most || eqb f 0) ≡ true → (h ≡ max fewest h) × (h ≡ min most (h + f))
settled_ends h f fewest most m le s = by_either (either_true (eqb h most) (eqb f 0) s)
  where
    a : leb h most ≡ true
    a = (both_true (leb h most) (leb fewest (h + f)) m).0

    b : leb fewest (h + f) ≡ true
    b = (both_true (leb h most) (leb fewest (h + f)) m).1

    by_either : (eqb h most ≡ true) ⊎ (eqb f 0 ≡ true) → (h ≡ max fewest h) × (h ≡ min most (h + f))
    by_either (inl e) = let p : h ≡ most = grind (arith, nat_tests) in (omega arith, omega arith)
    by_either (inr e) =
        let p : f ≡ 0 = grind (arith, nat_tests) in
        let q : h ≤ most = let x = a in grind (arith, nat_tests) in
        let r : fewest ≤ h + f = let x = b in grind (arith, nat_tests) in
        (omega arith, omega arith)

-- a settled part whose cells leave no width has a single list that meets the count
pub single_flat : (cells : List Cell) (fewest most : ℕ) → AreCells cells → fewest ≤ most → can_meet cells fewest most ≡ true → is_settled cells most ≡ true → ((k : ℕ) → width (slice_index_or cells k Out) ≡ 0) → (x : List ℕ) × IsSingle cells fewest most x
single_flat cells fewest most h le m s w =
    let l = flat_list cells h w in
    let e = settled_ends (helds cells) (frees cells) fewest most m le s in
    let n : AreEnds cells fewest most (helds cells) (helds cells) = record { low_is = e.0; high_is = e.1 } in
    (l.0, (single_by false cells fewest most (helds cells) (only_list false cells) h n refl (omega arith) l.0).0 l.1)

-- so its widest cell leaves some width where it has more lists
pub widest_open : (cells : List Cell) (fewest most i : ℕ) → AreCells cells → fewest ≤ most → can_meet cells fewest most ≡ true → is_settled cells most ≡ true → ((x : List ℕ) → IsSingle cells fewest most x → ⊥) → IsWidest cells i → 0 < width (slice_index_or cells i Out)
widest_open cells fewest most i h le m s several widest = by_width (width (slice_index_or cells i Out)) refl
  where
    by_width : (v : ℕ) → width (slice_index_or cells i Out) ≡ v → 0 < v
    by_width zero e = let x = single_flat cells fewest most h le m s (λ k. let g = widest.greatest k in omega arith) in absurd (several x.0 x.1)
    by_width (suc v) e = omega arith

-- where no cell is free there are none to count, and where some is there are
pub none_free : (cells : List Cell) → ((k : ℕ) → k < length cells → is_free (slice_index_or cells k Out) ≡ false) → frees cells ≡ 0
none_free [] h = refl
none_free (c ∷ cells) h = none_more c cells (frees-cons c cells) (none_free cells (λ k l. h (suc k) (omega arith))) (h 0 (omega arith))
  where
    none_more : (c : Cell) (cells : List Cell) → frees (c ∷ cells) ≡ cond {A = ℕ} (is_free c) 1 0 + frees cells → frees cells ≡ 0 → is_free c ≡ false → frees (c ∷ cells) ≡ 0
    none_more c cells e t z = let q : cond {A = ℕ} (is_free c) 1 0 ≡ 0 = rw z refl in omega arith

pub some_free : (cells : List Cell) (k : ℕ) → is_free (slice_index_or cells k Out) ≡ true → 0 < frees cells
some_free [] k e = cc
some_free (c ∷ cells) zero e = one_more c cells (frees-cons c cells) e
  where
    one_more : (c : Cell) (cells : List Cell) → frees (c ∷ cells) ≡ cond {A = ℕ} (is_free c) 1 0 + frees cells → is_free c ≡ true → 0 < frees (c ∷ cells)
    one_more c cells f e = let q : cond {A = ℕ} (is_free c) 1 0 ≡ 1 = rw e refl in omega arith
some_free (c ∷ cells) (suc k) e = let f = frees-cons c cells in let g = some_free cells k e in omega arith

-- when it is settled which assets are held
pub settled_count : (cells : List Cell) (most : ℕ) → helds cells ≡ most → is_settled cells most ≡ true
settled_count cells most e = let t : eqb (helds cells) most ≡ true = grind (arith, nat_tests) in rw t refl

pub settled_none : (cells : List Cell) (most : ℕ) → frees cells ≡ 0 → is_settled cells most ≡ true
settled_none cells most e = by_test (eqb (helds cells) most)
  where
    by_test : (b : Bool) → (b || eqb (frees cells) 0) ≡ true
    by_test true = refl
    by_test false = grind (arith, nat_tests)

pub not_settled : (cells : List Cell) (most : ℕ) → (helds cells ≡ most → ⊥) → 0 < frees cells → is_settled cells most ≡ false
not_settled cells most n f =
    let a : eqb (helds cells) most ≡ false = grind (arith, nat_tests) in
    let b : eqb (frees cells) 0 ≡ false = grind (arith, nat_tests) in
    rw (a, b) refl

last_or : (k n : ℕ) → k < n + 1 → (k < n) ⊎ (k ≡ n)
last_or k n h = by_test (ltb k n) refl
  where
    by_test : (t : Bool) → ltb k n ≡ t → (k < n) ⊎ (k ≡ n)
    by_test true e = inl (grind (arith, nat_tests))
    by_test false e = inr (grind (arith, nat_tests))

-- the widest of the first cells, as one more is looked at
pub record IsWidestBelow (cells : List Cell) (n i : ℕ) : Type 0 where
  pub greatest : (j : ℕ) → j < n → width (slice_index_or cells j Out) ≤ width (slice_index_or cells i Out)
  pub first : (j : ℕ) → j < i → width (slice_index_or cells j Out) < width (slice_index_or cells i Out)

pub widest_kept : (cells : List Cell) (n i : ℕ) → IsWidestBelow cells n i → width (slice_index_or cells n Out) ≤ width (slice_index_or cells i Out) → IsWidestBelow cells (n + 1) i
widest_kept cells n i h w = record {
  greatest = λ j l. by_place j (last_or j n l);
  first = h.first;
}
  where
    by_place : (j : ℕ) → (j < n) ⊎ (j ≡ n) → width (slice_index_or cells j Out) ≤ width (slice_index_or cells i Out)
    by_place j (inl l) = h.greatest j l
    by_place j (inr e) = subst (λ (m : ℕ). width (slice_index_or cells m Out) ≤ width (slice_index_or cells i Out)) (sym e) w

pub widest_taken : (cells : List Cell) (n i : ℕ) → IsWidestBelow cells n i → width (slice_index_or cells i Out) < width (slice_index_or cells n Out) → IsWidestBelow cells (n + 1) n
widest_taken cells n i h w = record {
  greatest = λ j l. by_place j (last_or j n l);
  first = λ j l. let g = h.greatest j l in omega arith;
}
  where
    by_place : (j : ℕ) → (j < n) ⊎ (j ≡ n) → width (slice_index_or cells j Out) ≤ width (slice_index_or cells n Out)
    by_place j (inl l) = let g = h.greatest j l in omega arith
    by_place j (inr e) = subst (λ (m : ℕ). width (slice_index_or cells m Out) ≤ width (slice_index_or cells n Out)) (sym e) (omega arith)

pub widest_all : (cells : List Cell) (i : ℕ) → IsWidestBelow cells (length cells) i → IsWidest cells i
widest_all cells i h = record {
  greatest = λ j. by_test j (ltb j (length cells)) refl;
  first = h.first;
}
  where
    by_test : (j : ℕ) (t : Bool) → ltb j (length cells) ≡ t → width (slice_index_or cells j Out) ≤ width (slice_index_or cells i Out)
    by_test j true e = h.greatest j (grind (arith, nat_tests))
    by_test j false e = let b = beyond cells j (grind (arith, nat_tests)) in rw b (omega arith)

-- the cut of the cell at a place
pub cut_is : (cells : List Cell) (y : List ℕ) (i : ℕ) (cell : Cell) (v t : ℕ) → t ≡ cut_behind cell v → cell ≡ slice_index_or cells i Out → v ≡ slice_index_or y i 0 → t ≡ cut_behind (slice_index_or cells i Out) (slice_index_or y i 0)
cut_is cells y i cell v t e f g = e ∙ ap (λ (c : Cell). cut_behind c v) f ∙ ap (λ (w : ℕ). cut_behind (slice_index_or cells i Out) w) g

pub cut_is_lawful : (cells : List Cell) (y : List ℕ) (i t : ℕ) → t ≡ cut_behind (slice_index_or cells i Out) (slice_index_or y i 0) → 0 < width (slice_index_or cells i Out) → can_cut (slice_index_or cells i Out) t ≡ true
cut_is_lawful cells y i t e w = ap (λ (m : ℕ). can_cut (slice_index_or cells i Out) m) e ∙ cut_lawful (slice_index_or cells i Out) (slice_index_or y i 0) w
