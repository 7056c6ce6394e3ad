-- What a side of a split leaves: the child of a lawful split, and the same in either order.

use Rattle.std.proofs.Common.{◌≡◌, ℕ, zero, suc, ◌+◌, ◌≤◌, ◌<◌, Bool, true, false, leb, cond, min, max, List, [], ◌∷◌, length, slice_index_or, slice_set, IsTrue, refl, sym, ap, ◌∙◌, arith, length-set}
use Rattle.std.proofs.lemmas.Bool.Decides.{nat_tests}
use Rattle.gap_box.specs.declared.cell.Cell.{Cell}
use Rattle.gap_box.specs.declared.cell.Cell.TheVariants.{Out, Held, Free}
use Rattle.gap_box.specs.declared.split.Split.{Split}
use Rattle.gap_box.specs.declared.split.Split.TheVariants.{Held as Hold, Lots as Cut}
use Rattle.gap_box.specs.declared.split.Side.{Side}
use Rattle.gap_box.specs.declared.split.Side.TheVariants.{First, Second}
use Rattle.gap_box.specs.Cells.{IsCell, AreCells, is_free}
use Rattle.gap_box.specs.Splits.{can_cut, held_side, cut_side, lawful_split, child_cells}
use Rattle.gap_box.specs.Narrow.{range_cell, held_narrow, cut_narrow, narrow_cell, asset_of, narrowed}
use Rattle.gap_box.proofs.CellLaws.{set_are}

held_range_first : (l u : ℕ) → held_narrow (range_cell l u) First ≡ Out
held_range_first l u = by_test (leb l u) where
  by_test : (b : Bool) → held_narrow (cond b (Held l u) Out) First ≡ Out
  by_test true = refl
  by_test false = refl

held_range_second : (l u : ℕ) → held_narrow (range_cell l u) Second ≡ range_cell l u
held_range_second l u = by_test (leb l u) where
  by_test : (b : Bool) → held_narrow (cond b (Held l u) Out) Second ≡ cond b (Held l u) Out
  by_test true = refl
  by_test false = refl

cut_range_first : (l u t : ℕ) → cut_narrow t (range_cell l u) First ≡ range_cell l (min u t)
cut_range_first l u t = by_test (leb l u) refl where
  by_test : (b : Bool) → leb l u ≡ b → cut_narrow t (cond b (Held l u) Out) First ≡ range_cell l (min u t)
  by_test true e = refl
  by_test false e = let h : leb l (min u t) ≡ false = grind (arith, nat_tests) in sym (ap (λ b. cond b (Held l (min u t)) Out) h)

cut_range_second : (l u t : ℕ) → cut_narrow t (range_cell l u) Second ≡ range_cell (max l (t + 1)) u
cut_range_second l u t = by_test (leb l u) refl where
  by_test : (b : Bool) → leb l u ≡ b → cut_narrow t (cond b (Held l u) Out) Second ≡ range_cell (max l (t + 1)) u
  by_test true e = refl
  by_test false e = let h : leb (max l (t + 1)) u ≡ false = grind (arith, nat_tests) in sym (ap (λ b. cond b (Held (max l (t + 1)) u) Out) h)

-- two narrowings of a cell with a range may be done in either order
range_commutes : (l u : ℕ) (s : Split) (a : Side) (t : Split) (b : Side) → narrow_cell t (narrow_cell s (Held l u) a) b ≡ narrow_cell s (narrow_cell t (Held l u) b) a
range_commutes l u (Hold i) First (Hold j) First = refl
range_commutes l u (Hold i) First (Hold j) Second = refl
range_commutes l u (Hold i) Second (Hold j) First = refl
range_commutes l u (Hold i) Second (Hold j) Second = refl
range_commutes l u (Hold i) First (Cut j t) First = sym (held_range_first l (min u t))
range_commutes l u (Hold i) First (Cut j t) Second = sym (held_range_first (max l (t + 1)) u)
range_commutes l u (Hold i) Second (Cut j t) First = sym (held_range_second l (min u t))
range_commutes l u (Hold i) Second (Cut j t) Second = sym (held_range_second (max l (t + 1)) u)
range_commutes l u (Cut i s) First (Hold j) First = held_range_first l (min u s)
range_commutes l u (Cut i s) Second (Hold j) First = held_range_first (max l (s + 1)) u
range_commutes l u (Cut i s) First (Hold j) Second = held_range_second l (min u s)
range_commutes l u (Cut i s) Second (Hold j) Second = held_range_second (max l (s + 1)) u
range_commutes l u (Cut i s) First (Cut j t) First = let e : min (min u s) t ≡ min (min u t) s = omega arith in cut_range_first l (min u s) t ∙ ap (range_cell l) e ∙ sym (cut_range_first l (min u t) s)
range_commutes l u (Cut i s) First (Cut j t) Second = cut_range_second l (min u s) t ∙ sym (cut_range_first (max l (t + 1)) u s)
range_commutes l u (Cut i s) Second (Cut j t) First = cut_range_first (max l (s + 1)) u t ∙ sym (cut_range_second l (min u t) s)
range_commutes l u (Cut i s) Second (Cut j t) Second = let e : max (max l (s + 1)) (t + 1) ≡ max (max l (t + 1)) (s + 1) = omega arith in cut_range_second (max l (s + 1)) u t ∙ ap (λ m. range_cell m u) e ∙ sym (cut_range_second (max l (t + 1)) u s)

-- a free cell is narrowed as one that must be held
free_narrow : (l u : ℕ) (s : Split) (a : Side) → narrow_cell s (Free l u) a ≡ narrow_cell s (Held l u) a
free_narrow l u (Hold i) First = refl
free_narrow l u (Hold i) Second = refl
free_narrow l u (Cut i t) First = refl
free_narrow l u (Cut i t) Second = refl

out_narrow : (s : Split) (a : Side) → narrow_cell s Out a ≡ Out
out_narrow (Hold i) a = refl
out_narrow (Cut i t) a = refl

-- two narrowings of a cell may be done in either order
cell_commutes : (s : Split) (a : Side) (t : Split) (b : Side) (c : Cell) → narrow_cell t (narrow_cell s c a) b ≡ narrow_cell s (narrow_cell t c b) a
cell_commutes s a t b Out = ap (λ c. narrow_cell t c b) (out_narrow s a) ∙ out_narrow t b ∙ sym (out_narrow s a) ∙ ap (λ c. narrow_cell s c a) (sym (out_narrow t b))
cell_commutes s a t b (Held l u) = range_commutes l u s a t b
cell_commutes s a t b (Free l u) = ap (λ c. narrow_cell t c b) (free_narrow l u s a) ∙ range_commutes l u s a t b ∙ ap (λ c. narrow_cell s c a) (sym (free_narrow l u t b))

-- a list with the element at one place changed
abbrev change : (Cell → Cell) → List Cell → ℕ → List Cell
change f [] i = []
change f (c ∷ cells) zero = f c ∷ cells
change f (c ∷ cells) (suc i) = c ∷ change f cells i

set_changes : (f : Cell → Cell) (cells : List Cell) (i : ℕ) → slice_set cells i (f (slice_index_or cells i Out)) ≡ change f cells i
set_changes f [] i = refl
set_changes f (c ∷ cells) zero = refl
set_changes f (c ∷ cells) (suc i) = ap (λ l. c ∷ l) (set_changes f cells i)

change_commutes : (f g : Cell → Cell) → ((c : Cell) → g (f c) ≡ f (g c)) → (cells : List Cell) (i j : ℕ) → change g (change f cells i) j ≡ change f (change g cells j) i
change_commutes f g h [] i j = refl
change_commutes f g h (c ∷ cells) zero zero = ap (λ d. d ∷ cells) (h c)
change_commutes f g h (c ∷ cells) zero (suc j) = refl
change_commutes f g h (c ∷ cells) (suc i) zero = refl
change_commutes f g h (c ∷ cells) (suc i) (suc j) = ap (λ l. c ∷ l) (change_commutes f g h cells i j)

narrowed_changes : (cells : List Cell) (s : Split) (a : Side) → narrowed cells s a ≡ change (λ c. narrow_cell s c a) cells (asset_of s)
narrowed_changes cells s a = set_changes (λ c. narrow_cell s c a) cells (asset_of s)

-- two narrowings of a part may be done in either order
pub narrowed_commutes : (cells : List Cell) (s : Split) (a : Side) (t : Split) (b : Side) → narrowed (narrowed cells s a) t b ≡ narrowed (narrowed cells t b) s a
narrowed_commutes cells s a t b =
    let f : Cell → Cell = λ c. narrow_cell s c a in
    let g : Cell → Cell = λ c. narrow_cell t c b in
    ap (λ l. narrowed l t b) (narrowed_changes cells s a) ∙ narrowed_changes (change f cells (asset_of s)) t b
    ∙ change_commutes f g (cell_commutes s a t b) cells (asset_of s) (asset_of t)
    ∙ sym (narrowed_changes (change g cells (asset_of t)) s a) ∙ ap (λ l. narrowed l s a) (sym (narrowed_changes cells t b))

pub length-narrowed : (cells : List Cell) (s : Split) (a : Side) → length (narrowed cells s a) ≡ length cells
length-narrowed cells s a = length-set cells (asset_of s) _

held_cell_is : (cell : Cell) (a : Side) → IsCell cell → IsCell (held_narrow cell a)
held_cell_is Out a h = tt
held_cell_is (Held l u) First h = tt
held_cell_is (Held l u) Second h = h
held_cell_is (Free l u) First h = tt
held_cell_is (Free l u) Second h = h

range_is : (l u : ℕ) → 1 ≤ l → u ≤ 10000 → IsCell (range_cell l u)
range_is l u p q = by_test (leb l u) refl where
  by_test : (b : Bool) → leb l u ≡ b → IsCell (cond b (Held l u) Out)
  by_test true e = (p, grind (arith, nat_tests), q)
  by_test false e = tt

cut_cell_is : (cell : Cell) (t : ℕ) (a : Side) → IsCell cell → IsCell (cut_narrow t cell a)
cut_cell_is Out t a h = tt
cut_cell_is (Held l u) t First h = range_is l (min u t) h.0 (let k : u ≤ 10000 = h.2 in omega arith)
cut_cell_is (Held l u) t Second h = range_is (max l (t + 1)) u (omega arith) h.2
cut_cell_is (Free l u) t First h = range_is l (min u t) h.0 (let k : u ≤ 10000 = h.2 in omega arith)
cut_cell_is (Free l u) t Second h = range_is (max l (t + 1)) u (omega arith) h.2

-- what is left of a cell in range is in range
pub narrow_cell_is : (s : Split) (cell : Cell) (a : Side) → IsCell cell → IsCell (narrow_cell s cell a)
narrow_cell_is (Hold i) cell a h = held_cell_is cell a h
narrow_cell_is (Cut i t) cell a h = cut_cell_is cell t a h

-- what is left of cells in range is in range
pub narrowed_are : (cells : List Cell) (s : Split) (a : Side) → AreCells cells → AreCells (narrowed cells s a)
narrowed_are cells s a h = set_are cells (asset_of s) _ (narrow_cell_is s (slice_index_or cells (asset_of s) Out) a (h.each (asset_of s))) h

held_child_cell : (cell : Cell) (a : Side) → is_free cell ≡ true → held_narrow cell a ≡ held_side cell a
held_child_cell Out a e = cc
held_child_cell (Held l u) a e = cc
held_child_cell (Free l u) First e = refl
held_child_cell (Free l u) Second e = refl

range_first : (l u t : ℕ) → l ≤ t → t < u → range_cell l (min u t) ≡ Held l t
range_first l u t p q =
    let m : min u t ≡ t = omega arith in
    let b : leb l t ≡ true = grind (arith, nat_tests) in
    ap (range_cell l) m ∙ ap (λ z. cond z (Held l t) Out) b

range_second : (l u t : ℕ) → l ≤ t → t < u → range_cell (max l (t + 1)) u ≡ Held (t + 1) u
range_second l u t p q =
    let m : max l (t + 1) ≡ t + 1 = omega arith in
    let b : leb (t + 1) u ≡ true = grind (arith, nat_tests) in
    ap (λ z. range_cell z u) m ∙ ap (λ z. cond z (Held (t + 1) u) Out) b

cut_child_cell : (cell : Cell) (t : ℕ) (a : Side) → can_cut cell t ≡ true → cut_narrow t cell a ≡ cut_side t cell a
cut_child_cell Out t a e = cc
cut_child_cell (Held l u) t First e = let k : (l ≤ t) × (t < u) = grind (arith, nat_tests) in range_first l u t k.0 k.1
cut_child_cell (Held l u) t Second e = let k : (l ≤ t) × (t < u) = grind (arith, nat_tests) in range_second l u t k.0 k.1
cut_child_cell (Free l u) t a e = cc

-- what a side of a lawful split leaves is the child
pub narrowed_child : (cells : List Cell) (s : Split) (a : Side) → IsTrue (lawful_split cells s) → narrowed cells s a ≡ child_cells cells s a
narrowed_child cells (Hold i) a e = ap (slice_set cells i) (held_child_cell (slice_index_or cells i Out) a e)
narrowed_child cells (Cut i t) a e = ap (slice_set cells i) (cut_child_cell (slice_index_or cells i Out) t a e)
