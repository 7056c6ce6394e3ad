-- The two children of a part have each of its lists exactly once, and their points add up.

use Rattle.std.proofs.Common.{◌≡◌, ℕ, zero, suc, ◌+◌, ◌*◌, ◌<◌, ◌≤◌, Bool, true, false, ◌&&◌, ◌||◌, leb, eqb, List, [], ◌∷◌, length, slice_index_or, slice_set, IsTrue, refl, arith, add-mul, mul-add, length-set}
use Rattle.std.proofs.lemmas.Bool.Decides.{nat_tests}
use Rattle.gap_box.specs.declared.cell.Cell.{Cell}
use Rattle.gap_box.specs.declared.cell.Cell.TheVariants.{Out, Held, Free}
use Rattle.gap_box.specs.declared.split.Split.{Split}
use Rattle.gap_box.specs.declared.split.Split.TheVariants.{Held as Hold, Lots as Cut}
use Rattle.gap_box.specs.declared.split.Side.{Side}
use Rattle.gap_box.specs.declared.split.Side.TheVariants.{First, Second}
use Rattle.gap_box.specs.Cells.{IsCell, AreCells, in_cell, choices, is_free}
use Rattle.gap_box.specs.Parts.{indicator, in_part, points, IsWithin}
use Rattle.gap_box.proofs.CellLaws.{set_are}
use Rattle.gap_box.specs.Splits.{can_cut, lawful_split, held_side, cut_side, child_cells}

-- each number of a cell is in exactly one of two others
abbrev pub Apart : Cell → Cell → Cell → Type 0
Apart whole a b = (v : ℕ) → indicator (in_cell whole v) ≡ indicator (in_cell a v) + indicator (in_cell b v)

pub indicator-and : (p q : Bool) → indicator (p && q) ≡ indicator p * indicator q
indicator-and true true = refl
indicator-and true false = refl
indicator-and false true = refl
indicator-and false false = refl

held_apart : (cell : Cell) → IsCell cell → is_free cell ≡ true → Apart cell (held_side cell First) (held_side cell Second)
held_apart Out h e v = cc
held_apart (Held l u) h e v = cc
held_apart (Free l u) h e v = held_by (eqb v 0) (leb l v) (leb v u) (grind (arith, nat_tests)) where
  held_by : (z a b : Bool) → (z && a) ≡ false → indicator (z || (a && b)) ≡ indicator z + indicator (a && b)
  held_by true true b e = cc
  held_by true false b e = refl
  held_by false true true e = refl
  held_by false true false e = refl
  held_by false false b e = refl

cut_apart : (cell : Cell) (t : ℕ) → can_cut cell t ≡ true → Apart cell (cut_side t cell First) (cut_side t cell Second)
cut_apart Out t e v = cc
cut_apart (Held l u) t e v = grind (arith, nat_tests)
cut_apart (Free l u) t e v = cc

-- lists of a part by the cell at one place
pub part_apart : (cells : List Cell) (i : ℕ) (a b : Cell) → i < length cells → Apart (slice_index_or cells i Out) a b → (x : List ℕ) → indicator (in_part cells x) ≡ indicator (in_part (slice_set cells i a) x) + indicator (in_part (slice_set cells i b) x)
part_apart [] i a b h p x = absurd (omega arith)
part_apart (c ∷ cells) zero a b h p [] = refl
part_apart (c ∷ cells) zero a b h p (v ∷ x) = simp indicator-and (rw (p v) (add-mul (indicator (in_cell a v)) (indicator (in_cell b v)) (indicator (in_part cells x))))
part_apart (c ∷ cells) (suc i) a b h p [] = refl
part_apart (c ∷ cells) (suc i) a b h p (v ∷ x) = simp indicator-and (rw (part_apart cells i a b (omega arith) p x) (mul-add (indicator (in_cell c v)) _ _))

-- points of a part by the cell at one place
pub points_apart : (cells : List Cell) (i : ℕ) (a b : Cell) → i < length cells → choices (slice_index_or cells i Out) ≡ choices a + choices b → points cells ≡ points (slice_set cells i a) + points (slice_set cells i b)
points_apart [] i a b h p = absurd (omega arith)
points_apart (c ∷ cells) zero a b h p = rw p (add-mul (choices a) (choices b) (points cells))
points_apart (c ∷ cells) (suc i) a b h p = rw (points_apart cells i a b (omega arith) p) (mul-add (choices c) _ _)

held_sum : (cell : Cell) → IsCell cell → is_free cell ≡ true → choices cell ≡ choices (held_side cell First) + choices (held_side cell Second)
held_sum Out h e = cc
held_sum (Held l u) h e = cc
held_sum (Free l u) h e = omega arith

cut_sum : (cell : Cell) (t : ℕ) → can_cut cell t ≡ true → choices cell ≡ choices (cut_side t cell First) + choices (cut_side t cell Second)
cut_sum Out t e = cc
cut_sum (Held l u) t e = let h : (l ≤ t) × (t < u) = grind (arith, nat_tests) in omega arith
cut_sum (Free l u) t e = cc

-- a place beyond a part isn't free to split
free_there : (cells : List Cell) (i : ℕ) → is_free (slice_index_or cells i Out) ≡ true → i < length cells
free_there [] i e = cc
free_there (c ∷ cells) zero e = omega arith
free_there (c ∷ cells) (suc i) e = let h = free_there cells i e in omega arith

cut_there : (cells : List Cell) (i t : ℕ) → can_cut (slice_index_or cells i Out) t ≡ true → i < length cells
cut_there [] i t e = cc
cut_there (c ∷ cells) zero t e = omega arith
cut_there (c ∷ cells) (suc i) t e = let h = cut_there cells i t e in omega arith

-- each list of a part is in exactly one child of a lawful split
pub child_once : (cells : List Cell) (split : Split) → AreCells cells → IsTrue (lawful_split cells split) → (x : List ℕ) → indicator (in_part cells x) ≡ indicator (in_part (child_cells cells split First) x) + indicator (in_part (child_cells cells split Second) x)
child_once cells (Hold i) h e x = part_apart cells i _ _ (free_there cells i e) (held_apart (slice_index_or cells i Out) (h.each i) e) x
child_once cells (Cut i t) h e x = part_apart cells i _ _ (cut_there cells i t e) (cut_apart (slice_index_or cells i Out) t e) x

-- the points of the two children of a lawful split add up to the part's
pub child_sum : (cells : List Cell) (split : Split) → AreCells cells → IsTrue (lawful_split cells split) → points cells ≡ points (child_cells cells split First) + points (child_cells cells split Second)
child_sum cells (Hold i) h e = points_apart cells i _ _ (free_there cells i e) (held_sum (slice_index_or cells i Out) (h.each i) e)
child_sum cells (Cut i t) h e = points_apart cells i _ _ (cut_there cells i t e) (cut_sum (slice_index_or cells i Out) t e)

pub length-child : (cells : List Cell) (split : Split) (side : Side) → length (child_cells cells split side) ≡ length cells
length-child cells (Hold i) side = length-set cells i _
length-child cells (Cut i t) side = length-set cells i _

first_of_two : (p q r : Bool) → indicator p ≡ indicator q + indicator r → q ≡ true → p ≡ true
first_of_two true q r e h = refl
first_of_two false true r e h = absurd (omega arith)
first_of_two false false r e h = cc

second_of_two : (p q r : Bool) → indicator p ≡ indicator q + indicator r → r ≡ true → p ≡ true
second_of_two true q r e h = refl
second_of_two false q true e h = absurd (omega arith)
second_of_two false q false e h = cc

-- a child of a lawful split is within the part
pub child_within : (cells : List Cell) (split : Split) (side : Side) → AreCells cells → IsTrue (lawful_split cells split) → IsWithin (child_cells cells split side) cells
child_within cells split First h e = record { same_length = length-child cells split First; inside = λ x p. first_of_two _ _ _ (child_once cells split h e x) p }
child_within cells split Second h e = record { same_length = length-child cells split Second; inside = λ x p. second_of_two _ _ _ (child_once cells split h e x) p }

held_side_is : (cell : Cell) (side : Side) → IsCell cell → IsCell (held_side cell side)
held_side_is Out side h = tt
held_side_is (Held l u) side h = h
held_side_is (Free l u) First h = tt
held_side_is (Free l u) Second h = h

cut_side_is : (cell : Cell) (t : ℕ) (side : Side) → can_cut cell t ≡ true → IsCell cell → IsCell (cut_side t cell side)
cut_side_is Out t side e h = tt
cut_side_is (Held l u) t First e h = let k : (l ≤ t) × (t < u) = grind (arith, nat_tests) in let m = h.0 in let n = h.2 in (m, k.0, omega arith)
cut_side_is (Held l u) t Second e h = let k : (l ≤ t) × (t < u) = grind (arith, nat_tests) in (omega arith, omega arith, h.2)
cut_side_is (Free l u) t side e h = cc

-- the cells of a child of a lawful split are in range
pub child_are : (cells : List Cell) (split : Split) (side : Side) → AreCells cells → IsTrue (lawful_split cells split) → AreCells (child_cells cells split side)
child_are cells (Hold i) side h e = set_are cells i (held_side (slice_index_or cells i Out) side) (held_side_is (slice_index_or cells i Out) side (h.each i)) h
child_are cells (Cut i t) side h e = set_are cells i (cut_side t (slice_index_or cells i Out) side) (cut_side_is (slice_index_or cells i Out) t side e (h.each i)) h
