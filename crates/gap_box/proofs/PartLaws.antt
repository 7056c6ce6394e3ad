-- Laws of parts by place.

use Rattle.std.proofs.Common.{◌≡◌, ℕ, zero, suc, ◌<◌, ◌≤◌, Bool, true, false, ltb, cond, List, [], ◌∷◌, length, take, slice_index_or, slice_set, refl, arith, ap, sym, ◌∙◌, length-take}
use Rattle.std.proofs.lemmas.Bool.Decides.{nat_tests}
use Rattle.std.proofs.Math.Seq.{take-set-lt}
use Rattle.std.proofs.lemmas.List.{ext_get_or}
use Rattle.gap_box.specs.declared.cell.Cell.{Cell}
use Rattle.gap_box.specs.declared.cell.Cell.TheVariants.{Out, Free}
use Rattle.gap_box.specs.Cells.{IsCell}
use Rattle.gap_box.specs.Parts.{root_cell, root_cells}

-- the root has a cell for each asset
pub length-root : (lo hi : List ℕ) → length lo ≡ length hi → length (root_cells lo hi) ≡ length lo
length-root [] hi e = refl
length-root (l ∷ lo) [] e = absurd (omega arith)
length-root (l ∷ lo) (u ∷ hi) e = ap suc (length-root lo hi (omega arith))

-- which is the cell of the asset's limits
pub root-at : (lo hi : List ℕ) → length lo ≡ length hi → (k : ℕ) → k < length lo → slice_index_or (root_cells lo hi) k Out ≡ root_cell (slice_index_or lo k 0) (slice_index_or hi k 0)
root-at [] hi e k h = absurd (omega arith)
root-at (l ∷ lo) [] e k h = absurd (omega arith)
root-at (l ∷ lo) (u ∷ hi) e zero h = refl
root-at (l ∷ lo) (u ∷ hi) e (suc k) h = root-at lo hi (omega arith) k (omega arith)

-- a cell of limits in range is in range
pub root_cell_is : (l u : ℕ) → 1 ≤ l → u ≤ 10000 → IsCell (root_cell l u)
root_cell_is l u a b = root_cell_by (ltb u l) refl where
  root_cell_by : (t : Bool) → ltb u l ≡ t → IsCell (cond t Out (Free l u))
  root_cell_by true e = tt
  root_cell_by false e = (a, grind (arith, nat_tests), b)

-- a list of cells that has the root's cell at each place is the root
pub root_from : (lo hi : List ℕ) (cells : List Cell) → length lo ≡ length hi → length cells ≡ length lo → ((k : ℕ) → k < length lo → slice_index_or cells k Out ≡ root_cell (slice_index_or lo k 0) (slice_index_or hi k 0)) → cells ≡ root_cells lo hi
root_from lo hi cells e f h =
    let n = length-root lo hi e in
    ext_get_or Out cells (root_cells lo hi) (f ∙ sym n) (λ k p. h k (omega arith) ∙ sym (root-at lo hi e k (omega arith)))

-- a write into an array, seen in its first n cells
pub put_is : (n : ℕ) (cells now : List Cell) (i j : ℕ) (cell : Cell) → take n cells ≡ now → i < length now → j ≡ i → take n (slice_set cells j cell) ≡ slice_set now i cell
put_is n cells now i j cell e h f =
    let q = rw (← e) at h in
    rw (f, ← e) (take-set-lt n cells i cell (omega (arith, length-take n cells)))
