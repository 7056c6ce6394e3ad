-- Where the cells of a part leave one number each. Own to portgap.

use Rattle.std.specs.Prelude.{ℕ, Bool, true, false, eqb, cond, List, [], ◌∷◌, Option, Some, None}
use Rattle.gap_box.specs.declared.cell.Cell.{Cell}
use Rattle.gap_box.specs.declared.cell.Cell.TheVariants.{Out, Held, Free}

-- the only number of a cell where free cells are held (true) or aren't; None where there are more
abbrev pub only_number : Bool → Cell → Option ℕ
only_number free_held Out = Some 0
only_number free_held (Held l u) = cond (eqb l u) (Some l) None
only_number false (Free l u) = Some 0
only_number true (Free l u) = cond (eqb l u) (Some l) None

-- a number before a list, where both are there
abbrev pub onto : Option ℕ → Option (List ℕ) → Option (List ℕ)
onto None rest = None
onto (Some v) None = None
onto (Some v) (Some x) = Some (v ∷ x)

-- the list of the only numbers of all cells; None where one of them has more
abbrev pub only_list : Bool → List Cell → Option (List ℕ)
only_list free_held [] = Some []
only_list free_held (cell ∷ cells) = onto (only_number free_held cell) (only_list free_held cells)
