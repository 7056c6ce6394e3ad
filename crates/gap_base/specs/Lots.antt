-- Words on lists of lots and of eighths of lots. Own to portgap.

use Rattle.std.specs.Prelude.{ℕ, ◌*◌, List, map, ℤ}
use Rattle.gap_base.specs.Sums.{natural_at}

-- the number at a place of a list of lots, as a whole number; 0 beyond its end
abbrev pub lots_at : List ℕ → ℕ → ℤ
lots_at x i = natural_at x i

-- a list of lots in eighths of a lot: each number eight times
abbrev pub eighths_of : List ℕ → List ℕ
eighths_of x = map (λ v. 8 * v) x
