-- What a leaf shows of its part, said beside it. Own to portgap.

use Rattle.std.specs.Prelude.{◌≡◌, List}
use Rattle.gap_box.specs.declared.cell.Cell.{Cell}
use Rattle.gap_model.specs.Problems.{Problem}
use Rattle.gap_model.specs.declared.placed.Placed.{Placed}

-- a leaf shows of a part just what is said beside it
abbrev pub ShowsSo : Problem → List Cell → Placed → Type 0
ShowsSo p part placed = p.shows part placed.leaf ≡ placed.shown
