-- What a row of least costs keeps. Own to portgap.

use Rattle.std.specs.Prelude.{◌≡◌, ◌-◌}
use Rattle.gap_box.specs.Parts.{helds}
use Rattle.gap_relax.specs.Rows.{Ways, AreLeast, difference_at, slope_at}
use Rattle.gap_relax.specs.declared.row.LeastRow.{LeastRow}

-- the row has seen the first cells of these ways: it gives their least costs for each number of free cells that may be held
pub record HasSeen (w : Ways) (row : LeastRow) : Type 0 where
  pub fewest_are : row.fewest ≡ w.fewest - helds w.cells
  pub most_are : row.most ≡ w.most - helds w.cells
  pub least : AreLeast w row.seen row.count row.most row.value row.slope (difference_at row.extras) (slope_at row.extras)
