-- The order of what leaves show. Own to portgap.

use Rattle.std.specs.Prelude.{◌≤ℤ◌}
use Rattle.gap_model.specs.declared.shown.Shown.{Shown}
use Rattle.gap_model.specs.declared.shown.Shown.TheVariants.{Nothing, AtLeast, Empty}

-- the first shows no more than the second: Nothing is below each AtLeast, Empty above, and AtLeast goes by its number
abbrev pub ShownLe : Shown → Shown → Type 0
ShownLe Nothing b = Unit {0}
ShownLe (AtLeast a) Nothing = ⊥
ShownLe (AtLeast a) (AtLeast b) = a ≤ℤ b
ShownLe (AtLeast a) Empty = Unit {0}
ShownLe Empty Nothing = ⊥
ShownLe Empty (AtLeast b) = ⊥
ShownLe Empty Empty = Unit {0}
