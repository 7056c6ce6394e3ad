-- Leaves that say of a part all that one list can tell. Own to portgap.

use Rattle.std.specs.Prelude.{◌≡◌, ◌≢◌, ℕ, Bool, true, false, List}
use Rattle.gap_box.specs.declared.cell.Cell.{Cell}
use Rattle.gap_box.specs.Parts.{IsPick, IsSingle}
use Rattle.gap_model.specs.declared.leaf.Leaf.{Leaf}
use Rattle.gap_model.specs.declared.leaf.Leaf.TheVariants.{Count, Void, Tangent}
use Rattle.gap_model.specs.declared.shown.Shown.TheVariants.{Nothing, AtLeast, Empty}
use Rattle.gap_model.specs.Problems.{Problem}

-- is a leaf a tangent?
abbrev pub is_tangent : Leaf → Bool
is_tangent Count = false
is_tangent (Void alpha tau third) = false
is_tangent (Tangent y alpha tau third) = true

-- a leaf is tight on a part:
-- none: where no list of the part holds from the fewest to the most assets, it shows Empty;
-- broken: where exactly one does and it doesn't meet the limits, it shows Empty;
-- single: where exactly one does and it meets the limits, it shows exactly what that list costs;
-- something: it never shows Nothing;
-- tangent: no tangent shows Empty
pub record IsTight (p : Problem) (part : List Cell) (leaf : Leaf) : Type 0 where
  pub none : ((x : List ℕ) → IsPick part p.fewest p.most x → ⊥) → p.shows part leaf ≡ Empty
  pub broken : (x : List ℕ) → IsSingle part p.fewest p.most x → p.meets x ≡ false → p.shows part leaf ≡ Empty
  pub single : (x : List ℕ) → IsSingle part p.fewest p.most x → p.meets x ≡ true → p.shows part leaf ≡ AtLeast (p.cost x)
  pub something : p.shows part leaf ≢ Nothing
  pub tangent : is_tangent leaf ≡ true → p.shows part leaf ≢ Empty
