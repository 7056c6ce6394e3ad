-- What witnesses show on a part, and no less than what they show. Own to portgap.
use Rattle.std.specs.Prelude.{ℕ, ◌≤◌, List, ℤ, pos, unsigned_abs}
use Rattle.gap_base.specs.Sizes.{most_multiplier}
use Rattle.gap_base.specs.Lots.{lots_at}
use Rattle.gap_base.specs.declared.witness.Witness.{Witness}
use Rattle.gap_box.specs.declared.cell.Cell.{Cell}
use Rattle.gap_model.specs.declared.leaf.Leaf.{Leaf}
use Rattle.gap_model.specs.declared.leaf.Leaf.TheVariants.{Count, Void, Tangent}
use Rattle.gap_model.specs.declared.shown.Shown.{Shown}
use Rattle.gap_model.specs.Settings.{Setting}
use Rattle.gap_model.specs.Theta.{theta}
use Rattle.gap_model.specs.Order.{ShownLe}
use Rattle.gap_model.specs.Leaves.{eighths_at, shows, tangent_shows}

-- what the tangent at a point shows on a part under multipliers
abbrev pub tangent_shown : Setting → List Cell → (ℕ → ℤ) → ℤ → ℤ → Shown
tangent_shown s part y alpha tau = tangent_shows (theta s part y alpha tau)

-- what a witness shows on a part
abbrev pub witness_shows : Setting → List Cell → Witness → Shown
witness_shows s part w = tangent_shown s part (lots_at w.y) w.alpha w.tau

-- what is shown is no less than what the tangent at a point shows without a price of the turnover, whatever alpha in its
-- range is
unfoldable pub NoLessThanAt : Setting → List Cell → (ℕ → ℤ) → Shown → Type 0
NoLessThanAt s part y shown =
    (alpha : ℤ) → unsigned_abs alpha ≤ most_multiplier → ShownLe (tangent_shown s part y alpha (pos 0)) shown

-- a leaf that is a tangent shows no less than its own point without a price of the turnover, whatever alpha is
abbrev pub IsOwnBest : Setting → List Cell → Leaf → Type 0
IsOwnBest s part Count = Unit {0}
IsOwnBest s part (Void alpha tau third) = Unit {0}
IsOwnBest s part (Tangent y alpha tau third) =
    NoLessThanAt s part (eighths_at y.now) (shows s part (Tangent y alpha tau third))
