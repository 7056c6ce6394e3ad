-- The witness that a leaf is. Own to portgap.

use Rattle.std.specs.Prelude.{◌≡◌, ℕ, ◌<◌, length}
use Rattle.gap_base.specs.Lots.{lots_at}
use Rattle.gap_base.specs.declared.witness.Witness.{Witness}
use Rattle.gap_model.specs.declared.leaf.Leaf.{Leaf}
use Rattle.gap_model.specs.declared.leaf.Leaf.TheVariants.{Count, Void, Tangent}
use Rattle.gap_model.specs.Leaves.{eighths_at}

-- a leaf is the tangent at a witness of n assets: it gives each the same eighths, and has the same multipliers
abbrev pub IsTangentOf : ℕ → Leaf → Witness → Type 0
IsTangentOf n Count w = ⊥
IsTangentOf n (Void alpha tau third) w = ⊥
IsTangentOf n (Tangent y alpha tau third) w =
    (length w.y ≡ n) × ((i : ℕ) → i < n → lots_at w.y i ≡ eighths_at y.now i) × (w.alpha ≡ alpha) × (w.tau ≡ tau)
