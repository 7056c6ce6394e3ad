-- The entries of a point. Own to portgap.
use Rattle.std.specs.Prelude.{◌≡◌, ℕ, suc, cond, ltb, List, [], ◌∷◌, ℤ, pos}
use Rattle.gap_model.specs.declared.leaf.Entry.{Entry}
use Rattle.gap_model.specs.declared.leaf.Leaf.{Leaf}
use Rattle.gap_model.specs.declared.leaf.Leaf.TheVariants.{Count, Void, Tangent}

-- the entries of a list of eighths: one for each asset that has some, the first number being that of the asset i
abbrev pub point_entries : ℕ → List ℕ → List Entry
point_entries i [] = []
point_entries i (v ∷ y) =
    cond (ltb 0 v) (record { asset = i; eighths = v } ∷ point_entries (suc i) y) (point_entries (suc i) y)

-- a leaf is the tangent at a point with multipliers, and without a third
abbrev pub IsTangentOf : List ℕ → ℤ → ℤ → Leaf → Type 0
IsTangentOf point alpha tau Count = ⊥
IsTangentOf point alpha tau (Void a t third) = ⊥
IsTangentOf point alpha tau (Tangent y a t third) =
    (y.now ≡ point_entries 0 point) × (a ≡ alpha) × (t ≡ tau) × (third ≡ pos 0)
