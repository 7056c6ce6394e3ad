-- The trees of certificates at a part: their leaves with the parts of these, and what the leaves show. Own to portgap.

use Rattle.std.specs.Prelude.{◌≡◌, ℕ, ◌+◌, ◌<◌, Bool, true, false, List, [], ◌∷◌, ◌++◌, map, All, Contains, Option, Some, None, IsTrue, pos}
use Rattle.std.specs.Int.{int_min, int_max}
use Rattle.gap_base.specs.declared.witness.Witness.{Witness}
use Rattle.gap_base.specs.Lots.{lots_at}
use Rattle.gap_box.specs.declared.cell.Cell.{Cell}
use Rattle.gap_box.specs.declared.split.Side.TheVariants.{First, Second}
use Rattle.gap_box.specs.Parts.{can_meet}
use Rattle.gap_box.specs.Splits.{lawful_split, child_cells}
use Rattle.gap_instance.specs.Instances.{InstanceValue}
use Rattle.gap_model.specs.declared.leaf.Leaf.{Leaf}
use Rattle.gap_model.specs.declared.leaf.Leaf.TheVariants.{Count, Void, Tangent}
use Rattle.gap_model.specs.declared.shown.Shown.{Shown}
use Rattle.gap_model.specs.declared.shown.Shown.TheVariants.{Nothing, AtLeast, Empty}
use Rattle.gap_model.specs.Settings.{Setting}
use Rattle.gap_model.specs.Theta.{theta, void_theta}
use Rattle.gap_model.specs.Leaves.{eighths_at, count_shows, void_shows, tangent_shows, IsPoint, AreMultipliers}
use Rattle.gap_model.specs.Order.{ShownLe}
use Rattle.gap_cert.specs.Certificates.{CertLeaf, count, void, tangent, CertTree, tip, fork}

-- a tree is well formed at a part: each split is lawful at its part, and each side stands at the child of it
abbrev pub IsFormed : List Cell → CertTree → Type 0
IsFormed part (tip leaf) = Unit {0}
IsFormed part (fork split first second) =
    IsTrue (lawful_split part split) × IsFormed (child_cells part split First) first
    × IsFormed (child_cells part split Second) second

-- how many splits a tree has
abbrev pub cert_splits : CertTree → ℕ
cert_splits (tip leaf) = 0
cert_splits (fork split first second) = cert_splits first + cert_splits second + 1

-- a leaf with the part that it stands at
pub record PlacedLeaf : Type 0 where
  pub part : List Cell
  pub leaf : CertLeaf

-- the leaves of a tree at a part, with their parts, the first side's before the second's
abbrev pub cert_leaves : List Cell → CertTree → List PlacedLeaf
cert_leaves part (tip leaf) = record { part = part; leaf = leaf } ∷ []
cert_leaves part (fork split first second) =
    cert_leaves (child_cells part split First) first ++ cert_leaves (child_cells part split Second) second

-- what a leaf shows of each list of a part that meets the limits
unfoldable pub leaf_shows : Setting → List Cell → CertLeaf → Shown
leaf_shows s part count = count_shows (can_meet part s.instance.held s.instance.held_most)
leaf_shows s part (void alpha tau) = void_shows (void_theta s part alpha tau)
leaf_shows s part (tangent w) = tangent_shows (theta s part (lots_at w.y) w.alpha w.tau)

-- what a leaf shows on the part that it stands at
abbrev pub placed_shows : Setting → PlacedLeaf → Shown
placed_shows s placed = leaf_shows s placed.part placed.leaf

-- the lesser and the greater of two things shown
abbrev pub lesser_shown : Shown → Shown → Shown
lesser_shown Nothing b = Nothing
lesser_shown (AtLeast a) Nothing = Nothing
lesser_shown (AtLeast a) (AtLeast b) = AtLeast (int_min a b)
lesser_shown (AtLeast a) Empty = AtLeast a
lesser_shown Empty b = b

abbrev pub greater_shown : Shown → Shown → Shown
greater_shown Nothing b = b
greater_shown (AtLeast a) Nothing = AtLeast a
greater_shown (AtLeast a) (AtLeast b) = AtLeast (int_max a b)
greater_shown (AtLeast a) Empty = Empty
greater_shown Empty b = Empty

-- the least of what is shown; Empty, which is above all, where there is nothing
abbrev pub least_shown : List Shown → Shown
least_shown [] = Empty
least_shown (a ∷ shown) = lesser_shown a (least_shown shown)

-- the least of what is shown, as a relation: it is shown, and nothing that is shown is below it
pub record IsLeastShown (shown : List Shown) (least : Shown) : Type 0 where
  pub reached : Contains shown least
  pub below : All (ShownLe least) shown

-- what a witness for the whole root shows; nothing where none is given
abbrev pub overall_shows : Setting → List Cell → Option Witness → Shown
overall_shows s root None = Nothing
overall_shows s root (Some w) = leaf_shows s root (tangent w)

-- the shown bound: the greater of what the witness for the whole root shows and the least that a leaf shows on its part
unfoldable pub shown_bound : Setting → List Cell → Option Witness → CertTree → Shown
shown_bound s root overall tree =
    greater_shown (overall_shows s root overall) (least_shown (map (placed_shows s) (cert_leaves root tree)))

-- the numbers of a witness are in their ranges
pub record IsWitness (I : InstanceValue) (w : Witness) : Type 0 where
  pub point : IsPoint I w.y
  pub multipliers : AreMultipliers I.turnover w.alpha w.tau

-- the numbers of a leaf are in their ranges
abbrev pub IsLeafIn : InstanceValue → CertLeaf → Type 0
IsLeafIn I count = Unit {0}
IsLeafIn I (void alpha tau) = AreMultipliers I.turnover alpha tau
IsLeafIn I (tangent w) = IsWitness I w

-- does a leaf have a tangent point?
abbrev pub has_point : CertLeaf → Bool
has_point count = false
has_point (void alpha tau) = false
has_point (tangent w) = true

-- a leaf of a bound says the same as one of a certificate
abbrev pub IsSameLeaf : Setting → CertLeaf → Leaf → Type 0
IsSameLeaf s count Count = Unit {0}
IsSameLeaf s count (Void alpha tau third) = ⊥
IsSameLeaf s count (Tangent y alpha tau third) = ⊥
IsSameLeaf s (void a t) Count = ⊥
IsSameLeaf s (void a t) (Void alpha tau third) = (alpha ≡ a) × (tau ≡ t) × (third ≡ pos 0)
IsSameLeaf s (void a t) (Tangent y alpha tau third) = ⊥
IsSameLeaf s (tangent w) Count = ⊥
IsSameLeaf s (tangent w) (Void alpha tau third) = ⊥
IsSameLeaf s (tangent w) (Tangent y alpha tau third) =
    ((i : ℕ) → i < s.instance.market.assets → eighths_at y.now i ≡ lots_at w.y i) × (alpha ≡ w.alpha) × (tau ≡ w.tau)
    × (third ≡ pos 0)
