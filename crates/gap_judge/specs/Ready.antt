-- Which items may come behind those before them, by the grammar. Own to portgap.

use Rattle.std.specs.Prelude.{◌≡◌, ◌≢◌, ℕ, ◌+◌, ◌<◌, ◌≤◌, List, [], length, All}
use Rattle.std.specs.Option.{ForSome}
use Rattle.gap_base.specs.declared.weight.Weight.{Weight}
use Rattle.gap_box.specs.declared.cell.Cell.{Cell}
use Rattle.gap_box.specs.Cells.{AreCells}
use Rattle.gap_box.specs.Parts.{IsWithin}
use Rattle.gap_box.specs.Narrow.{asset_of}
use Rattle.gap_instance.specs.Limits.{MeetsLimits}
use Rattle.gap_model.specs.declared.shown.Shown.TheVariants.{Nothing}
use Rattle.gap_cert.specs.declared.field.Field.{Field}
use Rattle.gap_cert.specs.declared.field.Field.TheVariants as field
use Rattle.gap_cert.specs.Certificates.{CertHead, CertLeaf, count, void, tangent}
use Rattle.gap_valid.specs.Heads.{instance_in, root_in, IsHead}
use Rattle.gap_valid.specs.CertTrees.{IsWitness, IsLeafIn}
use Rattle.gap_valid.specs.Valid.{IsWeight}
use Rattle.gap_judge.specs.Progress.{Progress, with_diagonal}

-- the head isn't whole: an entry of D is to come
abbrev pub IsUnfinished : CertHead → Type 0
IsUnfinished h = length h.diagonal < h.n

-- a part of the present tree: it is within the root
abbrev pub IsPartOf : CertHead → List Cell → Type 0
IsPartOf h part = IsWithin part (root_in h) × AreCells part

-- a section was begun: the head is whole, and the weight in its range
pub record IsBegun (p : Progress) : Type 0 where
  pub head_is : IsHead p.head
  pub weight_is : IsWeight p.weight

-- a node may come: a section was begun, a part is to come, each part is within the root, each leaf so far was
-- judged, and no more splits came than the budget
pub record IsNodeDue (p : Progress) : Type 0 where
  pub begun : IsBegun p
  pub some : 0 < length p.parts
  pub parts_are : All (IsPartOf p.head) p.parts
  pub least_is : p.least ≢ Nothing
  pub within : p.splits ≤ p.head.nodes

-- a leaf may come, with its numbers in their ranges
pub record IsLeafDue (p : Progress) (leaf : CertLeaf) : Type 0 where
  pub node : IsNodeDue p
  pub ranges : IsLeafIn (instance_in p.head) leaf

-- nothing of the lists of a head was read
pub record IsBlank (h : CertHead) : Type 0 where
  pub assets_are : h.assets ≡ []
  pub correlations_are : h.correlations ≡ []
  pub factor_is : h.factor ≡ []
  pub diagonal_is : h.diagonal ≡ []

-- an item may come behind those before it
unfoldable pub IsDue : Progress → Field → Type 0
IsDue p (field.Head n lots held held_most turnover nodes) = IsBlank p.head × (2 ≤ n)
IsDue p (field.Asset mean dev least greatest present) = IsUnfinished p.head
IsDue p (field.Correlation rho) = IsUnfinished p.head
IsDue p (field.FactorEntry r) = IsUnfinished p.head
IsDue p (field.ShiftEntry d) =
    IsUnfinished p.head × (length (with_diagonal p.head d).diagonal ≡ p.head.n → IsHead (with_diagonal p.head d))
IsDue p (field.Sections number) = Unit {0}
IsDue p (field.SectionStart a b outcome) = IsHead p.head × IsWeight (record { p = a; q = b })
IsDue p (field.Portfolio x) = IsHead p.head
IsDue p (field.Objective value) = IsHead p.head × MeetsLimits (instance_in p.head) p.lots
IsDue p (field.Bound value) = Unit {0}
IsDue p (field.Overall w) = IsBegun p × ForSome w (IsWitness (instance_in p.head))
IsDue p field.CountLeaf = IsLeafDue p count
IsDue p (field.VoidLeaf alpha tau) = IsLeafDue p (void alpha tau)
IsDue p (field.TangentLeaf w) = IsLeafDue p (tangent w)
IsDue p (field.Split split) = IsNodeDue p
IsDue p field.End = Unit {0}
