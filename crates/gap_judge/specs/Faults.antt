-- When an item of a certificate is right behind the items before it, and what is at fault where it isn't. Own to portgap.

use Rattle.std.specs.Prelude.{◌≡◌, ◌≢◌, ℕ, ◌+◌, ◌-◌, ◌*◌, ◌/◌, ◌<◌, ◌≤◌, ◌⊎◌, true, false, List, [], ◌∷◌, drop, length, Option, Some, None, IsTrue, ℤ, ◌<ℤ◌, ◌≤ℤ◌, pos}
use Rattle.std.specs.Option.{ForSome}
use Rattle.gap_base.specs.declared.row.Row.{Row}
use Rattle.gap_box.specs.declared.cell.Cell.{Cell}
use Rattle.gap_box.specs.declared.split.Split.{Split}
use Rattle.gap_instance.specs.declared.keeps.Broken.{Broken}
use Rattle.gap_instance.specs.Limits.{MeetsLimits, IsFirstBroken}
use Rattle.gap_instance.specs.Objective.{cov_of, objective}
use Rattle.gap_psd.specs.Shifts.{IsDominantShift, IsFirstRow}
use Rattle.gap_model.specs.declared.outcome.Best.{Best}
use Rattle.gap_model.specs.declared.shown.Shown.{Shown}
use Rattle.gap_model.specs.declared.shown.Shown.TheVariants.{Nothing, AtLeast, Empty}
use Rattle.gap_model.specs.declared.cert_fault.CertFault.{CertFault}
use Rattle.gap_model.specs.declared.cert_fault.CertKind.TheVariants as kind
use Rattle.gap_model.specs.Order.{ShownLe}
use Rattle.gap_model.specs.Theta.{void_theta}
use Rattle.gap_cert.specs.declared.field.Field.{Field}
use Rattle.gap_cert.specs.declared.field.Field.TheVariants as field
use Rattle.gap_cert.specs.Certificates.{CertHead, CertLeaf, count, void, tangent}
use Rattle.gap_judge.specs.Walks.{IsLawfulNext}
use Rattle.gap_valid.specs.Heads.{instance_in, shift_in}
use Rattle.gap_valid.specs.CertTrees.{greater_shown, has_point}
use Rattle.gap_judge.specs.Progress.{Progress, with_diagonal, is_open_outcome, claimed_now, setting_now, first_part, shown_next, with_leaf}

-- the shift of a head is dominant for its instance
abbrev pub IsDominantHead : CertHead → Type 0
IsDominantHead h = IsDominantShift (cov_of (instance_in h).market) (shift_in h)

-- the objective of the present section's portfolio
abbrev pub objective_now : Progress → ℤ
objective_now p = objective (instance_in p.head) p.weight.p p.weight.q p.lots

-- the shown bound of the present section, by the leaves so far
abbrev pub shown_now : Progress → Shown
shown_now p = greater_shown p.overall p.least

-- the section whose tree is whole is right: an open one has as many splits as the budget, and what is claimed is shown
pub record EndsWell (p : Progress) : Type 0 where
  pub spent : IsTrue (is_open_outcome p.outcome) → p.head.nodes ≤ p.splits
  pub shown : ForSome (claimed_now p) (λ claimed. ShownLe (AtLeast claimed) (shown_now p))

-- a leaf is right on the part where it stands: it has a tangent point, or shows that no list there meets the limits
abbrev pub IsRightNext : Progress → CertLeaf → Type 0
IsRightNext p leaf = has_point leaf ≡ false → shown_next p leaf ≡ Empty

-- a leaf is right, and so is the section where it is the last one
pub record IsLeafRight (p : Progress) (leaf : CertLeaf) : Type 0 where
  pub right : IsRightNext p leaf
  pub ends : drop 1 p.parts ≡ [] → EndsWell (with_leaf p leaf)

-- a split is within the budget, and lawful at the part where it stands
pub record IsSplitRight (p : Progress) (split : Split) : Type 0 where
  pub within : p.splits < p.head.nodes
  pub lawful : IsLawfulNext p.parts split

-- an item is right behind the items before it
unfoldable pub IsItemRight : Progress → Field → Type 0
IsItemRight p (field.ShiftEntry d) =
    length (with_diagonal p.head d).diagonal ≡ p.head.n → IsDominantHead (with_diagonal p.head d)
IsItemRight p (field.Portfolio x) = MeetsLimits (instance_in p.head) x
IsItemRight p (field.Objective value) = value ≡ objective_now p
IsItemRight p (field.Bound value) = p.outcome ≡ 3 → ForSome p.best (λ best. value <ℤ best.value)
IsItemRight p field.CountLeaf = IsLeafRight p count
IsItemRight p (field.VoidLeaf alpha tau) = IsLeafRight p (void alpha tau)
IsItemRight p (field.TangentLeaf w) = IsLeafRight p (tangent w)
IsItemRight p (field.Split split) = IsSplitRight p split
IsItemRight p _ = Unit {0}

-- the number of the first byte of R, from the number of the byte behind D: D has 16 bytes an entry, R has 8
abbrev pub factor_place : ℕ → ℕ → ℕ
factor_place n behind = behind - (16 * n + 4 * (n * (n + 1)))

-- the first row of a shift that isn't dominant
pub record IsShiftFault (h : CertHead) (behind : ℕ) (f : CertFault) : Type 0 where
  pub row : Row
  pub first : IsFirstRow (cov_of (instance_in h).market) (shift_in h) row
  pub fault_is : f ≡ record { place = factor_place h.n behind; kind = kind.Shift row }

-- the first limit that a portfolio breaks
pub record IsPortfolioFault (p : Progress) (x : List ℕ) (place : ℕ) (f : CertFault) : Type 0 where
  pub broken : Broken
  pub first : IsFirstBroken (instance_in p.head) x broken
  pub fault_is : f ≡ record { place = place; kind = kind.Portfolio broken }

-- an objective that isn't the portfolio's
pub record IsObjectiveFault (p : Progress) (value : ℤ) (place : ℕ) (f : CertFault) : Type 0 where
  pub other : value ≢ objective_now p
  pub fault_is : f ≡ record { place = place; kind = kind.Objective (objective_now p) value }

-- the bound of an open section that isn't below the objective
pub record IsBoundFault (p : Progress) (value : ℤ) (place : ℕ) (f : CertFault) : Type 0 where
  pub is_open : p.outcome ≡ 3
  pub best : Best
  pub best_is : p.best ≡ Some best
  pub above : best.value ≤ℤ value
  pub fault_is : f ≡ record { place = place; kind = kind.NotOpen best.value value }

-- a count leaf where the count can be met; a void leaf whose theta isn't above 0
abbrev pub IsWrongLeaf : Progress → CertLeaf → ℕ → CertFault → Type 0
IsWrongLeaf p count place f = (shown_next p count ≡ Nothing) × (f ≡ record { place = place; kind = kind.Count })
IsWrongLeaf p (void alpha tau) place f =
    (t : ℤ) × (void_theta (setting_now p) (first_part p.parts) alpha tau ≡ Some t) × (t ≤ℤ pos 0)
    × (f ≡ record { place = place; kind = kind.Void t })
IsWrongLeaf p (tangent w) place f = ⊥

-- an open section whose tree is whole with fewer splits than the budget
pub record IsFewSplits (p : Progress) (behind : ℕ) (f : CertFault) : Type 0 where
  pub is_open : IsTrue (is_open_outcome p.outcome)
  pub fewer : p.splits < p.head.nodes
  pub fault_is : f ≡ record { place = behind; kind = kind.Nodes p.splits p.head.nodes }

-- a section whose tree is whole, and that shows less than it claims
pub record IsWeak (p : Progress) (behind : ℕ) (f : CertFault) : Type 0 where
  pub spent : IsTrue (is_open_outcome p.outcome) → p.head.nodes ≤ p.splits
  pub claimed : ℤ
  pub claimed_is : claimed_now p ≡ Some claimed
  pub found : ℤ
  pub found_is : shown_now p ≡ AtLeast found
  pub weak : found <ℤ claimed
  pub fault_is : f ≡ record { place = behind; kind = kind.Weak found claimed }

-- the section whose tree is whole has too few splits; or it has enough, and shows too little
abbrev pub IsEndFault : Progress → ℕ → CertFault → Type 0
IsEndFault p behind f = IsFewSplits p behind f ⊎ IsWeak p behind f

-- a leaf is wrong where it stands; or it is right there and the last one of a section with too few splits; or with enough,
-- of a section that shows too little
abbrev pub IsLeafFault : Progress → CertLeaf → (place behind : ℕ) → CertFault → Type 0
IsLeafFault p leaf place behind f =
    IsWrongLeaf p leaf place f ⊎ (IsRightNext p leaf × (drop 1 p.parts ≡ []) × IsEndFault (with_leaf p leaf) behind f)

-- a split past the budget; or one within it that isn't lawful
abbrev pub IsSplitFault : Progress → Split → ℕ → CertFault → Type 0
IsSplitFault p split place f =
    ((p.head.nodes ≤ p.splits) × (f ≡ record { place = place; kind = kind.Nodes (p.splits + 1) p.head.nodes }))
    ⊎ ((p.splits < p.head.nodes) × (IsLawfulNext p.parts split → ⊥) × (f ≡ record { place = place; kind = kind.Split }))

-- what is at fault with an item whose first byte has the number `place`, where the bytes behind it begin with `behind`
unfoldable pub IsItemFault : Progress → Field → (place behind : ℕ) → CertFault → Type 0
IsItemFault p (field.ShiftEntry d) place behind f =
    (length (with_diagonal p.head d).diagonal ≡ p.head.n) × IsShiftFault (with_diagonal p.head d) behind f
IsItemFault p (field.Portfolio x) place behind f = IsPortfolioFault p x place f
IsItemFault p (field.Objective value) place behind f = IsObjectiveFault p value place f
IsItemFault p (field.Bound value) place behind f = IsBoundFault p value place f
IsItemFault p field.CountLeaf place behind f = IsLeafFault p count place behind f
IsItemFault p (field.VoidLeaf alpha tau) place behind f = IsLeafFault p (void alpha tau) place behind f
IsItemFault p (field.TangentLeaf w) place behind f = IsLeafFault p (tangent w) place behind f
IsItemFault p (field.Split split) place behind f = IsSplitFault p split place f
IsItemFault p _ place behind f = ⊥
