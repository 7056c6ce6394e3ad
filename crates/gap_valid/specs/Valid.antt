-- When a certificate is valid. Own to portgap.

use Rattle.std.specs.Prelude.{◌≡◌, ◌≤◌, Bool, true, false, length, All, Option, ℤ, ◌<ℤ◌, unsigned_abs}
use Rattle.gap_base.specs.declared.weight.Weight.{Weight}
use Rattle.gap_base.specs.declared.witness.Witness.{Witness}
use Rattle.gap_base.specs.Sizes.{most_bound}
use Rattle.gap_instance.specs.Instances.{InstanceValue}
use Rattle.gap_instance.specs.Objective.{cov_of}
use Rattle.gap_psd.specs.Shifts.{IsDominantShift}
use Rattle.gap_model.specs.declared.outcome.Best.{Best}
use Rattle.gap_model.specs.declared.shown.Shown.TheVariants.{AtLeast, Empty}
use Rattle.gap_model.specs.Settings.{Setting}
use Rattle.gap_model.specs.Order.{ShownLe}
use Rattle.gap_model.specs.Outcomes.{IsPortfolio}
use Rattle.gap_cert.specs.Certificates.{CertTree, CertClaim, closed, none, open_at, unfound, CertHead, CertSection, Certificate}
use Rattle.std.specs.Option.{ForSome}
use Rattle.gap_valid.specs.Heads.{instance_in, shift_in, setting_in, root_in, IsHead}
use Rattle.gap_valid.specs.CertTrees.{IsFormed, cert_splits, PlacedLeaf, cert_leaves, placed_shows, shown_bound, IsWitness, IsLeafIn, has_point}

-- a weight p/q is in its range
pub record IsWeight (w : Weight) : Type 0 where
  pub least : 1 ≤ w.q
  pub most : w.q ≤ 100
  pub within : w.p ≤ w.q

-- a leaf is right on the part that it stands at: its numbers are in their ranges, and unless it has a tangent point it
-- shows that there no list meets the limits. So a count leaf stands where the count can't be met, and a void leaf
-- there or where the least of the terms with alpha and tau alone is above 0
pub record IsRightLeaf (s : Setting) (placed : PlacedLeaf) : Type 0 where
  pub ranges : IsLeafIn s.instance placed.leaf
  pub empty : has_point placed.leaf ≡ false → placed_shows s placed ≡ Empty

-- a bound and a witness for the whole root are in their ranges
pub record AreSaid (I : InstanceValue) (bound : ℤ) (overall : Option Witness) : Type 0 where
  pub bound_most : unsigned_abs bound ≤ most_bound
  pub overall_is : ForSome overall (IsWitness I)

-- the shown bound of a tree at the root is no less than a number
abbrev pub Shows : CertHead → Weight → Option Witness → CertTree → ℤ → Type 0
Shows h w overall tree number = ShownLe (AtLeast number) (shown_bound (setting_in h w) (root_in h) overall tree)

-- a portfolio that meets the limits, with its objective under a weight
abbrev pub Has : CertHead → Weight → Best → Type 0
Has h w best = IsPortfolio (instance_in h) w.p w.q best

-- the whole budget of splits is spent
abbrev pub IsSpent : CertHead → CertTree → Type 0
IsSpent h tree = cert_splits tree ≡ h.nodes

-- closed: the portfolio meets the limits and has its objective, which is shown
pub record IsClosed (h : CertHead) (w : Weight) (tree : CertTree) (best : Best) (overall : Option Witness) : Type 0 where
  pub overall_is : ForSome overall (IsWitness (instance_in h))
  pub portfolio : Has h w best
  pub shown : Shows h w overall tree best.value

-- open: the portfolio meets the limits and has its objective; the bound is below it, and is shown; and the whole
-- budget is spent
pub record IsOpen (h : CertHead) (w : Weight) (tree : CertTree) (best : Best) (bound : ℤ)
    (overall : Option Witness) : Type 0 where
  pub said : AreSaid (instance_in h) bound overall
  pub portfolio : Has h w best
  pub below : bound <ℤ best.value
  pub shown : Shows h w overall tree bound
  pub spent : IsSpent h tree

-- open without a portfolio: the bound is shown, and the whole budget is spent
pub record IsUnfound (h : CertHead) (w : Weight) (tree : CertTree) (bound : ℤ) (overall : Option Witness) : Type 0 where
  pub said : AreSaid (instance_in h) bound overall
  pub shown : Shows h w overall tree bound
  pub spent : IsSpent h tree

-- what a section claims is right by its tree; that no list meets the limits, where no leaf has a tangent point
abbrev pub IsClaimRight : CertHead → Weight → CertTree → CertClaim → Type 0
IsClaimRight h w tree (closed best overall) = IsClosed h w tree best overall
IsClaimRight h w tree none = All (λ placed. has_point placed.leaf ≡ false) (cert_leaves (root_in h) tree)
IsClaimRight h w tree (open_at best bound overall) = IsOpen h w tree best bound overall
IsClaimRight h w tree (unfound bound overall) = IsUnfound h w tree bound overall

-- is a section open?
abbrev pub is_open : CertClaim → Bool
is_open (closed best overall) = false
is_open none = false
is_open (open_at best bound overall) = true
is_open (unfound bound overall) = true

-- a section is valid under a head: its weight is in its range, its tree is well formed at the root, each leaf is right on
-- its part, the splits are within the budget, and what it claims is right
pub record IsValidSection (h : CertHead) (s : CertSection) : Type 0 where
  pub weight_is : IsWeight s.weight
  pub formed : IsFormed (root_in h) s.tree
  pub leaves_are : All (IsRightLeaf (setting_in h s.weight)) (cert_leaves (root_in h) s.tree)
  pub within : cert_splits s.tree ≤ h.nodes
  pub claim_is : IsClaimRight h s.weight s.tree s.claim

-- a certificate is valid: the numbers of its head are in their ranges, its shift is dominant, and it has 1 to 101
-- sections, each of them valid
pub record IsValid (c : Certificate) : Type 0 where
  pub head_is : IsHead c.head
  pub dominant : IsDominantShift (cov_of (instance_in c.head).market) (shift_in c.head)
  pub some : 1 ≤ length c.sections
  pub few : length c.sections ≤ 101
  pub sections_are : All (IsValidSection c.head) c.sections
