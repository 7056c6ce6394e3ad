-- Which certificates have an encoding: those whose numbers are in their ranges. Own to portgap.

use Rattle.std.specs.Prelude.{◌≡◌, ℕ, ◌<◌, ◌≤◌, List, length, slice_index_or, All}
use Rattle.std.specs.Option.{ForSome}
use Rattle.gap_base.specs.Sizes.{most_lots}
use Rattle.gap_box.specs.declared.split.Split.{Split}
use Rattle.gap_box.specs.declared.split.Split.TheVariants.{Held, Lots}
use Rattle.gap_box.specs.Parts.{held_count}
use Rattle.gap_model.specs.declared.outcome.Best.{Best}
use Rattle.gap_cert.specs.Bytes.{IsSigned}
use Rattle.gap_cert.specs.Certificates.{CertLeaf, count, void, tangent, CertTree, tip, fork, CertHead, CertClaim, closed, none, open_at, unfound, CertSection, Certificate}
use Rattle.gap_valid.specs.Heads.{instance_in, IsHead}
use Rattle.gap_valid.specs.CertTrees.{IsWitness, IsLeafIn}
use Rattle.gap_valid.specs.Valid.{IsWeight, AreSaid}

-- a list of lots as a portfolio has it: a number for each asset, none of them above 10000, and as many of them positive as
-- may be held
pub record AreWritten (h : CertHead) (x : List ℕ) : Type 0 where
  pub assets_are : length x ≡ h.n
  pub most : (i : ℕ) → slice_index_or x i 0 ≤ most_lots
  pub fewest : h.held ≤ held_count x
  pub many : held_count x ≤ h.held_most

-- a portfolio whose objective is a signed number of 16 bytes
pub record IsWritten (h : CertHead) (best : Best) : Type 0 where
  pub lots_are : AreWritten h best.lots
  pub value_fits : IsSigned 16 best.value

-- the numbers of a claim are in their ranges
abbrev pub IsWritableClaim : CertHead → CertClaim → Type 0
IsWritableClaim h (closed best overall) = IsWritten h best × ForSome overall (IsWitness (instance_in h))
IsWritableClaim h none = Unit {0}
IsWritableClaim h (open_at best bound overall) = IsWritten h best × AreSaid (instance_in h) bound overall
IsWritableClaim h (unfound bound overall) = AreSaid (instance_in h) bound overall

-- may the tree of this claim have tangent points? Not where no list meets the limits
abbrev pub MayHavePoints : CertClaim → Type 0
MayHavePoints (closed best overall) = Unit {0}
MayHavePoints none = ⊥
MayHavePoints (open_at best bound overall) = Unit {0}
MayHavePoints (unfound bound overall) = Unit {0}

-- a tangent leaf stands where tangent points may
abbrev pub MayStand : CertClaim → CertLeaf → Type 0
MayStand claim count = Unit {0}
MayStand claim (void alpha tau) = Unit {0}
MayStand claim (tangent w) = MayHavePoints claim

-- a split names one of n assets, and a number of two bytes
abbrev pub IsSplitOf : ℕ → Split → Type 0
IsSplitOf n (Held i) = i < n
IsSplitOf n (Lots i t) = (i < n) × (t ≤ 65535)

-- the numbers of a tree are in their ranges
abbrev pub IsWritableTree : CertHead → CertClaim → CertTree → Type 0
IsWritableTree h claim (tip leaf) = IsLeafIn (instance_in h) leaf × MayStand claim leaf
IsWritableTree h claim (fork split first second) =
    IsSplitOf h.n split × IsWritableTree h claim first × IsWritableTree h claim second

-- the numbers of a section are in their ranges
pub record IsWritableSection (h : CertHead) (s : CertSection) : Type 0 where
  pub weight_is : IsWeight s.weight
  pub claim_is : IsWritableClaim h s.claim
  pub tree_is : IsWritableTree h s.claim s.tree

-- the numbers of a certificate are in their ranges, and it has 1 to 101 sections
pub record IsWritable (c : Certificate) : Type 0 where
  pub head_is : IsHead c.head
  pub some : 1 ≤ length c.sections
  pub few : length c.sections ≤ 101
  pub sections_are : All (IsWritableSection c.head) c.sections
