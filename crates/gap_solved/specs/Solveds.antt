-- What is known of a weight, with the tree that shows it, and the section of a certificate that says so. Own to portgap.

use Rattle.std.specs.Prelude.{◌≡◌, ℕ, List, map, Option, unsigned_abs}
use Rattle.std.specs.List.{range_with_len}
use Rattle.gap_base.specs.declared.weight.Weight.{Weight}
use Rattle.gap_base.specs.declared.witness.Witness.{Witness}
use Rattle.gap_model.specs.declared.leaf.Entry.{Entry}
use Rattle.gap_model.specs.declared.leaf.Leaf.{Leaf}
use Rattle.gap_model.specs.declared.leaf.Leaf.TheVariants.{Count, Void, Tangent}
use Rattle.gap_model.specs.declared.outcome.Outcome.{Outcome}
use Rattle.gap_model.specs.Leaves.{eighths_at}
use Rattle.gap_model.specs.Nodes.{Node, IsTreeOf}
use Rattle.gap_model.specs.Trees.{SplitTree, tip, fork}
use Rattle.gap_cert.specs.Certificates.{CertLeaf, count, void, tangent, CertTree, tip as cert_tip, fork as cert_fork, CertSection, claim_of}

-- what contracts see of a solved weight: the weight, its outcome, a witness for the whole root where there is one, and
-- the nodes of its tree
pub record SolvedValue : Type 0 where
  pub weight : Weight
  pub outcome : Outcome
  pub overall : Option Witness
  pub nodes : List Node

-- the eighths that entries give to each of n assets
unfoldable pub dense : ℕ → List Entry → List ℕ
dense n y = map (λ i. unsigned_abs (eighths_at y i)) (range_with_len 0 n)

-- a bound's leaf as a certificate has it, over n assets
abbrev pub cert_leaf_of : ℕ → Leaf → CertLeaf
cert_leaf_of n Count = count
cert_leaf_of n (Void alpha tau third) = void alpha tau
cert_leaf_of n (Tangent y alpha tau third) = tangent (record { y = dense n y.now; alpha = alpha; tau = tau })

-- a tree of splits as a certificate has it
abbrev pub cert_tree_of : ℕ → SplitTree → CertTree
cert_tree_of n (tip leaf) = cert_tip (cert_leaf_of n leaf)
cert_tree_of n (fork split first second) = cert_fork split (cert_tree_of n first) (cert_tree_of n second)

-- the section of a certificate over n assets that says what is known of a weight: its tree is that of the nodes
pub record IsSectionOf (n : ℕ) (solved : SolvedValue) (s : CertSection) : Type 0 where
  pub tree : SplitTree
  pub stands : IsTreeOf solved.nodes 0 tree
  pub tree_is : s.tree ≡ cert_tree_of n tree
  pub weight_is : s.weight ≡ solved.weight
  pub claim_is : s.claim ≡ claim_of solved.outcome solved.overall
