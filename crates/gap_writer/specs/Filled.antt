-- What writing a section leaves in a file, and what is still to be written of it. Own to portgap.

use Rattle.std.specs.Prelude.{◌≡◌, ℕ, ◌+◌, ◌-◌, ◌^◌, List, [], ◌∷◌, ◌++◌, sum_by, Option, Some, None, Result}
use Rattle.gap_box.specs.declared.node.NodeId.{NodeId}
use Rattle.gap_model.specs.Trees.{SplitTree}
use Rattle.gap_model.specs.Nodes.{Node, IsTreeOf}
use Rattle.gap_cert.specs.declared.field.Field.{Field}
use Rattle.gap_cert.specs.declared.field.Version.TheVariants.{Two}
use Rattle.gap_cert.specs.Certificates.{CertSection, tree_fields, section_fields, spelled}
use Rattle.gap_files.specs.Outside.{FilesNow, SinkNow}
use Rattle.gap_files.specs.declared.halt.Halt.{Halt}
use Rattle.gap_files.specs.Drains.{Flows, Fills}
use Rattle.gap_solved.specs.Solveds.{SolvedValue, cert_tree_of, IsSectionOf}
use Rattle.gap_writer.specs.Writing.{Written}

-- the bytes of a section in version 2
abbrev pub section_bytes : CertSection → List ℕ
section_bytes s = spelled Two None (section_fields s)

-- the section of a certificate over n assets that says what is known of a weight was appended to the named file, from the
-- files f to g: all of its bytes, or it stopped with a proper front of them
abbrev pub FillsSection : List ℕ → FilesNow → FilesNow → SinkNow → ℕ → SolvedValue → Result (Unit {0}) Halt → Type 0
FillsSection name f g sink n solved result =
    (s : CertSection) → IsSectionOf n solved s → Fills name f g sink (section_bytes s) result

-- what a writer has and what items behind it will add
abbrev pub due : Written → List Field → List ℕ
due w fields = w.bytes ++ spelled Two w.last fields

-- the items of the trees whose roots wait on a stack, the last one's first
abbrev pub Waits : ℕ → List Node → List NodeId → List Field → Type 0
Waits n nodes [] fields = fields ≡ []
Waits n nodes (node ∷ stack) fields =
    (behind : List Field) × (tree : SplitTree) × Waits n nodes stack behind × IsTreeOf nodes node.0 tree
    × (fields ≡ behind ++ tree_fields (cert_tree_of n tree))

-- the trees that wait on a stack have items, and what a writer has with these is what is due
pub record Owes (n : ℕ) (nodes : List Node) (stack : List NodeId) (w : Written) (all : List ℕ) : Type 0 where
  pub fields : List Field
  pub waits : Waits n nodes stack fields
  pub all_is : due w fields ≡ all

-- of all that is due a front was appended to the named file, and the rest is in the writer or waits on a stack
pub record Pours (n : ℕ) (nodes : List Node) (name : List ℕ) (f g : FilesNow) (sink : SinkNow) (all : List ℕ)
    (stack : List NodeId) (w : Written) : Type 0 where
  pub left : List ℕ
  pub owes : Owes n nodes stack w left
  pub flows : Flows name f g sink all left

-- how much a stack of nodes weighs at most: a node weighs more than its two children together, which come behind it
abbrev pub weight_of : ℕ → List NodeId → ℕ
weight_of count stack = sum_by (λ node. 2 ^ (count - node.0)) stack

-- the stack on which the root alone waits
abbrev pub root_stack : List NodeId
root_stack = record { 0 = 0 } ∷ []

-- the children of a node, by the number of the first, with the second below the first
abbrev pub children_of : Option ℕ → List NodeId
children_of None = []
children_of (Some k) = record { 0 = k + 1 } ∷ record { 0 = k } ∷ []
