-- What is known of a weight has exactly one section of a certificate.

use Rattle.std.proofs.Common.{◌≡◌, ℕ, ◌+◌, List, Option, Some, refl, sym, ap, ◌∙◌, subst}
use Rattle.gap_box.specs.declared.split.Split.{Split}
use Rattle.gap_model.specs.declared.leaf.Leaf.{Leaf}
use Rattle.gap_model.specs.Trees.{SplitTree, tip, fork}
use Rattle.gap_model.specs.Nodes.{Fate, ends, forks, Node, IsTreeOf}
use Rattle.gap_tree.specs.Grown.{HasTree}
use Rattle.gap_base.specs.declared.weight.Weight.{Weight}
use Rattle.gap_cert.specs.Certificates.{CertTree, CertClaim, CertSection, claim_of}
use Rattle.gap_solved.specs.Solveds.{SolvedValue, cert_tree_of, IsSectionOf}

-- a node that is there is one
one_node : (found : Option Node) (x y : Node) → found ≡ Some x → found ≡ Some y → x.fate ≡ y.fate
one_node found x y e f = cc

same_tip : (x y : Fate) (a b : Leaf) → x ≡ ends a → y ≡ ends b → x ≡ y → tip a ≡ tip b
same_tip x y a b e f g = cc

apart : (x y : Fate) (a : Leaf) (s : Split) (k : ℕ) → x ≡ ends a → y ≡ forks s k → x ≡ y → ⊥
apart x y a s k e f g = absurd cc

same_split : (x y : Fate) (s t : Split) (j k : ℕ) → x ≡ forks s j → y ≡ forks t k → x ≡ y → s ≡ t
same_split x y s t j k e f g = cc

same_child : (x y : Fate) (s t : Split) (j k : ℕ) → x ≡ forks s j → y ≡ forks t k → x ≡ y → j ≡ k
same_child x y s t j k e f g = cc

same_fork : (s t : Split) (a b c d : SplitTree) → s ≡ t → a ≡ c → b ≡ d → fork s a b ≡ fork t c d
same_fork s t a b c d e f g = cc

-- a node and what is below it are but one tree
pub one_tree : (nodes : List Node) (n : ℕ) (t u : SplitTree) → IsTreeOf nodes n t → IsTreeOf nodes n u → t ≡ u
one_tree nodes n (tip a) (tip b) (x, e, f) (y, g, h) = same_tip x.fate y.fate a b f h (one_node _ x y e g)
one_tree nodes n (tip a) (fork s one two) (x, e, f) (y, k, g, h, p, q) = absurd (apart x.fate y.fate a s k f h (one_node _ x y e g))
one_tree nodes n (fork s one two) (tip a) (x, k, e, f, p, q) (y, g, h) = absurd (apart y.fate x.fate a s k h f (one_node _ y x g e))
one_tree nodes n (fork s one two) (fork t three four) (x, j, e, f, p, q) (y, k, g, h, r, v) =
    let same = one_node _ x y e g in
    let z : k ≡ j = sym (same_child x.fate y.fate s t j k f h same) in
    same_fork s t one two three four (same_split x.fate y.fate s t j k f h same)
    (one_tree nodes j one three p (subst (λ (m : ℕ). IsTreeOf nodes m three) z r))
    (one_tree nodes (j + 1) two four q (subst (λ (m : ℕ). IsTreeOf nodes (m + 1) four) z v))

pub section_of : (n : ℕ) (solved : SolvedValue) → HasTree solved.nodes 0 → (s : CertSection) × IsSectionOf n solved s
section_of n solved h = (record { weight = solved.weight; claim = claim_of solved.outcome solved.overall; tree = cert_tree_of n h.tree }, record { tree = h.tree; stands = h.stands; tree_is = refl; weight_is = refl; claim_is = refl })

abbrev make : Weight → CertClaim → CertTree → CertSection
make weight claim tree = record { weight = weight; claim = claim; tree = tree }

same_make : (a b : Weight) (c d : CertClaim) (t u : CertTree) → a ≡ b → c ≡ d → t ≡ u → make a c t ≡ make b d u
same_make a b c d t u e f g = cc

same_section : (s t : CertSection) → s.weight ≡ t.weight → s.claim ≡ t.claim → s.tree ≡ t.tree → s ≡ t
same_section s t e f g = same_make s.weight t.weight s.claim t.claim s.tree t.tree e f g

pub one_section : (n : ℕ) (solved : SolvedValue) (s t : CertSection) → IsSectionOf n solved s → IsSectionOf n solved t → s ≡ t
one_section n solved s t h k =
    let same = one_tree solved.nodes 0 h.tree k.tree h.stands k.stands in
    same_section s t (h.weight_is ∙ sym k.weight_is) (h.claim_is ∙ sym k.claim_is) (h.tree_is ∙ ap (cert_tree_of n) same ∙ sym k.tree_is)
