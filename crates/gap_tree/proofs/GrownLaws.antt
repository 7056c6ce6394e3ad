-- A list of nodes that is a tree is a tree of splits.

use Rattle.std.proofs.Common.{◌≡◌, ℕ, zero, suc, ◌+◌, ◌<◌, ◌≤◌, List, [], ◌∷◌, ◌++◌, length, slice_get, Option, Some, None, IsTrue, refl, sym, ap, ◌∙◌, subst, arith}
use Rattle.std.specs.List.{All}
use Rattle.std.proofs.lemmas.List.Elements.{All-append}
use Rattle.std.proofs.lemmas.Option.{slice_get_within, slice_get-get_or}
use Rattle.gap_box.specs.declared.cell.Cell.{Cell}
use Rattle.gap_box.specs.declared.split.Split.{Split}
use Rattle.gap_box.specs.declared.split.Side.TheVariants.{First, Second}
use Rattle.gap_box.specs.Splits.{lawful_split, child_cells}
use Rattle.gap_model.specs.declared.leaf.Leaf.{Leaf}
use Rattle.gap_model.specs.Trees.{SplitTree, tip, fork, IsFormedAt, PartLeaf, tree_leaves}
use Rattle.gap_model.specs.Nodes.{Fate, ends, forks, Node, part_in, part_at, leaf_in, leaf_at, HasNode, HasChildren, IsTree, IsTreeOf}
use Rattle.gap_tree.specs.Grown.{IsLeafOf, HasTree}

node_there : (nodes : List Node) (n : ℕ) → n < length nodes → (node : Node) × (slice_get nodes n ≡ Some node)
node_there [] n l = absurd (omega arith)
node_there (node ∷ nodes) zero l = (node, refl)
node_there (node ∷ nodes) (suc n) l = node_there nodes n (omega arith)

leaf_is : (node : Node) (leaf : Leaf) → node.fate ≡ ends leaf → leaf_in (Some node) ≡ Some leaf
leaf_is node leaf e = cc

all_one : (P : PartLeaf → Type 0) (x : PartLeaf) → P x → All P (x ∷ [])
all_one P x p zero d l = p
all_one P x p (suc k) d l = absurd (omega arith)

module _ (nodes : List Node) (h : IsTree nodes) where
  -- a leaf
  leaf_tree : (n : ℕ) (node : Node) (leaf : Leaf) → slice_get nodes n ≡ Some node → node.fate ≡ ends leaf → HasTree nodes n
  leaf_tree n node leaf e f = record {
    tree = tip leaf;
    stands = (node, e, f);
    formed = tt;
    leaves = all_one (IsLeafOf nodes) _ (record { number = n; there = ap leaf_in e ∙ leaf_is node leaf f; part_is = refl });
  }

  -- a node that is split, over the trees of its two children
  fork_tree : (n : ℕ) (node : Node) (split : Split) (k : ℕ) → slice_get nodes n ≡ Some node → node.fate ≡ forks split k → HasTree nodes k → HasTree nodes (k + 1) → HasTree nodes n
  fork_tree n node split k e f one two =
      let c = h.children n node split k e f in
      let q : part_at nodes n ≡ node.part = ap part_in e in
      let a : part_at nodes k ≡ child_cells (part_at nodes n) split First = ap part_in c.first.there ∙ c.first.part_is ∙ ap (λ (z : List Cell). child_cells z split First) (sym q) in
      let b : part_at nodes (k + 1) ≡ child_cells (part_at nodes n) split Second = ap part_in c.second.there ∙ c.second.part_is ∙ ap (λ (z : List Cell). child_cells z split Second) (sym q) in
      record {
        tree = fork split one.tree two.tree;
        stands = (node, k, e, f, one.stands, two.stands);
        formed = (subst (λ (z : List Cell). IsTrue (lawful_split z split)) (sym q) c.lawful, subst (λ (z : List Cell). IsFormedAt z one.tree) a one.formed, subst (λ (z : List Cell). IsFormedAt z two.tree) b two.formed);
        leaves = All-append (IsLeafOf nodes) _ _ (subst (λ (z : List Cell). All (IsLeafOf nodes) (tree_leaves z one.tree)) a one.leaves) (subst (λ (z : List Cell). All (IsLeafOf nodes) (tree_leaves z two.tree)) b two.leaves);
      }

  grown_from : (fuel n : ℕ) → length nodes ≤ n + fuel → n < length nodes → HasTree nodes n
  grown_from zero n s l = absurd (omega arith)
  grown_from (suc fuel) n s l = (let o = node_there nodes n l in by_fate (λ m t k. grown_from fuel m t k) o.0 o.1 o.0.fate refl) where
    by_fate : ((m : ℕ) → length nodes ≤ m + fuel → m < length nodes → HasTree nodes m) → (node : Node) → slice_get nodes n ≡ Some node → (fate : Fate) → node.fate ≡ fate → HasTree nodes n
    by_fate below node e (ends leaf) f = leaf_tree n node leaf e f
    by_fate below node e (forks split k) f =
        let c = h.children n node split k e f in
        let b = c.behind in
        let a = slice_get_within nodes k c.first.node c.first.there in
        let d = slice_get_within nodes (k + 1) c.second.node c.second.there in
        fork_tree n node split k e f (below k (omega arith) a) (below (k + 1) (omega arith) d)

  -- what is below a node is a tree
  pub has_tree : (n : ℕ) → n < length nodes → HasTree nodes n
  has_tree n l = grown_from (length nodes) n (omega arith) l
