-- Parts of a tree, and leaves that can be taken further apart.

use Rattle.std.proofs.Common.{◌≡◌, ℕ, ◌<◌, Bool, true, false, List, length, Some, None, refl, sym, ap, ◌∙◌, subst, ℤ}
use Rattle.std.proofs.lemmas.Option.{slice_get_within}
use Rattle.gap_box.specs.declared.cell.Cell.{Cell}
use Rattle.gap_box.specs.Cells.{AreCells}
use Rattle.gap_box.specs.Parts.{can_meet, IsWithin}
use Rattle.gap_box.proofs.CountLaws.{pick_meets}
use Rattle.gap_model.specs.declared.leaf.Leaf.{Leaf}
use Rattle.gap_model.specs.declared.shown.Shown.TheVariants.{AtLeast}
use Rattle.gap_model.specs.Problems.{Problem, IsPart}
use Rattle.gap_model.specs.Nodes.{Node, part_in, part_at, leaf_at, IsTree}
use Rattle.gap_tree.proofs.ViewLaws.{leaf_node}
use Rattle.gap_search.specs.Boards.{Board, Claimed, FitsPart, OpenLeaf, IsOpen, IsSound}
use Rattle.gap_search.specs.Steps.{Holds}
use Rattle.gap_search.proofs.BoardLaws.{no_empty}
use Rattle.gap_search.proofs.KeptLaws.{same_leaf}

-- a leaf is a node
pub leaf_there : (nodes : List Node) (n : ℕ) (leaf : Leaf) → leaf_at nodes n ≡ Some leaf → n < length nodes
leaf_there nodes n leaf e = let k = leaf_node nodes n leaf e in slice_get_within nodes n k.0 k.1

-- the cells of a leaf's part are in range, and its lists are lists of the root
pub leaf_cells : (nodes : List Node) (n : ℕ) (leaf : Leaf) → IsTree nodes → leaf_at nodes n ≡ Some leaf → AreCells (part_at nodes n)
leaf_cells nodes n leaf h e = let k = leaf_node nodes n leaf e in subst (λ (q : List Cell). AreCells q) (sym (ap part_in k.1)) (h.cells n k.0 k.1)

pub leaf_within : (nodes : List Node) (n : ℕ) (leaf : Leaf) → IsTree nodes → leaf_at nodes n ≡ Some leaf → IsWithin (part_at nodes n) (part_at nodes 0)
leaf_within nodes n leaf h e = let k = leaf_node nodes n leaf e in subst (λ (q : List Cell). IsWithin q (part_at nodes 0)) (sym (ap part_in k.1)) (h.within n k.0 k.1)

pub root_cells_are : (nodes : List Node) → IsTree nodes → AreCells (part_at nodes 0)
root_cells_are nodes h = let k = h.root in subst (λ (q : List Cell). AreCells q) (sym (ap part_in k.1)) (h.cells 0 k.0 k.1)

-- a leaf that shows a number stands where the count can be met
pub count_met : (p : Problem) (part : List Cell) (leaf : Leaf) (key : ℤ) → AreCells part → FitsPart p part leaf → p.shows part leaf ≡ AtLeast key → can_meet part p.fewest p.most ≡ true
count_met p part leaf key cells fits shows = by_test (can_meet part p.fewest p.most) refl where
  by_test : (t : Bool) → can_meet part p.fewest p.most ≡ t → can_meet part p.fewest p.most ≡ true
  by_test true e = e
  by_test false e = absurd (no_empty key (sym (fits.tight.none (λ x k. clash (sym e ∙ pick_meets part p.fewest p.most x cells k))) ∙ shows)) where
    clash : false ≡ true → ⊥
    clash z = cc

module _ (p : Problem) (b : Board) (h : IsSound p b) where
  pub leaf_is_part : (n : ℕ) (leaf : Leaf) → leaf_at b.nodes n ≡ Some leaf → IsPart p (part_at b.nodes n)
  leaf_is_part n leaf e = record { valid = leaf_cells b.nodes n leaf h.tree e; within = subst (λ (q : List Cell). IsWithin (part_at b.nodes n) q) h.root (leaf_within b.nodes n leaf h.tree e) }

  pub open_leaf_is : (n : ℕ) (o : OpenLeaf p b.nodes n) → IsOpen p (part_at b.nodes n) o.leaf
  open_leaf_is n o = record {
    part_is = leaf_is_part n o.leaf o.there;
    fits = h.leaves n o.leaf o.there;
    key = o.key;
    shows = o.shows;
    met = count_met p (part_at b.nodes n) o.leaf o.key (leaf_cells b.nodes n o.leaf h.tree o.there) (h.leaves n o.leaf o.there) o.shows;
    many = o.many;
  }

  -- the leaf of a ticket can be taken further apart
  pub open_is : (c : Claimed) → Holds b c → (leaf : Leaf) → leaf_at b.nodes c.node.0 ≡ Some leaf → IsOpen p c.part leaf
  open_is c k leaf e =
      let o = h.open_leaves c.worker c.node k.held in
      let q = same_leaf o.leaf leaf (sym o.there ∙ e) in
      subst (λ (c : List Cell). IsOpen p c leaf) (sym k.part) (subst (λ (l : Leaf). IsOpen p (part_at b.nodes c.node.0) l) q (open_leaf_is c.node.0 o))

  -- and is there
  pub held_leaf : (c : Claimed) → Holds b c → leaf_at b.nodes c.node.0 ≡ None → ⊥
  held_leaf c k e = clash (sym e ∙ (h.open_leaves c.worker c.node k.held).there) where
    clash : {l : Leaf} → None ≡ Some l → ⊥
    clash z = cc
