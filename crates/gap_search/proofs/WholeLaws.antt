-- Each leaf of a list of nodes that is a tree is one of the tree at its root.

use Rattle.std.proofs.Common.{◌≡◌, ℕ, suc, ◌+◌, ◌⊎◌, inl, inr, Bool, true, false, List, [], ◌∷◌, ◌++◌, Contains, slice_get, slice_index_or, Option, Some, refl, sym, ap, ◌∙◌, subst, arith}
use Rattle.std.proofs.lemmas.Bool.{and_from}
use Rattle.std.proofs.lemmas.Bool.Decides.{nat_tests}
use Rattle.std.proofs.lemmas.List.Elements.{Contains-append_left, Contains-append_right, Contains-push}
use Rattle.gap_box.specs.declared.cell.Cell.{Cell}
use Rattle.gap_box.specs.declared.cell.Cell.TheVariants.{Out, Held, Free}
use Rattle.gap_box.specs.declared.split.Split.{Split}
use Rattle.gap_box.specs.declared.split.Side.TheVariants.{First, Second}
use Rattle.gap_box.specs.Cells.{AreCells, IsCell, in_cell}
use Rattle.gap_box.specs.Parts.{in_part, indicator}
use Rattle.gap_box.specs.Splits.{child_cells}
use Rattle.gap_box.proofs.SplitLaws.{child_once}
use Rattle.gap_model.specs.declared.leaf.Leaf.{Leaf}
use Rattle.gap_model.specs.Trees.{SplitTree, tip, fork, PartLeaf, tree_leaves}
use Rattle.gap_model.specs.Nodes.{ends, Node, part_in, part_at, leaf_in, leaf_at, IsTree, IsTreeOf}
use Rattle.gap_search.specs.Boards.{InOneLeaf}
use Rattle.gap_search.specs.Whole.{HasEachLeaf}
use Rattle.gap_search.proofs.CoverLaws.{in_one}
use Rattle.gap_search.proofs.KeptLaws.{same_leaf}
use Rattle.gap_search.proofs.OpenLaws.{leaf_cells, leaf_within}

-- a part has a list
some_number : (cell : Cell) → IsCell cell → (v : ℕ) × (in_cell cell v ≡ true)
some_number Out h = (0, refl)
some_number (Held l u) h = let k = h.1 in (l, grind (arith, nat_tests))
some_number (Free l u) h = (0, refl)

some_list : (cells : List Cell) → AreCells cells → (x : List ℕ) × (in_part cells x ≡ true)
some_list [] h = ([], refl)
some_list (cell ∷ cells) h =
    let v = some_number cell (h.each 0) in
    let x = some_list cells (record { each = λ k. h.each (suc k) }) in
    (v.0 ∷ x.0, and_from _ _ v.1 x.1)

leaf_is : (node : Node) (leaf : Leaf) → node.fate ≡ ends leaf → leaf_in (Some node) ≡ Some leaf
leaf_is node leaf e = cc

in_either : (part one two : Bool) → indicator part ≡ indicator one + indicator two → part ≡ true → (one ≡ true) ⊎ (two ≡ true)
in_either true true two e h = inl refl
in_either true false true e h = inr refl
in_either true false false e h = absurd (omega arith)
in_either false one two e h = absurd cc

contains_one : (l : PartLeaf) → Contains (l ∷ []) l
contains_one l = Contains-push [] l

-- a list of a part is in the part of a leaf of the tree there, which is a leaf of the nodes
record Reached (nodes : List Node) (part : List Cell) (tree : SplitTree) (x : List ℕ) : Type 0 where
  m : ℕ
  leaf : Leaf
  there : leaf_at nodes m ≡ Some leaf
  inside : in_part (part_at nodes m) x ≡ true
  listed : Contains (tree_leaves part tree) (record { part = part_at nodes m; leaf = leaf })

module _ (nodes : List Node) (h : IsTree nodes) (x : List ℕ) where
  reached : (n : ℕ) (tree : SplitTree) → IsTreeOf nodes n tree → in_part (part_at nodes n) x ≡ true → Reached nodes (part_at nodes n) tree x
  reached n (tip leaf) s i = record { m = n; leaf = leaf; there = ap leaf_in s.1 ∙ leaf_is s.0 leaf s.2; inside = i; listed = contains_one _ }
  reached n (fork split first second) s i =
      let c = h.children n s.0 split s.1 s.2 s.3 in
      let q : part_at nodes n ≡ s.0.part = ap part_in s.2 in
      let a : part_at nodes s.1 ≡ child_cells (part_at nodes n) split First = ap part_in c.first.there ∙ c.first.part_is ∙ ap (λ (z : List Cell). child_cells z split First) (sym q) in
      let d : part_at nodes (s.1 + 1) ≡ child_cells (part_at nodes n) split Second = ap part_in c.second.there ∙ c.second.part_is ∙ ap (λ (z : List Cell). child_cells z split Second) (sym q) in
      let o = child_once s.0.part split (h.cells n s.0 s.2) c.lawful x in
      by_side s.1 (s.1 + 1) s.0.part a d (λ e. reached s.1 first s.4 e) (λ e. reached (s.1 + 1) second s.5 e) (in_either _ _ _ o (ap (λ (z : List Cell). in_part z x) (sym q) ∙ i)) q where
        left : (k : ℕ) → part_at nodes k ≡ child_cells (part_at nodes n) split First → Reached nodes (part_at nodes k) first x → Reached nodes (part_at nodes n) (fork split first second) x
        left k a r = record { m = r.m; leaf = r.leaf; there = r.there; inside = r.inside; listed = Contains-append_left _ _ _ (subst (λ (z : List Cell). Contains (tree_leaves z first) (record { part = part_at nodes r.m; leaf = r.leaf })) a r.listed) }

        right : (k : ℕ) → part_at nodes k ≡ child_cells (part_at nodes n) split Second → Reached nodes (part_at nodes k) second x → Reached nodes (part_at nodes n) (fork split first second) x
        right k a r = record { m = r.m; leaf = r.leaf; there = r.there; inside = r.inside; listed = Contains-append_right _ _ _ (subst (λ (z : List Cell). Contains (tree_leaves z second) (record { part = part_at nodes r.m; leaf = r.leaf })) a r.listed) }

        by_side : (k j : ℕ) (part : List Cell) → part_at nodes k ≡ child_cells (part_at nodes n) split First → part_at nodes j ≡ child_cells (part_at nodes n) split Second → (in_part (part_at nodes k) x ≡ true → Reached nodes (part_at nodes k) first x) → (in_part (part_at nodes j) x ≡ true → Reached nodes (part_at nodes j) second x) → (in_part (child_cells part split First) x ≡ true) ⊎ (in_part (child_cells part split Second) x ≡ true) → part_at nodes n ≡ part → Reached nodes (part_at nodes n) (fork split first second) x
        by_side k j part a d one two (inl e) q = left k a (one (ap (λ (z : List Cell). in_part z x) (a ∙ ap (λ (z : List Cell). child_cells z split First) q) ∙ e))
        by_side k j part a d one two (inr e) q = right j d (two (ap (λ (z : List Cell). in_part z x) (d ∙ ap (λ (z : List Cell). child_cells z split Second) q) ∙ e))

-- the leaf of a node is one of the tree at the root
pub each_leaf : (nodes : List Node) (tree : SplitTree) → IsTree nodes → IsTreeOf nodes 0 tree → HasEachLeaf nodes tree
each_leaf nodes tree h s = record { each = λ n leaf e. listed n leaf e (some_list (part_at nodes n) (leaf_cells nodes n leaf h e)) } where
  listed : (n : ℕ) (leaf : Leaf) → leaf_at nodes n ≡ Some leaf → (x : List ℕ) × (in_part (part_at nodes n) x ≡ true) → Contains (tree_leaves (part_at nodes 0) tree) (record { part = part_at nodes n; leaf = leaf })
  listed n leaf e (x, i) =
      let w = (leaf_within nodes n leaf h e).inside x i in
      let r = reached nodes h x 0 tree s w in
      let o : InOneLeaf nodes x = in_one x nodes (h.cover x ∙ ap indicator w) in
      let q : r.m ≡ n = o.only r.m r.leaf r.there r.inside ∙ sym (o.only n leaf e i) in
      let l : r.leaf ≡ leaf = same_leaf r.leaf leaf (sym r.there ∙ ap (leaf_at nodes) q ∙ e) in
      subst (λ (z : Leaf). Contains (tree_leaves (part_at nodes 0) tree) (record { part = part_at nodes n; leaf = z })) l
      (subst (λ (z : ℕ). Contains (tree_leaves (part_at nodes 0) tree) (record { part = part_at nodes z; leaf = r.leaf })) q r.listed)
