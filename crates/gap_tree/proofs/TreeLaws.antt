-- A tree stays one where a leaf is split or gets another leaf.

use Rattle.std.proofs.Common.{◌≡◌, ℕ, zero, suc, ◌+◌, ◌*◌, ◌<◌, List, [], length, sum_by, slice_get, Option, Some, None, IsTrue, refl, sym, ap, ◌∙◌, subst, arith, ◌⊎◌, inl, inr}
use Rattle.std.proofs.lemmas.Option.{slice_get_within}
use Rattle.std.proofs.lemmas.Bool.{cases_eq}
use Rattle.std.proofs.lemmas.List.Sums.{sum_by-cons}
use Rattle.gap_box.specs.declared.cell.Cell.{Cell}
use Rattle.gap_box.specs.declared.split.Split.{Split}
use Rattle.gap_box.specs.declared.split.Side.TheVariants.{First, Second}
use Rattle.gap_box.specs.Cells.{AreCells}
use Rattle.gap_box.specs.Parts.{in_part, indicator, points, IsWithin}
use Rattle.gap_box.specs.Splits.{lawful_split, child_cells}
use Rattle.gap_box.proofs.SplitLaws.{child_once, child_sum, child_within, child_are}
use Rattle.gap_model.specs.declared.leaf.Leaf.{Leaf}
use Rattle.gap_model.specs.Nodes.{ends, forks, Node, at_leaf, one_split, share, leaf_points, splits_of, part_in, part_at, with_fate, new_leaf, split_nodes, leaf_nodes, root_nodes, HasNode, HasChildren, IsTree}
use Rattle.gap_tree.proofs.ListLaws.{length-refated, refated_same, refated_other, other, here, refated_case, old, forked, new_first, new_second, split_other, split_here, split_first, split_second, length-split, split_case, sum-refated, sum-split}

pub within_same : (cells : List Cell) → IsWithin cells cells
within_same cells = record { same_length = refl; inside = λ x h. h }

pub within_both : (a b c : List Cell) → IsWithin a b → IsWithin b c → IsWithin a c
within_both a b c p q = record { same_length = p.same_length ∙ q.same_length; inside = λ x h. q.inside x (p.inside x h) }

-- an equation of fates to what the nodes hold
no_fork : (leaf : Leaf) (split : Split) (k : ℕ) → ends leaf ≡ forks split k → ⊥
no_fork leaf split k e = cc

-- the root as it is
pub root_there : (nodes : List Node) → IsTree nodes → 0 < length nodes
root_there nodes h = slice_get_within nodes 0 h.root.0 h.root.1

module _ (nodes : List Node) (h : IsTree nodes) (n : ℕ) (was : Node) (e : slice_get nodes n ≡ Some was) (leaf : Leaf) (is_leaf : was.fate ≡ ends leaf) (split : Split) (lawful : IsTrue (lawful_split was.part split)) (first second : Leaf) where
  -- a node that is there is there afterwards, with its part and its parent
  split_keeps : (m : ℕ) (part : List Cell) (parent : Option ℕ) → HasNode nodes m part parent → HasNode (split_nodes nodes n split first second) m part parent
  split_keeps m part parent w = by_place (cases_eq m n) where
    by_place : (m ≡ n) ⊎ (m ≡ n → ⊥) → HasNode (split_nodes nodes n split first second) m part parent
    by_place (inl p) =
        let q : w.node ≡ was = cc (sym w.there ∙ ap (slice_get nodes) p ∙ e) in
        record { node = with_fate (forks split (length nodes)) was; there = ap (slice_get (split_nodes nodes n split first second)) p ∙ split_here nodes n was e split first second; part_is = ap (λ k. k.part) (sym q) ∙ w.part_is; parent_is = ap (λ k. k.parent) (sym q) ∙ w.parent_is }
    by_place (inr p) = record { node = w.node; there = split_other nodes n was e split first second m (slice_get_within nodes m w.node w.there) p ∙ w.there; part_is = w.part_is; parent_is = w.parent_is }

  -- the part of an old node stays
  pub split_part : (m : ℕ) → m < length nodes → part_at (split_nodes nodes n split first second) m ≡ part_at nodes m
  split_part m p = by_place (cases_eq m n) where
    by_place : (m ≡ n) ⊎ (m ≡ n → ⊥) → part_at (split_nodes nodes n split first second) m ≡ part_at nodes m
    by_place (inl q) = ap (λ k. part_at (split_nodes nodes n split first second) k) q ∙ ap part_in (split_here nodes n was e split first second) ∙ sym (ap part_in e) ∙ ap (part_at nodes) (sym q)
    by_place (inr q) = ap part_in (split_other nodes n was e split first second m p q)

  split_cells : (m : ℕ) (node : Node) → slice_get (split_nodes nodes n split first second) m ≡ Some node → AreCells node.part
  split_cells m node f = elim (split_case nodes n was e split first second m node f) as (λ _. AreCells node.part) [
    | old p q ↦ h.cells m node q
    | forked p q ↦ subst (λ k. AreCells k.part) (sym q) (h.cells n was e)
    | new_first p q ↦ subst (λ k. AreCells k.part) (sym q) (child_are was.part split First (h.cells n was e) lawful)
    | new_second p q ↦ subst (λ k. AreCells k.part) (sym q) (child_are was.part split Second (h.cells n was e) lawful)
  ]

  split_root : part_at (split_nodes nodes n split first second) 0 ≡ part_at nodes 0
  split_root = split_part 0 (root_there nodes h)

  split_within : (m : ℕ) (node : Node) → slice_get (split_nodes nodes n split first second) m ≡ Some node → IsWithin node.part (part_at nodes 0)
  split_within m node f = elim (split_case nodes n was e split first second m node f) as (λ _. IsWithin node.part (part_at nodes 0)) [
    | old p q ↦ h.within m node q
    | forked p q ↦ subst (λ k. IsWithin k.part (part_at nodes 0)) (sym q) (h.within n was e)
    | new_first p q ↦ subst (λ k. IsWithin k.part (part_at nodes 0)) (sym q) (within_both _ _ _ (child_within was.part split First (h.cells n was e) lawful) (h.within n was e))
    | new_second p q ↦ subst (λ k. IsWithin k.part (part_at nodes 0)) (sym q) (within_both _ _ _ (child_within was.part split Second (h.cells n was e) lawful) (h.within n was e))
  ]

  split_has_children : HasChildren (split_nodes nodes n split first second) n was.part split (length nodes)
  split_has_children = record {
    lawful = lawful;
    behind = slice_get_within nodes n was e;
    first = record { node = new_leaf (child_cells was.part split First) n first; there = split_first nodes n was e split first second; part_is = refl; parent_is = refl };
    second = record { node = new_leaf (child_cells was.part split Second) n second; there = split_second nodes n was e split first second; part_is = refl; parent_is = refl };
  }

  same_children : (m : ℕ) (node : Node) (s : Split) (k : ℕ) → node ≡ with_fate (forks split (length nodes)) was → m ≡ n → node.fate ≡ forks s k → HasChildren (split_nodes nodes n split first second) m node.part s k
  same_children m node s k q p g =
      let f : forks split (length nodes) ≡ forks s k = sym (ap (λ k. k.fate) q) ∙ g in
      let a : split ≡ s = cc in
      let b : length nodes ≡ k = cc in
      subst (λ m. HasChildren (split_nodes nodes n split first second) m node.part s k) (sym p)
      (subst (λ c. HasChildren (split_nodes nodes n split first second) n c s k) (sym (ap (λ k. k.part) q))
      (subst (λ z. HasChildren (split_nodes nodes n split first second) n was.part z k) a
      (subst (λ z. HasChildren (split_nodes nodes n split first second) n was.part split z) b split_has_children)))

  split_children : (m : ℕ) (node : Node) (s : Split) (k : ℕ) → slice_get (split_nodes nodes n split first second) m ≡ Some node → node.fate ≡ forks s k → HasChildren (split_nodes nodes n split first second) m node.part s k
  split_children m node s k f g = elim (split_case nodes n was e split first second m node f) as (λ _. HasChildren (split_nodes nodes n split first second) m node.part s k) [
    | old p q ↦ (let c = h.children m node s k q g in record { lawful = c.lawful; behind = c.behind; first = split_keeps k _ _ c.first; second = split_keeps (k + 1) _ _ c.second })
    | forked p q ↦ same_children m node s k q p g
    | new_first p q ↦ absurd (no_fork first s k (sym (ap (λ k. k.fate) q) ∙ g))
    | new_second p q ↦ absurd (no_fork second s k (sym (ap (λ k. k.fate) q) ∙ g))
  ]

  split_cover : (x : List ℕ) → sum_by (share x) (split_nodes nodes n split first second) ≡ indicator (in_part (part_at nodes 0) x)
  split_cover x =
      let s = sum-split (share x) nodes n was e split first second in
      let o = child_once was.part split (h.cells n was e) lawful x in
      let w : share x was ≡ indicator (in_part was.part x) = ap (at_leaf (indicator (in_part was.part x))) is_leaf in
      let c = h.cover x in
      omega arith

  split_sum : sum_by leaf_points (split_nodes nodes n split first second) ≡ points (part_at nodes 0)
  split_sum =
      let s = sum-split leaf_points nodes n was e split first second in
      let o = child_sum was.part split (h.cells n was e) lawful in
      let w : leaf_points was ≡ points was.part = ap (at_leaf (points was.part)) is_leaf in
      let c = h.sum in
      omega arith

  pub splits-split : splits_of (split_nodes nodes n split first second) ≡ splits_of nodes + 1
  splits-split =
      let s = sum-split (λ node. one_split node.fate) nodes n was e split first second in
      let w : one_split was.fate ≡ 0 = ap one_split is_leaf in
      omega arith

  split_number : length (split_nodes nodes n split first second) ≡ 2 * splits_of (split_nodes nodes n split first second) + 1
  split_number = let l = length-split nodes n was e split first second in let s = splits-split in let c = h.number in omega arith

  split_has_root : (node : Node) × (slice_get (split_nodes nodes n split first second) 0 ≡ Some node) × (node.parent ≡ None)
  split_has_root =
      let k = split_keeps 0 h.root.0.part None (record { node = h.root.0; there = h.root.1; part_is = refl; parent_is = h.root.2 }) in
      (k.node, k.there, k.parent_is)

  -- a tree stays one where a leaf is split
  pub split_tree : IsTree (split_nodes nodes n split first second)
  split_tree = record {
    root = split_has_root;
    cells = split_cells;
    within = λ m node f. subst (λ c. IsWithin node.part c) (sym split_root) (split_within m node f);
    children = split_children;
    cover = λ x. split_cover x ∙ ap (λ c. indicator (in_part c x)) (sym split_root);
    sum = split_sum ∙ ap points (sym split_root);
    number = split_number;
  }

module _ (nodes : List Node) (h : IsTree nodes) (n : ℕ) (was : Node) (e : slice_get nodes n ≡ Some was) (leaf : Leaf) (is_leaf : was.fate ≡ ends leaf) (next : Leaf) where
  -- the node at a place, up to its fate
  same_but_fate : (m : ℕ) (node : Node) → slice_get (leaf_nodes nodes n next) m ≡ Some node → (k : Node) × (slice_get nodes m ≡ Some k) × (node.part ≡ k.part)
  same_but_fate m node f = elim (refated_case (ends next) nodes n m was node e f) as (λ _. (k : Node) × (slice_get nodes m ≡ Some k) × (node.part ≡ k.part)) [
    | other p q ↦ (node, q, refl)
    | here p k q r ↦ (k, ap (slice_get nodes) p ∙ q, ap (λ z. z.part) r)
  ]

  leaf_keeps : (m : ℕ) (part : List Cell) (parent : Option ℕ) → HasNode nodes m part parent → HasNode (leaf_nodes nodes n next) m part parent
  leaf_keeps m part parent w = by_place (cases_eq m n) where
    by_place : (m ≡ n) ⊎ (m ≡ n → ⊥) → HasNode (leaf_nodes nodes n next) m part parent
    by_place (inl p) =
        let q : w.node ≡ was = cc (sym w.there ∙ ap (slice_get nodes) p ∙ e) in
        record { node = with_fate (ends next) was; there = ap (slice_get (leaf_nodes nodes n next)) p ∙ refated_same (ends next) nodes n was e; part_is = ap (λ k. k.part) (sym q) ∙ w.part_is; parent_is = ap (λ k. k.parent) (sym q) ∙ w.parent_is }
    by_place (inr p) = record { node = w.node; there = refated_other (ends next) nodes n m p ∙ w.there; part_is = w.part_is; parent_is = w.parent_is }

  leaf_root : part_at (leaf_nodes nodes n next) 0 ≡ part_at nodes 0
  leaf_root = let k = leaf_keeps 0 h.root.0.part None (record { node = h.root.0; there = h.root.1; part_is = refl; parent_is = h.root.2 }) in ap part_in k.there ∙ k.part_is ∙ sym (ap part_in h.root.1)

  leaf_children : (m : ℕ) (node : Node) (s : Split) (k : ℕ) → slice_get (leaf_nodes nodes n next) m ≡ Some node → node.fate ≡ forks s k → HasChildren (leaf_nodes nodes n next) m node.part s k
  leaf_children m node s k f g = elim (refated_case (ends next) nodes n m was node e f) as (λ _. HasChildren (leaf_nodes nodes n next) m node.part s k) [
    | other p q ↦ (let c = h.children m node s k q g in record { lawful = c.lawful; behind = c.behind; first = leaf_keeps k _ _ c.first; second = leaf_keeps (k + 1) _ _ c.second })
    | here p w q r ↦ absurd (no_fork next s k (sym (ap (λ z. z.fate) r) ∙ g))
  ]

  pub leaf_has_root : (node : Node) × (slice_get (leaf_nodes nodes n next) 0 ≡ Some node) × (node.parent ≡ None)
  leaf_has_root =
      let k = leaf_keeps 0 h.root.0.part None (record { node = h.root.0; there = h.root.1; part_is = refl; parent_is = h.root.2 }) in
      (k.node, k.there, k.parent_is)

  -- a tree stays one where a leaf gets another leaf
  pub leaf_tree : IsTree (leaf_nodes nodes n next)
  leaf_tree = record {
    root = leaf_has_root;
    cells = λ m node f. (let k = same_but_fate m node f in subst (λ c. AreCells c) (sym k.2) (h.cells m k.0 k.1));
    within = λ m node f. (let k = same_but_fate m node f in subst (λ c. IsWithin node.part c) (sym leaf_root) (subst (λ c. IsWithin c (part_at nodes 0)) (sym k.2) (h.within m k.0 k.1)));
    children = leaf_children;
    cover = λ x. (let s = sum-refated (share x) (ends next) nodes n was e in
        let w : share x was ≡ indicator (in_part was.part x) = ap (at_leaf (indicator (in_part was.part x))) is_leaf in
        let c = h.cover x in
        let t : sum_by (share x) (leaf_nodes nodes n next) ≡ indicator (in_part (part_at nodes 0) x) = omega arith in
        t ∙ ap (λ c. indicator (in_part c x)) (sym leaf_root));
    sum = (let s = sum-refated leaf_points (ends next) nodes n was e in
        let w : leaf_points was ≡ points was.part = ap (at_leaf (points was.part)) is_leaf in
        let c = h.sum in
        let t : sum_by leaf_points (leaf_nodes nodes n next) ≡ points (part_at nodes 0) = omega arith in
        t ∙ ap points (sym leaf_root));
    number = (let s = sum-refated (λ node. one_split node.fate) (ends next) nodes n was e in
        let w : one_split was.fate ≡ 0 = ap one_split is_leaf in
        let l = length-refated (ends next) nodes n in
        let c = h.number in omega arith);
  }

one_place : (part : List Cell) (leaf : Leaf) (n : ℕ) (node : Node) → slice_get (root_nodes part leaf) n ≡ Some node → node ≡ record { part = part; parent = None; fate = ends leaf }
one_place part leaf zero node e = cc
one_place part leaf (suc n) node e = cc

-- a root is a tree
pub root_tree : (part : List Cell) (leaf : Leaf) → AreCells part → IsTree (root_nodes part leaf)
root_tree part leaf h = record {
  root = (record { part = part; parent = None; fate = ends leaf }, refl, refl);
  cells = λ n node e. subst (λ k. AreCells k.part) (sym (one_place part leaf n node e)) h;
  within = λ n node e. subst (λ k. IsWithin k.part part) (sym (one_place part leaf n node e)) (within_same part);
  children = λ n node s k e f. absurd (no_fork leaf s k (sym (ap (λ k. k.fate) (one_place part leaf n node e)) ∙ f));
  cover = λ x. (let s = sum_by-cons (share x) (record { part = part; parent = None; fate = ends leaf }) [] in omega arith);
  sum = (let s = sum_by-cons leaf_points (record { part = part; parent = None; fate = ends leaf }) [] in omega arith);
  number = omega arith;
}
