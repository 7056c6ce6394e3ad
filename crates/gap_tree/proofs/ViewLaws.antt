-- What contracts see of links.

use Rattle.std.proofs.Common.{◌≡◌, ℕ, zero, suc, ◌+◌, ◌<◌, ◌≤◌, List, [], ◌∷◌, length, slice_get, slice_index_or, slice_set, Option, Some, None, IsSome, IsTrue, refl, sym, ap, ◌∙◌, subst, arith}
use Rattle.std.proofs.lemmas.Option.{slice_get_within, slice_get_past}
use Rattle.gap_box.specs.declared.cell.Cell.{Cell}
use Rattle.gap_box.specs.declared.node.NodeId.{NodeId}
use Rattle.gap_box.specs.declared.split.Split.{Split}
use Rattle.gap_box.specs.Splits.{lawful_split}
use Rattle.gap_model.specs.declared.leaf.Leaf.{Leaf}
use Rattle.gap_model.specs.Nodes.{Fate, ends, forks, Node, part_in, part_at, leaf_in, leaf_at, split_in, split_at, first_in, first_at, parent_in, parent_at, split_nodes, leaf_nodes, root_nodes, IsTree}
use Rattle.gap_tree.specs.declared.link.Link.{Link}
use Rattle.gap_tree.specs.Links.{up_in, up_at, parts_of, parent_from, fate_from, node_from, nodes_of, AreThere, AreLinks, IsKept, with_leaf, leaf_where, link_leaf, link_first, split_where}
use Rattle.gap_tree.proofs.NodeLaws.{root_view, root_links_are, node_at, length-nodes, after_split, split_view, split_links_are, leaf_view, leaf_links_are, leaf_first}
use Rattle.gap_tree.proofs.TreeLaws.{split_tree, leaf_tree, root_tree}
use Rattle.gap_box.specs.Cells.{AreCells}
use Rattle.gap_tree.specs.declared.link.Up.{Up}
use Rattle.gap_tree.specs.Links.{part_from, IsBefore, AreOrdered}
use Rattle.gap_tree.proofs.NodeLaws.{part_at_is}
use Rattle.gap_tree.proofs.GrowLaws.{part_at_place}

none_past : {X : Type 0} (xs : List X) (n : ℕ) → slice_get xs n ≡ None → length xs ≤ n
none_past [] n e = omega arith
none_past (x ∷ xs) zero e = cc
none_past (x ∷ xs) (suc n) e = let h = none_past xs n e in omega arith

-- the node of a link that may be there
abbrev node_of : List Cell → List Link → ℕ → Option Link → Option Node
node_of root ls n None = None
node_of root ls n (Some link) = Some (node_from ls link (slice_index_or (parts_of root ls) n root))

node_get : (root : List Cell) (ls : List Link) (n : ℕ) (o : Option Link) → slice_get ls n ≡ o → slice_get (nodes_of root ls) n ≡ node_of root ls n o
node_get root ls n None e = let l = length-nodes root ls in let p = none_past ls n e in slice_get_past (nodes_of root ls) n (omega arith)
node_get root ls n (Some link) e = node_at root ls n link e

fate_leaf : (ls : List Link) (root : List Cell) (n : ℕ) (link : Link) (first : Option NodeId) → link.first ≡ first → leaf_in (Some (node_from ls link (slice_index_or (parts_of root ls) n root))) ≡ leaf_where first link.leaf
fate_leaf ls root n link None e = ap (λ f. leaf_in (Some (record { part = slice_index_or (parts_of root ls) n root; parent = parent_from link.up; fate = fate_from ls f link.leaf }))) e
fate_leaf ls root n link (Some k) e = ap (λ f. leaf_in (Some (record { part = slice_index_or (parts_of root ls) n root; parent = parent_from link.up; fate = fate_from ls f link.leaf }))) e

pub leaf_at_is : (root : List Cell) (ls : List Link) (n : ℕ) → leaf_at (nodes_of root ls) n ≡ link_leaf (slice_get ls n)
leaf_at_is root ls n = by_link (slice_get ls n) refl where
  by_link : (o : Option Link) → slice_get ls n ≡ o → leaf_at (nodes_of root ls) n ≡ link_leaf o
  by_link None e = ap leaf_in (node_get root ls n None e)
  by_link (Some link) e = ap leaf_in (node_get root ls n (Some link) e) ∙ fate_leaf ls root n link link.first refl

fate_split : (ls : List Link) (root : List Cell) (n : ℕ) (link : Link) (first : Option NodeId) → link.first ≡ first → split_in (Some (node_from ls link (slice_index_or (parts_of root ls) n root))) ≡ split_where ls first
fate_split ls root n link None e = ap (λ f. split_in (Some (record { part = slice_index_or (parts_of root ls) n root; parent = parent_from link.up; fate = fate_from ls f link.leaf }))) e
fate_split ls root n link (Some k) e = ap (λ f. split_in (Some (record { part = slice_index_or (parts_of root ls) n root; parent = parent_from link.up; fate = fate_from ls f link.leaf }))) e

pub split_at_is : (root : List Cell) (ls : List Link) (n : ℕ) → split_at (nodes_of root ls) n ≡ split_where ls (link_first (slice_get ls n))
split_at_is root ls n = by_link (slice_get ls n) refl where
  by_link : (o : Option Link) → slice_get ls n ≡ o → split_at (nodes_of root ls) n ≡ split_where ls (link_first o)
  by_link None e = ap split_in (node_get root ls n None e)
  by_link (Some link) e = ap split_in (node_get root ls n (Some link) e) ∙ fate_split ls root n link link.first refl

abbrev pub number_in : Option NodeId → Option ℕ
number_in None = None
number_in (Some k) = Some k.0

fate_first : (ls : List Link) (root : List Cell) (n : ℕ) (link : Link) (first : Option NodeId) → link.first ≡ first → first_in (Some (node_from ls link (slice_index_or (parts_of root ls) n root))) ≡ number_in first
fate_first ls root n link None e = ap (λ f. first_in (Some (record { part = slice_index_or (parts_of root ls) n root; parent = parent_from link.up; fate = fate_from ls f link.leaf }))) e
fate_first ls root n link (Some k) e = ap (λ f. first_in (Some (record { part = slice_index_or (parts_of root ls) n root; parent = parent_from link.up; fate = fate_from ls f link.leaf }))) e

pub first_at_is : (root : List Cell) (ls : List Link) (n : ℕ) → first_at (nodes_of root ls) n ≡ number_in (link_first (slice_get ls n))
first_at_is root ls n = by_link (slice_get ls n) refl where
  by_link : (o : Option Link) → slice_get ls n ≡ o → first_at (nodes_of root ls) n ≡ number_in (link_first o)
  by_link None e = ap first_in (node_get root ls n None e)
  by_link (Some link) e = ap first_in (node_get root ls n (Some link) e) ∙ fate_first ls root n link link.first refl

pub parent_at_is : (root : List Cell) (ls : List Link) (n : ℕ) → parent_at (nodes_of root ls) n ≡ parent_from (up_at ls n)
parent_at_is root ls n = by_link (slice_get ls n) refl where
  by_link : (o : Option Link) → slice_get ls n ≡ o → parent_at (nodes_of root ls) n ≡ parent_from (up_in o)
  by_link None e = ap parent_in (node_get root ls n None e)
  by_link (Some link) e = ap parent_in (node_get root ls n (Some link) e)

-- a first child that is there has another behind it
pub first_fits : (ls : List Link) (n : ℕ) (k : NodeId) → ((m : ℕ) (link : Link) → slice_get ls m ≡ Some link → AreThere link.first (length ls)) → link_first (slice_get ls n) ≡ Some k → k.0 + 1 < length ls
first_fits ls n k h e = by_link (slice_get ls n) refl where
  by_link : (o : Option Link) → slice_get ls n ≡ o → k.0 + 1 < length ls
  by_link None f = absurd (no_first (sym (ap link_first f) ∙ e)) where
    no_first : None ≡ Some k → ⊥
    no_first d = cc
  by_link (Some link) f = subst (λ o. AreThere o (length ls)) (sym (ap link_first f) ∙ e) (h n link f)

-- what is a leaf
pub some_leaf : (o : Option Leaf) → IsSome o → (leaf : Leaf) × (o ≡ Some leaf)
some_leaf None h = absurd (cc h)
some_leaf (Some leaf) h = (leaf, refl)

by_fate : (node : Node) (leaf : Leaf) (fate : Fate) → node.fate ≡ fate → leaf_in (Some node) ≡ Some leaf → node.fate ≡ ends leaf
by_fate node leaf (ends l) e f =
    let g : leaf_in (Some (record { part = node.part; parent = node.parent; fate = ends l })) ≡ Some leaf = ap (λ z. leaf_in (Some (record { part = node.part; parent = node.parent; fate = z }))) (sym e) ∙ f in
    let q : l ≡ leaf = cc in e ∙ ap ends q
by_fate node leaf (forks s k) e f =
    let g : leaf_in (Some (record { part = node.part; parent = node.parent; fate = forks s k })) ≡ Some leaf = ap (λ z. leaf_in (Some (record { part = node.part; parent = node.parent; fate = z }))) (sym e) ∙ f in
    cc

pub leaf_node : (nodes : List Node) (n : ℕ) (leaf : Leaf) → leaf_at nodes n ≡ Some leaf → (node : Node) × (slice_get nodes n ≡ Some node) × (node.fate ≡ ends leaf)
leaf_node nodes n leaf e = by_node (slice_get nodes n) refl where
  by_node : (o : Option Node) → slice_get nodes n ≡ o → (node : Node) × (slice_get nodes n ≡ Some node) × (node.fate ≡ ends leaf)
  by_node None f = absurd (none_leaf (sym (ap leaf_in f) ∙ e)) where
    none_leaf : None ≡ Some leaf → ⊥
    none_leaf d = cc
  by_node (Some node) f = (node, f, by_fate node leaf node.fate refl (sym (ap leaf_in f) ∙ e))

-- a leaf that is there is a node
pub leaf_there : (root : List Cell) (ls : List Link) (nodes : List Node) (n : ℕ) → nodes_of root ls ≡ nodes → IsSome (leaf_at nodes n) → n < length ls
leaf_there root ls nodes n e h =
    let s = some_leaf (leaf_at nodes n) h in
    let k = leaf_node nodes n s.0 s.1 in
    let b = slice_get_within nodes n k.0 k.1 in
    let l = length-nodes root ls in
    let m : length (nodes_of root ls) ≡ length nodes = ap length e in
    omega arith

module _ (root : List Cell) (ls new : List Link) (nodes : List Node) (room capacity after : ℕ) (node : NodeId) (was : Link) (e : nodes_of root ls ≡ nodes) (kept : IsKept root ls room capacity) (there : slice_get ls node.0 ≡ Some was) (leaf : IsSome (leaf_at nodes node.0)) where
  pub split_is : (split : Split) (first second : Leaf) (k : NodeId) (k_is : k.0 ≡ length ls) → new ≡ after_split root ls node was there split first second k k_is → IsTrue (lawful_split (part_at nodes node.0) split) → nodes_of root new ≡ split_nodes nodes node.0 split first second
  split_is split first second k k_is g lawful =
      let h = subst (λ (l : List Node). IsTrue (lawful_split (part_at l node.0) split)) (sym e) lawful in
      ap (nodes_of root) g ∙ split_view root ls node was there split first second k k_is kept.linked.within h ∙ ap (λ l. split_nodes l node.0 split first second) e

  pub split_is_tree : (split : Split) (first second : Leaf) → IsTrue (lawful_split (part_at nodes node.0) split) → IsTree (split_nodes nodes node.0 split first second)
  split_is_tree split first second lawful =
      let s = some_leaf (leaf_at nodes node.0) leaf in
      let k = leaf_node nodes node.0 s.0 s.1 in
      let t = subst IsTree e kept.tree in
      let h = subst (λ (o : List Cell). IsTrue (lawful_split o split)) (ap part_in k.1) lawful in
      split_tree nodes t node.0 k.0 k.1 s.0 k.2 split h first second

  pub split_kept : (split : Split) (first second : Leaf) (k : NodeId) (k_is : k.0 ≡ length ls) → new ≡ after_split root ls node was there split first second k k_is → IsTrue (lawful_split (part_at nodes node.0) split) → length nodes + 2 ≤ room → after ≡ capacity → IsKept root new room after
  split_kept split first second k k_is g lawful space c =
      let l = length-nodes root ls in
      let m : length (nodes_of root ls) ≡ length nodes = ap length e in
      let a = split_links_are root ls node was there split first second k k_is room capacity kept.linked (omega arith) in
      record {
        linked = subst (λ z. AreLinks new room z) (sym c) (subst (λ z. AreLinks z room capacity) (sym g) a);
        tree = subst IsTree (sym (split_is split first second k k_is g lawful)) (split_is_tree split first second lawful);
      }

  no_first : was.first ≡ None
  no_first =
      let s = some_leaf (leaf_at nodes node.0) leaf in
      let k = leaf_node nodes node.0 s.0 s.1 in
      leaf_first root ls node.0 was s.0 there k.0 (ap (λ l. slice_get l node.0) e ∙ k.1) k.2

  pub leaf_is : (next : Leaf) → new ≡ slice_set ls node.0 (with_leaf was next) → nodes_of root new ≡ leaf_nodes nodes node.0 next
  leaf_is next g = ap (nodes_of root) g ∙ leaf_view root ls node.0 was there no_first next ∙ ap (λ l. leaf_nodes l node.0 next) e

  pub leaf_kept : (next : Leaf) → new ≡ slice_set ls node.0 (with_leaf was next) → after ≡ capacity → IsKept root new room after
  leaf_kept next g c =
      let s = some_leaf (leaf_at nodes node.0) leaf in
      let k = leaf_node nodes node.0 s.0 s.1 in
      let t = subst IsTree e kept.tree in
      let a = leaf_links_are root ls node.0 was there no_first next room capacity kept.linked in
      record {
        linked = subst (λ z. AreLinks new room z) (sym c) (subst (λ z. AreLinks z room capacity) (sym g) a);
        tree = subst IsTree (sym (leaf_is next g)) (leaf_tree nodes t node.0 k.0 k.1 s.0 k.2 next);
      }

no_decision : (root : List Cell) (parts : List (List Cell)) (up : Option Up) → IsBefore up 0 → part_from root parts up ≡ root
no_decision root parts None h = refl
no_decision root parts (Some up) h = absurd (omega arith)

-- the root's part
pub root_part : (root : List Cell) (ls : List Link) (nodes : List Node) → nodes_of root ls ≡ nodes → 0 < length ls → AreOrdered ls → part_at nodes 0 ≡ root
root_part root ls nodes e h o = ap (λ l. part_at l 0) (sym e) ∙ part_at_is root ls 0 h ∙ part_at_place root ls o 0 h ∙ no_decision root (parts_of root ls) (up_at ls 0) (o.each 0)

-- the part of a node
pub part_seen : (root : List Cell) (ls : List Link) (nodes : List Node) (n : ℕ) → nodes_of root ls ≡ nodes → n < length nodes → part_at nodes n ≡ slice_index_or (parts_of root ls) n root
part_seen root ls nodes n e h =
    let l = length-nodes root ls in
    let m : length (nodes_of root ls) ≡ length nodes = ap length e in
    ap (λ l. part_at l n) (sym e) ∙ part_at_is root ls n (omega arith)

pub length_seen : (root : List Cell) (ls : List Link) (nodes : List Node) → nodes_of root ls ≡ nodes → length nodes ≡ length ls
length_seen root ls nodes e = ap length (sym e) ∙ length-nodes root ls

-- a root that was just made
pub made_kept : (root : List Cell) (leaf : Leaf) (links : List Link) (room capacity : ℕ) → links ≡ record { up = None; first = None; leaf = leaf } ∷ [] → AreCells root → 1 ≤ room → room ≤ capacity → room ≤ 4294967295 → IsKept root links room capacity
made_kept root leaf links room capacity e h p q f = subst (λ l. IsKept root l room capacity) (sym e) (record { linked = root_links_are leaf room capacity p q f; tree = subst IsTree (sym (root_view root leaf)) (root_tree root leaf h) })

pub made_view : (root : List Cell) (leaf : Leaf) (links : List Link) → links ≡ record { up = None; first = None; leaf = leaf } ∷ [] → nodes_of root links ≡ root_nodes root leaf
made_view root leaf links e = ap (nodes_of root) e ∙ root_view root leaf
