-- What the linked nodes of a tree stand for: the list of the nodes with their parts. Own to portgap.

use Rattle.std.specs.Prelude.{◌≡◌, ℕ, ◌+◌, ◌<◌, ◌≤◌, List, [], ◌∷◌, ◌++◌, length, map, slice_get, slice_index_or, Option, Some, None}
use Rattle.gap_box.specs.declared.cell.Cell.{Cell}
use Rattle.gap_box.specs.declared.node.NodeId.{NodeId}
use Rattle.gap_box.specs.declared.split.Split.{Split}
use Rattle.gap_box.specs.declared.split.Split.TheVariants.{Held as Hold}
use Rattle.gap_box.specs.declared.split.Side.{Side}
use Rattle.gap_box.specs.Narrow.{narrowed}
use Rattle.gap_model.specs.declared.leaf.Leaf.{Leaf}
use Rattle.gap_model.specs.Nodes.{Fate, ends, forks, Node, IsTree}
use Rattle.gap_tree.specs.declared.link.Up.{Up}
use Rattle.gap_tree.specs.declared.link.Link.{Link}

-- what contracts see of a tree: its nodes in the order of their numbers, and how many it has room for
pub record TreeValue : Type 0 where
  pub nodes : List Node
  pub room : ℕ

-- the decision that leads to a node that may be there
abbrev pub up_in : Option Link → Option Up
up_in None = None
up_in (Some link) = link.up

-- the decision that leads to the node with a number
abbrev pub up_at : List Link → ℕ → Option Up
up_at links n = up_in (slice_get links n)

-- the split of a decision; a root, which no tree asks for it, has some split
abbrev pub split_of_up : Option Up → Split
split_of_up None = Hold 0
split_of_up (Some up) = up.split

-- the split that leads to the node with a number
abbrev pub split_above : List Link → ℕ → Split
split_above links n = split_of_up (up_at links n)

-- the part of a node by the decision that leads to it, over the parts of the nodes before it
abbrev pub part_from : List Cell → List (List Cell) → Option Up → List Cell
part_from root parts None = root
part_from root parts (Some up) = narrowed (slice_index_or parts up.parent.0 root) up.split up.side

-- some parts with those of the nodes that come behind
abbrev pub grown : List Cell → List (List Cell) → List (Option Up) → List (List Cell)
grown root parts [] = parts
grown root parts (up ∷ ups) = grown root (parts ++ part_from root parts up ∷ []) ups

-- the decisions that lead to the nodes
abbrev pub ups_of : List Link → List (Option Up)
ups_of links = map (λ link. link.up) links

-- the parts of the nodes
abbrev pub parts_of : List Cell → List Link → List (List Cell)
parts_of root links = grown root [] (ups_of links)

-- the number of the parent
abbrev pub parent_from : Option Up → Option ℕ
parent_from None = None
parent_from (Some up) = Some up.parent.0

-- what became of a node: it ends in its leaf where it has no first child, and else forks by the split that leads to
-- that child
abbrev pub fate_from : List Link → Option NodeId → Leaf → Fate
fate_from links None leaf = ends leaf
fate_from links (Some first) leaf = forks (split_above links first.0) first.0

-- a node by its link and its part
abbrev pub node_from : List Link → Link → List Cell → Node
node_from links link part = record { part = part; parent = parent_from link.up; fate = fate_from links link.first link.leaf }

-- the nodes by their links and their parts
abbrev pub nodes_from : List Link → List Link → List (List Cell) → List Node
nodes_from links [] parts = []
nodes_from links (link ∷ rest) [] = []
nodes_from links (link ∷ rest) (part ∷ parts) = node_from links link part ∷ nodes_from links rest parts

-- the nodes that links with this root stand for
unfoldable pub nodes_of : List Cell → List Link → List Node
nodes_of root links = nodes_from links links (parts_of root links)

-- a decision that leads to the node n comes from a node before it
abbrev pub IsBefore : Option Up → ℕ → Type 0
IsBefore None n = Unit {0}
IsBefore (Some up) n = up.parent.0 < n

-- each node's parent stands before it
pub record AreOrdered (links : List Link) : Type 0 where
  pub each : (n : ℕ) → IsBefore (up_at links n) n

-- a first child and the one behind it are nodes
abbrev pub AreThere : Option NodeId → ℕ → Type 0
AreThere None n = Unit {0}
AreThere (Some first) n = first.0 + 1 < n

-- links in order, whose children are there, with room for more
pub record AreLinks (links : List Link) (room capacity : ℕ) : Type 0 where
  pub nonempty : 0 < length links
  pub ordered : AreOrdered links
  pub within : (n : ℕ) (link : Link) → slice_get links n ≡ Some link → AreThere link.first (length links)
  pub limit : length links ≤ room
  pub space : room ≤ capacity
  pub fits : room ≤ 4294967295

-- links that stand for a tree
pub record IsKept (root : List Cell) (links : List Link) (room capacity : ℕ) : Type 0 where
  pub linked : AreLinks links room capacity
  pub tree : IsTree (nodes_of root links)

-- the leaf of a link that has no first child
abbrev pub leaf_where : Option NodeId → Leaf → Option Leaf
leaf_where None leaf = Some leaf
leaf_where (Some first) leaf = None

-- the leaf of a link that may be there
abbrev pub link_leaf : Option Link → Option Leaf
link_leaf None = None
link_leaf (Some link) = leaf_where link.first link.leaf

-- the first child of a link that may be there
abbrev pub link_first : Option Link → Option NodeId
link_first None = None
link_first (Some link) = link.first

-- the split that leads to a first child that may be there
abbrev pub split_where : List Link → Option NodeId → Option Split
split_where links None = None
split_where links (Some first) = Some (split_above links first.0)

-- a link with this first child
abbrev pub with_first : Link → NodeId → Link
with_first link first = record { up = link.up; first = Some first; leaf = link.leaf }

-- a link with this leaf
abbrev pub with_leaf : Link → Leaf → Link
with_leaf link leaf = record { up = link.up; first = link.first; leaf = leaf }

-- a leaf on a side of a node's split
abbrev pub child_link : NodeId → Split → Side → Leaf → Link
child_link parent split side leaf =
    record { up = Some (record { parent = parent; split = split; side = side }); first = None; leaf = leaf }

-- a number that may be there, as that of a node
abbrev pub node_named : Option ℕ → Option NodeId
node_named None = None
node_named (Some n) = Some (record { 0 = n })

-- the two children, by the number of the first
abbrev pub children_from : Option ℕ → Option (NodeId × NodeId)
children_from None = None
children_from (Some n) = Some (record { 0 = n }, record { 0 = n + 1 })
