-- What stays where it was while a search goes on. Own to portgap.

use Rattle.std.specs.Prelude.{◌≡◌, ℕ, List, slice_get, Some}
use Rattle.gap_box.specs.declared.split.Split.{Split}
use Rattle.gap_model.specs.declared.leaf.Leaf.{Leaf}
use Rattle.gap_model.specs.Nodes.{ends, forks, Node, with_fate}

-- what may become of a node: it is as it was, with its part, its parent and its leaf or its split; or it was a leaf and
-- forks, where its part and its parent are what they were
pub data NodeStays (old new : Node) : Type 0 where
  as_it_was : new ≡ old → NodeStays old new
  now_forks : (leaf : Leaf) (split : Split) (first : ℕ) → old.fate ≡ ends leaf → new ≡ with_fate (forks split first) old
      → NodeStays old new

-- the node n of a list of nodes, as it is in another
pub record StaysAt (n : ℕ) (old : Node) (new : List Node) : Type 0 where
  pub node : Node
  pub there : slice_get new n ≡ Some node
  pub stays : NodeStays old node

-- each node that was there keeps its number: a split stays as it was, and so does a leaf that isn't split
pub record Stays (old new : List Node) : Type 0 where
  pub each : (n : ℕ) (node : Node) → slice_get old n ≡ Some node → StaysAt n node new
