-- What a search keeps beside its board. Own to portgap.

use Rattle.std.specs.Prelude.{◌≡◌, ◌↔◌, ℕ, ◌+◌, ◌*◌, ◌<◌, ◌≤◌, List, length, slice_index_or, slice_set, Option, Some, None, ℤ, pos}
use Rattle.gap_box.specs.declared.cell.Cell.{Cell}
use Rattle.gap_box.specs.declared.node.NodeId.{NodeId}
use Rattle.gap_queue.specs.Keys.{key_at, HasLeast}
use Rattle.gap_model.specs.declared.leaf.Leaf.{Leaf}
use Rattle.gap_model.specs.declared.outcome.Best.{Best}
use Rattle.gap_model.specs.declared.outcome.Outcome.{Outcome}
use Rattle.gap_model.specs.declared.outcome.Outcome.TheVariants.{Closed, NoPortfolio, Bounded}
use Rattle.gap_model.specs.declared.shown.Shown.{Shown}
use Rattle.gap_model.specs.declared.shown.Shown.TheVariants.{Nothing, AtLeast, Empty}
use Rattle.gap_model.specs.Problems.{Problem}
use Rattle.gap_model.specs.Nodes.{Node, part_at, leaf_at}
use Rattle.gap_search.specs.Boards.{Board, node_held, BestAtMost, BestAbove, IsSound}
use Rattle.gap_search.specs.Steps.{Waits}

-- a queue has exactly the leaves that wait, by what they show
pub record AreWaiting (p : Problem) (nodes : List Node) (held : List (Option NodeId)) (waits : List (Option ℤ)) : Type
    0 where
  pub each : (n : ℕ) (key : ℤ) → (key_at waits n ≡ Some key) ↔ Waits p nodes held n key

-- a node is a leaf that shows a number
pub record LeafShows (p : Problem) (nodes : List Node) (n : ℕ) (key : ℤ) : Type 0 where
  pub leaf : Leaf
  pub there : leaf_at nodes n ≡ Some leaf
  pub shows : p.shows (part_at nodes n) leaf ≡ AtLeast key

-- beside each held leaf stands what it shows
pub record AreKeys (p : Problem) (nodes : List Node) (held : List (Option NodeId)) (keys : List ℤ) : Type 0 where
  pub each : (w : ℕ) (node : NodeId) → node_held held w ≡ Some node
      → LeafShows p nodes node.0 (slice_index_or keys w (pos 0))

-- a sound board with its queue, and room for each split of the budget
pub record IsKept (p : Problem) (b : Board) (waits : List (Option ℤ)) (keys : List ℤ) (workers room : ℕ) : Type 0 where
  pub sound : IsSound p b
  pub waiting : AreWaiting p b.nodes b.held waits
  pub shown : AreKeys p b.nodes b.held keys
  pub queue_room : length waits ≡ room
  pub enough : 2 * b.budget + 1 ≤ room
  pub held_size : length b.held ≡ 16
  pub keys_size : length keys ≡ 16
  pub few_workers : workers ≤ 16
  pub small : b.budget ≤ 100000

-- the queue after a leaf came that shows this
abbrev pub enqueued : List (Option ℤ) → ℕ → Shown → List (Option ℤ)
enqueued waits n Nothing = waits
enqueued waits n (AtLeast key) = slice_set waits n (Some key)
enqueued waits n Empty = waits

-- the leaf to be claimed next: the least that waits, where it shows less than the best
abbrev pub IsChoice : List (Option ℤ) → Option Best → Option (NodeId × ℤ) → Type 0
IsChoice waits best None = (n : ℕ) (key : ℤ) → key_at waits n ≡ Some key → BestAtMost best key
IsChoice waits best (Some c) = HasLeast waits c.0.0 × (key_at waits c.0.0 ≡ Some c.1) × BestAbove best c.1

-- how a search ends by its queue and its best, where nothing is held
abbrev pub Ends : List (Option ℤ) → Option Best → Outcome → Type 0
Ends waits best (Closed b) = (best ≡ Some b) × IsChoice waits best None
Ends waits best NoPortfolio = (best ≡ None) × IsChoice waits best None
Ends waits best (Bounded o bound) = (o ≡ best) × ((node : NodeId) × IsChoice waits best (Some (node, bound)))

-- the queue after the leaf of a part, where there is one, came
abbrev pub leaf_enqueued : Problem → List (Option ℤ) → ℕ → List Cell → Option Leaf → List (Option ℤ)
leaf_enqueued p waits n part None = waits
leaf_enqueued p waits n part (Some leaf) = enqueued waits n (p.shows part leaf)

-- a queue has exactly the leaves below a number, by what they show
pub record WaitBelow (p : Problem) (nodes : List Node) (n : ℕ) (waits : List (Option ℤ)) : Type 0 where
  pub there : (m : ℕ) (key : ℤ) → key_at waits m ≡ Some key → (m < n) × LeafShows p nodes m key
  pub back : (m : ℕ) (key : ℤ) → m < n → LeafShows p nodes m key → key_at waits m ≡ Some key
