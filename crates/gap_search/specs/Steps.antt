-- The steps of a search: claim, settle, give back and offer. Own to portgap.

use Rattle.std.specs.Prelude.{◌≡◌, ◌≢◌, ℕ, ◌+◌, ◌<◌, Bool, true, cond, ◌&&◌, List, [], ◌∷◌, length, replicate, slice_set, Option, Some, None, ℤ, int_lt, IsTrue}
use Rattle.gap_box.specs.declared.cell.Cell.{Cell}
use Rattle.gap_box.specs.declared.node.NodeId.{NodeId}
use Rattle.gap_box.specs.declared.split.Split.{Split}
use Rattle.gap_box.specs.declared.split.Side.TheVariants.{First, Second}
use Rattle.gap_box.specs.Parts.{IsSingle}
use Rattle.gap_box.specs.Splits.{lawful_split, child_cells}
use Rattle.gap_queue.specs.Keys.{ComesFirst}
use Rattle.gap_model.specs.declared.leaf.Leaf.{Leaf}
use Rattle.gap_model.specs.declared.outcome.Best.{Best}
use Rattle.gap_model.specs.declared.outcome.Outcome.{Outcome}
use Rattle.gap_model.specs.declared.outcome.Outcome.TheVariants.{Closed, NoPortfolio, Bounded}
use Rattle.gap_model.specs.declared.shown.Shown.TheVariants.{AtLeast, Empty}
use Rattle.gap_model.specs.Order.{ShownLe}
use Rattle.gap_model.specs.Problems.{Problem}
use Rattle.gap_model.specs.Tight.{IsTight}
use Rattle.gap_model.specs.Nodes.{Node, splits_of, part_at, leaf_in, leaf_at, root_nodes, split_nodes}
use Rattle.gap_search.specs.Boards.{Board, Claimed, node_held, tickets, BestAtMost, BestAbove, AllShow, IsShown}

-- a leaf that no worker holds shows a number
pub record Waits (p : Problem) (nodes : List Node) (held : List (Option NodeId)) (n : ℕ) (key : ℤ) : Type 0 where
  pub leaf : Leaf
  pub there : leaf_at nodes n ≡ Some leaf
  pub shows : p.shows (part_at nodes n) leaf ≡ AtLeast key
  pub free : (w : ℕ) (node : NodeId) → node_held held w ≡ Some node → node.0 ≢ n

-- why a claim is refused: the worker holds a leaf, splits and held leaves together equal the budget, or no leaf that
-- waits shows less than the best
pub data Refusal (p : Problem) (b : Board) (w : ℕ) : Type 0 where
  busy : (node : NodeId) → node_held b.held w ≡ Some node → Refusal p b w
  spent : splits_of b.nodes + tickets b.held ≡ b.budget → Refusal p b w
  closed : ((n : ℕ) (key : ℤ) → Waits p b.nodes b.held n key → BestAtMost b.best key) → Refusal p b w

-- why a leaf is given to a worker: it waits, none that waits comes before it, it shows less than the best, the budget
-- has room, and the worker holds nothing
pub record Grant (p : Problem) (b : Board) (w : ℕ) (node : NodeId) : Type 0 where
  pub key : ℤ
  pub waits : Waits p b.nodes b.held node.0 key
  pub least : (m : ℕ) (other : ℤ) → Waits p b.nodes b.held m other → ComesFirst key node.0 other m
  pub below : BestAbove b.best key
  pub left : splits_of b.nodes + tickets b.held < b.budget
  pub free : node_held b.held w ≡ None

-- the board after a worker took a leaf
abbrev pub hold : Board → ℕ → NodeId → Board
hold b w node = record { nodes = b.nodes; held = slice_set b.held w (Some node); best = b.best; budget = b.budget }

-- the board after a worker's leaf was given back
abbrev pub release : Board → ℕ → Board
release b w = record { nodes = b.nodes; held = slice_set b.held w None; best = b.best; budget = b.budget }

-- the board with another best
abbrev pub with_best : Board → Option Best → Board
with_best b best = record { nodes = b.nodes; held = b.held; best = best; budget = b.budget }

-- a claim by a worker: refused, and nothing changes, or granted
abbrev pub Claim : Problem → Board → ℕ → Option Claimed → Board → Type 0
Claim p old w None new = Refusal p old w × (new ≡ old)
Claim p old w (Some c) new =
    (c.worker ≡ w) × Grant p old w c.node × (c.part ≡ part_at old.nodes c.node.0) × (new ≡ hold old w c.node)

-- the ticket of a worker for a node
abbrev pub ticket_for : List Node → ℕ → NodeId → Claimed
ticket_for nodes w node = record { worker = w; node = node; part = part_at nodes node.0 }

-- the ticket of a worker for a node that it may hold
abbrev pub ticket_of : List Node → ℕ → Option NodeId → Option Claimed
ticket_of nodes w None = None
ticket_of nodes w (Some node) = Some (ticket_for nodes w node)

-- a ticket is the board's: its worker holds its node, and its part is that node's
pub record Holds (b : Board) (c : Claimed) : Type 0 where
  pub worker : c.worker < length b.held
  pub held : node_held b.held c.worker ≡ Some c.node
  pub part : c.part ≡ part_at b.nodes c.node.0

-- a leaf fits a child of a ticket's part: it is in range and tight there, and shows no less than the ticket's leaf on
-- its part
pub record FitsChild (p : Problem) (b : Board) (c : Claimed) (child : List Cell) (leaf : Leaf) : Type 0 where
  pub in_range : p.in_range leaf ≡ true
  pub tight : IsTight p child leaf
  pub no_less : (was : Leaf) → leaf_at b.nodes c.node.0 ≡ Some was → ShownLe (p.shows c.part was) (p.shows child leaf)

-- is a cost below the best? Any is where there is none
abbrev pub below_best : ℤ → Option Best → Bool
below_best cost None = true
below_best cost (Some best) = int_lt cost best.value

-- does a list meet the limits and cost less than the best?
abbrev pub improves : Problem → Option Best → List ℕ → Bool
improves p best x = p.meets x && below_best (p.cost x) best

-- the best after a list was offered
abbrev pub offered : Problem → Option Best → List ℕ → Option Best
offered p best x = cond (improves p best x) (Some (record { lots = x; value = p.cost x })) best

-- the only list of a part is offered, where the part has just one
pub data OfferSingle (p : Problem) (part : List Cell) (best new : Option Best) : Type 0 where
  one : (x : List ℕ) → IsSingle part p.fewest p.most x → new ≡ offered p best x → OfferSingle p part best new
  many : ((x : List ℕ) → IsSingle part p.fewest p.most x → ⊥) → new ≡ best → OfferSingle p part best new

-- a ticket is settled: its leaf is split in two and held no more, and the only lists of the two children are offered,
-- the first child's before the second's
pub record Settle (p : Problem) (old : Board) (c : Claimed) (split : Split) (first second : Leaf) (new : Board) : Type
    0 where
  pub middle : Option Best
  pub offer_first : OfferSingle p (child_cells c.part split First) old.best middle
  pub offer_second : OfferSingle p (child_cells c.part split Second) middle new.best
  pub nodes : new.nodes ≡ split_nodes old.nodes c.node.0 split first second
  pub held : new.held ≡ slice_set old.held c.worker None
  pub budget : new.budget ≡ old.budget

-- what may happen to a search
pub data Event : Type 0 where
  claims : ℕ → Option Claimed → Event
  settles : Claimed → Split → Leaf → Leaf → Event
  gives_back : Claimed → Event
  offers : List ℕ → Event

-- an event takes a board to another
abbrev pub Step : Problem → Board → Event → Board → Type 0
Step p old (claims w result) new = (w < length old.held) × Claim p old w result new
Step p old (settles c split first second) new =
    Holds old c × IsTrue (lawful_split c.part split) × FitsChild p old c (child_cells c.part split First) first
    × FitsChild p old c (child_cells c.part split Second) second × Settle p old c split first second new
Step p old (gives_back c) new = Holds old c × (new ≡ release old c.worker)
Step p old (offers x) new = new ≡ with_best old (offered p old.best x)

-- a list of events, by any workers in any order, takes a board to another
abbrev pub Run : Problem → Board → List Event → Board → Type 0
Run p old [] new = new ≡ old
Run p old (event ∷ events) new = (middle : Board) × Step p old event middle × Run p middle events new

-- how a search ends: closed with a best that no leaf shows less than; with no list, where every leaf shows that there
-- is none; or with the least that a leaf shows, which is below the best
abbrev pub End : Problem → Board → Outcome → Type 0
End p b (Closed best) = (b.best ≡ Some best) × AllShow p b.nodes (AtLeast best.value)
End p b NoPortfolio = (b.best ≡ None) × AllShow p b.nodes Empty
End p b (Bounded best bound) =
    (best ≡ b.best) × AllShow p b.nodes (AtLeast bound) × IsShown p b.nodes bound × BestAbove b.best bound

-- a search begins with one leaf, nothing held, and the best of a list found before, if there is one (`first`), and of
-- the root's only list, where it has just one
pub record Begins (p : Problem) (leaf : Leaf) (first : Option Best) (budget : ℕ) (b : Board) : Type 0 where
  pub nodes : b.nodes ≡ root_nodes p.whole leaf
  pub held : b.held ≡ replicate 16 None
  pub best : OfferSingle p p.whole first b.best
  pub budget_is : b.budget ≡ budget

-- the only list of a leaf's part is offered, where it has just one; where there is no leaf nothing is
abbrev pub OfferLeaf : Problem → List Cell → Option Leaf → Option Best → Option Best → Type 0
OfferLeaf p part None best new = new ≡ best
OfferLeaf p part (Some leaf) best new = OfferSingle p part best new

-- the only list of each leaf's part is offered, where it has just one, in the order of the leaves' numbers
abbrev pub OfferLeaves : Problem → List Node → Option Best → Option Best → Type 0
OfferLeaves p [] best new = new ≡ best
OfferLeaves p (node ∷ nodes) best new =
    (middle : Option Best) × OfferLeaf p node.part (leaf_in (Some node)) best middle × OfferLeaves p nodes middle new

-- a search goes on from the nodes of a tree, with nothing held, and the best of a list found before, if there is one
-- (`first`), and of the only list of each leaf that has just one
pub record Resumes (p : Problem) (nodes : List Node) (first : Option Best) (budget : ℕ) (b : Board) : Type 0 where
  pub nodes_are : b.nodes ≡ nodes
  pub held : b.held ≡ replicate 16 None
  pub best : OfferLeaves p nodes first b.best
  pub budget_is : b.budget ≡ budget
