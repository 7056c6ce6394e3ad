-- What workers hold, where one takes a leaf or lets it go, and leaves by number, where one is split.

use Rattle.std.proofs.Common.{◌≡◌, ◌≢◌, ℕ, ◌+◌, ◌<◌, ◌≤◌, ◌⊎◌, inl, inr, List, length, slice_get, slice_set, Option, Some, None, sym, ap, ◌∙◌, arith, get_or-set_same, get_or-set_other}
use Rattle.std.proofs.lemmas.Bool.{cases_eq, cases_lt}
use Rattle.std.proofs.lemmas.List.{get_or_past}
use Rattle.std.proofs.lemmas.List.Sums.{sum_by-set}
use Rattle.std.proofs.lemmas.Option.{slice_get_within}
use Rattle.gap_box.specs.declared.cell.Cell.{Cell}
use Rattle.gap_box.specs.declared.node.NodeId.{NodeId}
use Rattle.gap_box.specs.declared.split.Split.{Split}
use Rattle.gap_box.specs.declared.split.Side.TheVariants.{First, Second}
use Rattle.gap_box.specs.Splits.{child_cells}
use Rattle.gap_model.specs.declared.leaf.Leaf.{Leaf}
use Rattle.gap_model.specs.Nodes.{ends, forks, Node, part_in, part_at, leaf_in, leaf_at, with_fate, split_nodes}
use Rattle.gap_tree.proofs.ListLaws.{SplitCase, old, forked, new_first, new_second, split_case, split_other, split_first, split_second}
use Rattle.gap_tree.proofs.ViewLaws.{leaf_node}
use Rattle.gap_search.specs.Boards.{node_held, one_held, tickets}

-- what a worker holds after one took or let go
pub data HeldCase (held : List (Option NodeId)) (w : ℕ) (o : Option NodeId) (v : ℕ) (node : NodeId) : Type 0 where
  the_worker : v ≡ w → o ≡ Some node → HeldCase held w o v node
  another : v ≢ w → node_held held v ≡ Some node → HeldCase held w o v node

pub held_case : (held : List (Option NodeId)) (w : ℕ) (o : Option NodeId) (v : ℕ) (node : NodeId) → w < length held → node_held (slice_set held w o) v ≡ Some node → HeldCase held w o v node
held_case held w o v node l e = by_worker (cases_eq v w) where
  by_worker : (v ≡ w) ⊎ (v ≡ w → ⊥) → HeldCase held w o v node
  by_worker (inl q) = the_worker q (sym (get_or-set_same held w o None l) ∙ ap (node_held (slice_set held w o)) (sym q) ∙ e)
  by_worker (inr q) = another q (sym (get_or-set_other held w v o None q) ∙ e)

pub held_same : (held : List (Option NodeId)) (w : ℕ) (o : Option NodeId) → w < length held → node_held (slice_set held w o) w ≡ o
held_same held w o l = get_or-set_same held w o None l

pub held_other : (held : List (Option NodeId)) (w : ℕ) (o : Option NodeId) (v : ℕ) → v ≢ w → node_held (slice_set held w o) v ≡ node_held held v
held_other held w o v n = get_or-set_other held w v o None n

-- a worker that holds a leaf is one
pub worker_there : (held : List (Option NodeId)) (w : ℕ) (node : NodeId) → node_held held w ≡ Some node → w < length held
worker_there held w node e = by_length (cases_lt w (length held)) where
  by_length : (w < length held) ⊎ (length held ≤ w) → w < length held
  by_length (inl p) = p
  by_length (inr p) = absurd (clash (sym (get_or_past held w None p) ∙ e)) where
    clash : None ≡ Some node → ⊥
    clash z = cc

pub tickets_more : (held : List (Option NodeId)) (w : ℕ) (node : NodeId) → w < length held → node_held held w ≡ None → tickets (slice_set held w (Some node)) ≡ tickets held + 1
tickets_more held w node l e = let s = sum_by-set one_held held w (Some node) None l in let f : one_held (node_held held w) ≡ 0 = ap one_held e in omega arith

pub tickets_less : (held : List (Option NodeId)) (w : ℕ) (node : NodeId) → w < length held → node_held held w ≡ Some node → tickets (slice_set held w None) + 1 ≡ tickets held
tickets_less held w node l e = let s = sum_by-set one_held held w None None l in let f : one_held (node_held held w) ≡ 1 = ap one_held e in omega arith

same_leaf : (a b : Leaf) → Some a ≡ Some b → a ≡ b
same_leaf a b e = cc

-- a leaf after one was split: an old one, or one of the two new
pub data LeafCase (nodes new : List Node) (n : ℕ) (one two : List Cell) (first second : Leaf) (m : ℕ) (leaf : Leaf) : Type 0 where
  stays : m ≢ n → leaf_at nodes m ≡ Some leaf → part_at new m ≡ part_at nodes m → LeafCase nodes new n one two first second m leaf
  at_first : m ≡ length nodes → leaf ≡ first → part_at new m ≡ one → LeafCase nodes new n one two first second m leaf
  at_second : m ≡ length nodes + 1 → leaf ≡ second → part_at new m ≡ two → LeafCase nodes new n one two first second m leaf

module _ (nodes : List Node) (n : ℕ) (was : Node) (e : slice_get nodes n ≡ Some was) (split : Split) (first second : Leaf) where
  pub leaf_case : (m : ℕ) (leaf : Leaf) → leaf_at (split_nodes nodes n split first second) m ≡ Some leaf → LeafCase nodes (split_nodes nodes n split first second) n (child_cells was.part split First) (child_cells was.part split Second) first second m leaf
  leaf_case m leaf f =
      let k = leaf_node (split_nodes nodes n split first second) m leaf f in
      by_case k.0 k.1 k.2 (split_case nodes n was e split first second m k.0 k.1) where
        by_case : (node : Node) → slice_get (split_nodes nodes n split first second) m ≡ Some node → node.fate ≡ ends leaf → SplitCase nodes n was split first second m node → LeafCase nodes (split_nodes nodes n split first second) n (child_cells was.part split First) (child_cells was.part split Second) first second m leaf
        by_case node g fate (old p q) = stays p (sym (ap leaf_in (g ∙ sym q)) ∙ f) (ap part_in (g ∙ sym q))
        by_case node g fate (forked p q) = absurd (clash (sym (ap leaf_in (g ∙ ap Some q)) ∙ f)) where
          clash : leaf_in (Some (with_fate (forks split (length nodes)) was)) ≡ Some leaf → ⊥
          clash z = cc
        by_case node g fate (new_first p q) = at_first p (same_leaf leaf first (sym f ∙ ap leaf_in (g ∙ ap Some q))) (ap part_in (g ∙ ap Some q))
        by_case node g fate (new_second p q) = at_second p (same_leaf leaf second (sym f ∙ ap leaf_in (g ∙ ap Some q))) (ap part_in (g ∙ ap Some q))

  pub leaf_stays : (m : ℕ) (leaf : Leaf) → m ≢ n → leaf_at nodes m ≡ Some leaf → leaf_at (split_nodes nodes n split first second) m ≡ Some leaf
  leaf_stays m leaf p f =
      let k = leaf_node nodes m leaf f in
      ap leaf_in (split_other nodes n was e split first second m (slice_get_within nodes m k.0 k.1) p) ∙ f

  pub part_stays : (m : ℕ) (leaf : Leaf) → m ≢ n → leaf_at nodes m ≡ Some leaf → part_at (split_nodes nodes n split first second) m ≡ part_at nodes m
  part_stays m leaf p f =
      let k = leaf_node nodes m leaf f in
      ap part_in (split_other nodes n was e split first second m (slice_get_within nodes m k.0 k.1) p)

  pub leaf_first_new : leaf_at (split_nodes nodes n split first second) (length nodes) ≡ Some first
  leaf_first_new = ap leaf_in (split_first nodes n was e split first second)

  pub part_first_new : part_at (split_nodes nodes n split first second) (length nodes) ≡ child_cells was.part split First
  part_first_new = ap part_in (split_first nodes n was e split first second)

  pub leaf_second_new : leaf_at (split_nodes nodes n split first second) (length nodes + 1) ≡ Some second
  leaf_second_new = ap leaf_in (split_second nodes n was e split first second)

  pub part_second_new : part_at (split_nodes nodes n split first second) (length nodes + 1) ≡ child_cells was.part split Second
  part_second_new = ap part_in (split_second nodes n was e split first second)
