-- Boards that go on by steps, and guides that are followed.

use Rattle.std.proofs.Common.{◌≡◌, ℕ, ◌+◌, ◌⊎◌, inl, inr, List, [], ◌∷◌, ◌++◌, slice_get, slice_set, Option, Some, None, IsTrue, refl, sym, ap, ◌∙◌, subst, arith}
use Rattle.std.proofs.lemmas.Option.{slice_get_within}
use Rattle.gap_box.specs.declared.cell.Cell.{Cell}
use Rattle.gap_box.specs.declared.split.Split.{Split}
use Rattle.gap_box.specs.declared.split.Side.TheVariants.{First, Second}
use Rattle.gap_box.specs.Splits.{lawful_split, child_cells}
use Rattle.gap_model.specs.declared.leaf.Leaf.{Leaf}
use Rattle.gap_model.specs.declared.outcome.Best.{Best}
use Rattle.gap_model.specs.Order.{ShownLe}
use Rattle.gap_model.specs.Problems.{Problem}
use Rattle.gap_model.specs.Nodes.{Node, ends, new_leaf, splits_of, part_in, part_at, leaf_at, split_in, split_at, split_nodes}
use Rattle.gap_tree.proofs.ListLaws.{SplitCase, old, forked, new_first, new_second, split_case, length-split}
use Rattle.gap_tree.proofs.TreeLaws.{split_part, splits-split}
use Rattle.gap_tree.proofs.ViewLaws.{leaf_node}
use Rattle.gap_search.specs.Boards.{Board, State, Claimed, tickets, OpenLeaf, IsSound}
use Rattle.gap_search.specs.Steps.{Event, settles, Step, Run, Holds, FitsChild, Settle, with_best}
use Rattle.gap_search.proofs.HeldLaws.{tickets_less, LeafCase, stays, at_first, at_second, leaf_case}
use Rattle.gap_search.proofs.KeptLaws.{same_leaf}
use Rattle.gap_search.specs.declared.branch.Branch.{Branch}
use Rattle.gap_search.specs.Driven.{IsBranch, IsFollowed, IsDriven, IsSame}

-- two runs are one
pub run_on : (p : Problem) (a : Board) (es fs : List Event) (b c : Board) → Run p a es b → Run p b fs c → Run p a (es ++ fs) c
run_on p a [] fs b c h k = subst (λ (z : Board). Run p z fs c) h k
run_on p a (e ∷ es) fs b c h k = (h.0, h.1, run_on p h.0 es fs b c h.2 k)

-- a step is a run
pub run_one : (p : Problem) (a : Board) (e : Event) (b : Board) → Step p a e b → (es : List Event) × Run p a es b
run_one p a e b s = (e ∷ [], (b, s, refl))

-- the same search after another
pub same_on : {B : Type 0} (a b c : State B) → IsSame a b → IsSame b c → IsSame a c
same_on a b c h k = record { bound_is = k.bound_is ∙ h.bound_is; workers_is = k.workers_is ∙ h.workers_is; budget_is = k.budget_is ∙ h.budget_is }

pub runs_on : {B : Type 0} (problem : B → Problem) (u v : B) (a b c : Board) → v ≡ u → (es : List Event) × Run (problem u) a es b → (es : List Event) × Run (problem v) b es c → (es : List Event) × Run (problem u) a es c
runs_on problem u v a b c e h k = let q = subst (λ (z : _). (es : List Event) × Run (problem z) b es c) e k in (h.0 ++ q.0, run_on (problem u) a h.0 q.0 b c h.1 q.1)

-- a node that is split or a leaf is there
get_there : {X : Type 0} (f : Option Node → Option X) (nodes : List Node) (n : ℕ) (x : X) → f None ≡ None → f (slice_get nodes n) ≡ Some x → (node : Node) × (slice_get nodes n ≡ Some node)
get_there f nodes n x z e = by_node (slice_get nodes n) refl where
  no_value : None ≡ Some x → ⊥
  no_value q = cc

  by_node : (o : Option Node) → slice_get nodes n ≡ o → (node : Node) × (slice_get nodes n ≡ Some node)
  by_node None q = absurd (no_value (sym z ∙ ap f (sym q) ∙ e))
  by_node (Some node) q = (node, q)

pub split_there : (nodes : List Node) (n : ℕ) (split : Split) → split_at nodes n ≡ Some split → (node : Node) × (slice_get nodes n ≡ Some node)
split_there nodes n split e = get_there split_in nodes n split refl e

module _ (allows : List Cell → Split → Type 0) (fits : List Cell → Leaf → Type 0) where
  pub followed_same : (a b : List Node) → b ≡ a → IsFollowed allows fits a b
  followed_same a b e = subst (λ (z : List Node). IsFollowed allows fits a z) (sym e) (record { splits = λ n split q. inl q; leaves = λ n leaf q. inl q; parts = λ n l. refl; more = omega arith })

  pub followed_on : (a b c : List Node) → IsFollowed allows fits a b → IsFollowed allows fits b c → IsFollowed allows fits a c
  followed_on a b c h k = record {
    splits = λ n split e. by_split n split (k.splits n split e);
    leaves = λ n leaf e. by_leaf n leaf (k.leaves n leaf e);
    parts = λ n l. (let m = h.more in k.parts n (omega arith) ∙ h.parts n l);
    more = (let m = h.more in let o = k.more in omega arith);
  } where
    by_split : (n : ℕ) (split : Split) → (split_at b n ≡ Some split) ⊎ allows (part_at c n) split → (split_at a n ≡ Some split) ⊎ allows (part_at c n) split
    by_split n split (inl e) = by_old (h.splits n split e) where
      by_old : (split_at a n ≡ Some split) ⊎ allows (part_at b n) split → (split_at a n ≡ Some split) ⊎ allows (part_at c n) split
      by_old (inl f) = inl f
      by_old (inr f) = let t = split_there b n split e in inr (subst (λ (q : List Cell). allows q split) (sym (k.parts n (slice_get_within b n t.0 t.1))) f)
    by_split n split (inr e) = inr e

    by_leaf : (n : ℕ) (leaf : Leaf) → (leaf_at b n ≡ Some leaf) ⊎ fits (part_at c n) leaf → (leaf_at a n ≡ Some leaf) ⊎ fits (part_at c n) leaf
    by_leaf n leaf (inl e) = by_old (h.leaves n leaf e) where
      by_old : (leaf_at a n ≡ Some leaf) ⊎ fits (part_at b n) leaf → (leaf_at a n ≡ Some leaf) ⊎ fits (part_at c n) leaf
      by_old (inl f) = inl f
      by_old (inr f) = let t = leaf_node b n leaf e in inr (subst (λ (q : List Cell). fits q leaf) (sym (k.parts n (slice_get_within b n t.0 t.1))) f)
    by_leaf n leaf (inr e) = inr e

  -- steps that leave the nodes as they are
  pub driven_run : (p : Problem) (a b : Board) → b.nodes ≡ a.nodes → (es : List Event) × Run p a es b → IsDriven p allows fits a b
  driven_run p a b e r = record { events = r.0; run = r.1; followed = followed_same a.nodes b.nodes e }

  module _ (p : Problem) (b : Board) (h : IsSound p b) (c : Claimed) (holds : Holds b c) (split : Split) (lawful : IsTrue (lawful_split c.part split)) (first second : Leaf) (new : Board) (t : Settle p b c split first second new) where
    was_open : OpenLeaf p b.nodes c.node.0
    was_open = h.open_leaves c.worker c.node holds.held

    was : (node : Node) × (slice_get b.nodes c.node.0 ≡ Some node) × (node.fate ≡ ends was_open.leaf)
    was = leaf_node b.nodes c.node.0 was_open.leaf was_open.there

    part_was : was.0.part ≡ c.part
    part_was = sym (holds.part ∙ ap part_in was.1)

    lawful_was : IsTrue (lawful_split was.0.part split)
    lawful_was = subst (λ (q : List Cell). IsTrue (lawful_split q split)) (sym part_was) lawful

    -- what is out after a settle
    settle_count : splits_of new.nodes ≡ splits_of b.nodes + 1
    settle_count = ap splits_of t.nodes ∙ splits-split b.nodes h.tree c.node.0 was.0 was.1 was_open.leaf was.2 split lawful_was first second

    pub settled_count : splits_of new.nodes + tickets new.held ≡ splits_of b.nodes + tickets b.held
    settled_count =
        let a = settle_count in
        let d = tickets_less b.held c.worker c.node holds.worker holds.held in
        let e : tickets new.held ≡ tickets (slice_set b.held c.worker None) = ap tickets t.held in
        omega arith

    module _ (allowed : allows c.part split) (one : fits (child_cells c.part split First) first) (two : fits (child_cells c.part split Second) second) where
      after : List Node
      after = split_nodes b.nodes c.node.0 split first second

      same_split : (a d : Split) → Some a ≡ Some d → a ≡ d
      same_split a d e = cc

      no_split : (part : List Cell) (parent : ℕ) (leaf : Leaf) (s : Split) → split_in (Some (new_leaf part parent leaf)) ≡ Some s → ⊥
      no_split part parent leaf s e = cc

      settle_splits : (n : ℕ) (s : Split) → split_at (split_nodes b.nodes c.node.0 split first second) n ≡ Some s → (split_at b.nodes n ≡ Some s) ⊎ allows (part_at (split_nodes b.nodes c.node.0 split first second) n) s
      settle_splits n s e = (let k = split_there (split_nodes b.nodes c.node.0 split first second) n s e in by_case k.0 k.1 (split_case b.nodes c.node.0 was.0 was.1 split first second n k.0 k.1)) where
        by_case : (node : Node) → slice_get (split_nodes b.nodes c.node.0 split first second) n ≡ Some node → SplitCase b.nodes c.node.0 was.0 split first second n node → (split_at b.nodes n ≡ Some s) ⊎ allows (part_at (split_nodes b.nodes c.node.0 split first second) n) s
        by_case node g (old q f) = inl (ap split_in (f ∙ sym g) ∙ e)
        by_case node g (forked q f) =
            let i : split ≡ s = same_split split s (ap split_in (ap Some (sym f) ∙ sym g) ∙ e) in
            let j : part_at (split_nodes b.nodes c.node.0 split first second) n ≡ c.part = ap part_in g ∙ ap (λ (k : Node). k.part) f ∙ part_was in
            inr (subst (λ (z : List Cell). allows z s) (sym j) (subst (λ (z : Split). allows c.part z) i allowed))
        by_case node g (new_first q f) = absurd (no_split (child_cells was.0.part split First) c.node.0 first s (ap split_in (ap Some (sym f) ∙ sym g) ∙ e))
        by_case node g (new_second q f) = absurd (no_split (child_cells was.0.part split Second) c.node.0 second s (ap split_in (ap Some (sym f) ∙ sym g) ∙ e))

      settle_leaves : (n : ℕ) (leaf : Leaf) → leaf_at (split_nodes b.nodes c.node.0 split first second) n ≡ Some leaf → (leaf_at b.nodes n ≡ Some leaf) ⊎ fits (part_at (split_nodes b.nodes c.node.0 split first second) n) leaf
      settle_leaves n leaf e = by_case (leaf_case b.nodes c.node.0 was.0 was.1 split first second n leaf e) where
        by_case : LeafCase b.nodes (split_nodes b.nodes c.node.0 split first second) c.node.0 (child_cells was.0.part split First) (child_cells was.0.part split Second) first second n leaf → (leaf_at b.nodes n ≡ Some leaf) ⊎ fits (part_at (split_nodes b.nodes c.node.0 split first second) n) leaf
        by_case (stays q g i) = inl g
        by_case (at_first q g i) = inr (subst (λ (z : List Cell). fits z leaf) (sym (i ∙ ap (λ (k : List Cell). child_cells k split First) part_was)) (subst (λ (z : Leaf). fits (child_cells c.part split First) z) (sym g) one))
        by_case (at_second q g i) = inr (subst (λ (z : List Cell). fits z leaf) (sym (i ∙ ap (λ (k : List Cell). child_cells k split Second) part_was)) (subst (λ (z : Leaf). fits (child_cells c.part split Second) z) (sym g) two))

      settle_followed : IsFollowed allows fits b.nodes (split_nodes b.nodes c.node.0 split first second)
      settle_followed = record {
        splits = settle_splits;
        leaves = settle_leaves;
        parts = λ n l. split_part b.nodes h.tree c.node.0 was.0 was.1 was_open.leaf was.2 split lawful_was first second n l;
        more = (let l = length-split b.nodes c.node.0 was.0 was.1 split first second in omega arith);
      }

      -- a settle as a guide says
      pub driven_settle : FitsChild p b c (child_cells c.part split First) first → FitsChild p b c (child_cells c.part split Second) second → IsDriven p allows fits b new
      driven_settle f s = record {
        events = settles c split first second ∷ [];
        run = (new, (holds, lawful, f, s, t), refl);
        followed = subst (λ (z : List Node). IsFollowed allows fits b.nodes z) (sym t.nodes) settle_followed;
      }

-- one drive after another, where the second's search has the first's bound
pub driven_on : {B : Type 0} (problem : B → Problem) (allows : B → List Cell → Split → Type 0) (fits : B → List Cell → Leaf → Type 0) (u v : B) (a b c : Board) → v ≡ u → IsDriven (problem u) (allows u) (fits u) a b → IsDriven (problem v) (allows v) (fits v) b c → IsDriven (problem u) (allows u) (fits u) a c
driven_on problem allows fits u v a b c e h k =
    let q = subst (λ (z : _). IsDriven (problem z) (allows z) (fits z) b c) e k in
    record { events = h.events ++ q.events; run = run_on (problem u) a h.events q.events b c h.run q.run; followed = followed_on (allows u) (fits u) a.nodes b.nodes c.nodes h.followed q.followed }

-- what a guide answers fits the children of the ticket
pub branch_fits : (p : Problem) (b : Board) (c : Claimed) (leaf : Leaf) (branch : Branch) → leaf_at b.nodes c.node.0 ≡ Some leaf → IsBranch p c.part leaf branch → FitsChild p b c (child_cells c.part branch.split First) branch.first.leaf × FitsChild p b c (child_cells c.part branch.split Second) branch.second.leaf
branch_fits p b c leaf branch e h = (
  record { in_range = h.first_fits.in_range; tight = h.first_fits.tight; no_less = λ was f. subst (λ (l : Leaf). ShownLe (p.shows c.part l) (p.shows (child_cells c.part branch.split First) branch.first.leaf)) (same_leaf leaf was (sym e ∙ f)) h.first_no_less },
  record { in_range = h.second_fits.in_range; tight = h.second_fits.tight; no_less = λ was f. subst (λ (l : Leaf). ShownLe (p.shows c.part l) (p.shows (child_cells c.part branch.split Second) branch.second.leaf)) (same_leaf leaf was (sym e ∙ f)) h.second_no_less },
)

-- another best changes no count
pub best_count : (a b : Board) → (best : Option Best) × (b ≡ with_best a best) → splits_of b.nodes + tickets b.held ≡ splits_of a.nodes + tickets a.held
best_count a b h = ap (λ (z : Board). splits_of z.nodes + tickets z.held) h.1
