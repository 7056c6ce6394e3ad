-- Each step keeps what holds between two steps.

use Rattle.std.proofs.Common.{◌≡◌, ◌≢◌, ℕ, ◌<◌, Bool, true, false, cond, ◌&&◌, List, [], ◌∷◌, length, slice_get, slice_set, Option, Some, None, IsTrue, refl, sym, ap, ◌∙◌, subst, arith, ℤ, ◌≤ℤ◌, ◌<ℤ◌}
use Rattle.std.specs.Prelude.{int_lt}
use Rattle.std.proofs.lemmas.Int.{ints}
use Rattle.std.proofs.lemmas.Bool.{and_parts}
use Rattle.gap_box.specs.declared.cell.Cell.{Cell}
use Rattle.gap_box.specs.declared.node.NodeId.{NodeId}
use Rattle.gap_box.specs.declared.split.Split.{Split}
use Rattle.gap_box.specs.declared.split.Side.TheVariants.{First, Second}
use Rattle.gap_box.specs.Parts.{IsSingle}
use Rattle.gap_box.specs.Splits.{lawful_split, child_cells}
use Rattle.gap_model.specs.declared.leaf.Leaf.{Leaf}
use Rattle.gap_model.specs.declared.outcome.Best.{Best}
use Rattle.gap_model.specs.declared.shown.Shown.TheVariants.{AtLeast, Empty}
use Rattle.gap_model.specs.Problems.{Problem}
use Rattle.gap_model.specs.Nodes.{ends, Node, part_in, part_at, leaf_at, split_nodes}
use Rattle.gap_tree.proofs.ViewLaws.{leaf_node}
use Rattle.gap_tree.proofs.TreeLaws.{split_tree, split_part, splits-split, root_there}
use Rattle.gap_search.specs.Boards.{Board, Claimed, node_held, BestAtMost, BestAbove, IsBest, FitsPart, OpenLeaf, IsSound}
use Rattle.gap_search.specs.Steps.{Grant, hold, release, with_best, Holds, FitsChild, below_best, improves, offered, OfferSingle, one, many, Settle, Event, claims, settles, gives_back, offers, Step, Run}
use Rattle.gap_search.proofs.HeldLaws.{HeldCase, the_worker, another, held_case, tickets_more, tickets_less, LeafCase, stays, at_first, at_second, leaf_case, leaf_stays, part_stays}

-- a best that is at most a number isn't above it
pub not_both : (best : Option Best) (v : ℤ) → BestAtMost best v → BestAbove best v → ⊥
not_both None v h k = h
not_both (Some best) v h k = omega (arith, ints)

pub no_empty : (key : ℤ) → Empty ≡ AtLeast key → ⊥
no_empty key e = cc

same_number : (a b : ℤ) → AtLeast a ≡ AtLeast b → a ≡ b
same_number a b e = cc

-- a leaf that shows less than the best stands on a part with more than one list
pub open_many : (p : Problem) (b : Board) (n : ℕ) (leaf : Leaf) (key : ℤ) → IsSound p b → leaf_at b.nodes n ≡ Some leaf → p.shows (part_at b.nodes n) leaf ≡ AtLeast key → BestAbove b.best key → (x : List ℕ) → IsSingle (part_at b.nodes n) p.fewest p.most x → ⊥
open_many p b n leaf key h e s above x single = by_limits (p.meets x) refl where
  by_limits : (m : Bool) → p.meets x ≡ m → ⊥
  by_limits true f =
      let t = (h.leaves n leaf e).tight.single x single f in
      let q : p.cost x ≡ key = same_number (p.cost x) key (sym t ∙ s) in
      not_both b.best key (subst (BestAtMost b.best) q (h.single n leaf x e single f)) above
  by_limits false f = no_empty key (sym ((h.leaves n leaf e).tight.broken x single f) ∙ s)

no_node : (node : NodeId) → None ≡ Some node → ⊥
no_node node e = cc

same_id : (a b : NodeId) → Some a ≡ Some b → a ≡ b
same_id a b e = cc

module _ (p : Problem) (b : Board) (h : IsSound p b) (w : ℕ) (l : w < length b.held) where
  module _ (node : NodeId) (g : Grant p b w node) where
    granted : OpenLeaf p b.nodes node.0
    granted = record { leaf = g.waits.leaf; there = g.waits.there; key = g.key; shows = g.waits.shows; many = open_many p b node.0 g.waits.leaf g.key h g.waits.there g.waits.shows g.below }

    hold_open : (v : ℕ) (m : NodeId) → node_held (slice_set b.held w (Some node)) v ≡ Some m → OpenLeaf p b.nodes m.0
    hold_open v m e = elim (held_case b.held w (Some node) v m l e) as (λ _. OpenLeaf p b.nodes m.0) [
      | the_worker q f ↦ subst (λ (k : NodeId). OpenLeaf p b.nodes k.0) (same_id node m f) granted
      | another q f ↦ h.open_leaves v m f
    ]

    hold_apart : (u v : ℕ) (m : NodeId) → node_held (slice_set b.held w (Some node)) u ≡ Some m → node_held (slice_set b.held w (Some node)) v ≡ Some m → u ≡ v
    hold_apart u v m e f = by_workers (held_case b.held w (Some node) u m l e) (held_case b.held w (Some node) v m l f) where
      by_workers : HeldCase b.held w (Some node) u m → HeldCase b.held w (Some node) v m → u ≡ v
      by_workers (the_worker q _) (the_worker r _) = q ∙ sym r
      by_workers (the_worker q a) (another r c) = absurd (g.waits.free v m c (ap (λ (k : NodeId). k.0) (sym (same_id node m a))))
      by_workers (another q c) (the_worker r a) = absurd (g.waits.free u m c (ap (λ (k : NodeId). k.0) (sym (same_id node m a))))
      by_workers (another q c) (another r d) = h.apart u v m c d

    -- a grant keeps it
    pub sound_hold : IsSound p (hold b w node)
    sound_hold = record {
      tree = h.tree;
      root = h.root;
      leaves = h.leaves;
      best = h.best;
      single = h.single;
      open_leaves = hold_open;
      apart = hold_apart;
      within = (let t = tickets_more b.held w node l g.free in let k = g.left in omega arith);
    }

  release_open : (v : ℕ) (m : NodeId) → node_held (slice_set b.held w None) v ≡ Some m → node_held b.held v ≡ Some m
  release_open v m e = elim (held_case b.held w None v m l e) as (λ _. node_held b.held v ≡ Some m) [
    | the_worker q f ↦ absurd (no_node m f)
    | another q f ↦ f
  ]

  -- to give back keeps it
  pub sound_release : (node : NodeId) → node_held b.held w ≡ Some node → IsSound p (release b w)
  sound_release node e = record {
    tree = h.tree;
    root = h.root;
    leaves = h.leaves;
    best = h.best;
    single = h.single;
    open_leaves = λ v m f. h.open_leaves v m (release_open v m f);
    apart = λ u v m f g. h.apart u v m (release_open u m f) (release_open v m g);
    within = (let t = tickets_less b.held w node l e in let k = h.within in omega arith);
  }

-- an offer lowers the best at most
pub offered_lower : (p : Problem) (best : Option Best) (x : List ℕ) (v : ℤ) → BestAtMost best v → BestAtMost (offered p best x) v
offered_lower p None x v h = absurd h
offered_lower p (Some best) x v h = by_test (improves p (Some best) x) refl where
  by_test : (t : Bool) → improves p (Some best) x ≡ t → BestAtMost (cond t (Some (record { lots = x; value = p.cost x })) (Some best)) v
  by_test true e =
      let k = (and_parts (p.meets x) (int_lt (p.cost x) best.value) e).1 in
      let l : p.cost x <ℤ best.value = search (arith, ints) in
      omega (arith, ints)
  by_test false e = h

-- and to a list that meets the limits
pub offered_takes : (p : Problem) (best : Option Best) (x : List ℕ) → p.meets x ≡ true → BestAtMost (offered p best x) (p.cost x)
offered_takes p None x e = subst (λ t. BestAtMost (cond (t && true) (Some (record { lots = x; value = p.cost x })) None) (p.cost x)) (sym e) (omega (arith, ints))
offered_takes p (Some best) x e = subst (λ t. BestAtMost (cond (t && int_lt (p.cost x) best.value) (Some (record { lots = x; value = p.cost x })) (Some best)) (p.cost x)) (sym e) (by_test (int_lt (p.cost x) best.value) refl) where
  by_test : (t : Bool) → int_lt (p.cost x) best.value ≡ t → BestAtMost (cond t (Some (record { lots = x; value = p.cost x })) (Some best)) (p.cost x)
  by_test true f = omega (arith, ints)
  by_test false f = let l : best.value ≤ℤ p.cost x = search (arith, ints) in l

pub offered_is : (p : Problem) (best : Option Best) (x : List ℕ) → IsBest p best → IsBest p (offered p best x)
offered_is p best x h = by_test (improves p best x) refl where
  by_test : (t : Bool) → improves p best x ≡ t → IsBest p (cond t (Some (record { lots = x; value = p.cost x })) best)
  by_test true e = ((and_parts (p.meets x) (below_best (p.cost x) best) e).0, refl)
  by_test false e = h

-- another best that is right and no higher keeps it
pub sound_best : (p : Problem) (b : Board) (best : Option Best) → IsSound p b → IsBest p best → ((v : ℤ) → BestAtMost b.best v → BestAtMost best v) → IsSound p (with_best b best)
sound_best p b best h k lower = record {
  tree = h.tree;
  root = h.root;
  leaves = h.leaves;
  best = k;
  single = λ n leaf x e s m. lower (p.cost x) (h.single n leaf x e s m);
  open_leaves = h.open_leaves;
  apart = h.apart;
  within = h.within;
}

-- an offer keeps it
pub sound_offer : (p : Problem) (b : Board) (x : List ℕ) → IsSound p b → IsSound p (with_best b (offered p b.best x))
sound_offer p b x h = sound_best p b (offered p b.best x) h (offered_is p b.best x h.best) (offered_lower p b.best x)

-- the offer of a part's only list
pub single_is : (p : Problem) (part : List Cell) (best new : Option Best) → OfferSingle p part best new → IsBest p best → IsBest p new
single_is p part best new (one x s e) h = subst (IsBest p) (sym e) (offered_is p best x h)
single_is p part best new (many n e) h = subst (IsBest p) (sym e) h

pub single_lower : (p : Problem) (part : List Cell) (best new : Option Best) → OfferSingle p part best new → (v : ℤ) → BestAtMost best v → BestAtMost new v
single_lower p part best new (one x s e) v h = subst (λ o. BestAtMost o v) (sym e) (offered_lower p best x v h)
single_lower p part best new (many n e) v h = subst (λ o. BestAtMost o v) (sym e) h

pub single_takes : (p : Problem) (part : List Cell) (best new : Option Best) → OfferSingle p part best new → (x : List ℕ) → IsSingle part p.fewest p.most x → p.meets x ≡ true → BestAtMost new (p.cost x)
single_takes p part best new (one z s e) x t m =
    let q : x ≡ z = s.only x t.pick in
    subst (λ o. BestAtMost o (p.cost x)) (sym e) (subst (λ y. BestAtMost (offered p best y) (p.cost x)) q (offered_takes p best x m))
single_takes p part best new (many n e) x t m = absurd (n x t)

module _ (p : Problem) (b : Board) (h : IsSound p b) (c : Claimed) (holds : Holds b c) (split : Split) (lawful : IsTrue (lawful_split c.part split)) (first second : Leaf) (f : FitsChild p b c (child_cells c.part split First) first) (s : FitsChild p b c (child_cells c.part split Second) second) (new : Board) (t : Settle p b c split first second new) where
  was_open : OpenLeaf p b.nodes c.node.0
  was_open = h.open_leaves c.worker c.node holds.held

  was : (node : Node) × (slice_get b.nodes c.node.0 ≡ Some node) × (node.fate ≡ ends was_open.leaf)
  was = leaf_node b.nodes c.node.0 was_open.leaf was_open.there

  part_was : c.part ≡ was.0.part
  part_was = holds.part ∙ ap part_in was.1

  lawful_was : IsTrue (lawful_split was.0.part split)
  lawful_was = subst (λ q. IsTrue (lawful_split q split)) part_was lawful

  -- the parts of the two new leaves
  one_part : child_cells was.0.part split First ≡ child_cells c.part split First
  one_part = ap (λ q. child_cells q split First) (sym part_was)

  two_part : child_cells was.0.part split Second ≡ child_cells c.part split Second
  two_part = ap (λ q. child_cells q split Second) (sym part_was)

  settle_leaves : (m : ℕ) (leaf : Leaf) → leaf_at (split_nodes b.nodes c.node.0 split first second) m ≡ Some leaf → FitsPart p (part_at (split_nodes b.nodes c.node.0 split first second) m) leaf
  settle_leaves m leaf e = elim (leaf_case b.nodes c.node.0 was.0 was.1 split first second m leaf e) as (λ _. FitsPart p (part_at (split_nodes b.nodes c.node.0 split first second) m) leaf) [
    | stays n g q ↦ subst (λ z. FitsPart p z leaf) (sym q) (h.leaves m leaf g)
    | at_first n g q ↦ subst (λ z. FitsPart p z leaf) (sym (q ∙ one_part)) (subst (λ z. FitsPart p (child_cells c.part split First) z) (sym g) (record { in_range = f.in_range; tight = f.tight }))
    | at_second n g q ↦ subst (λ z. FitsPart p z leaf) (sym (q ∙ two_part)) (subst (λ z. FitsPart p (child_cells c.part split Second) z) (sym g) (record { in_range = s.in_range; tight = s.tight }))
  ]

  lower : (v : ℤ) → BestAtMost b.best v → BestAtMost new.best v
  lower v k = single_lower p _ t.middle new.best t.offer_second v (single_lower p _ b.best t.middle t.offer_first v k)

  settle_single : (m : ℕ) (leaf : Leaf) (x : List ℕ) → leaf_at (split_nodes b.nodes c.node.0 split first second) m ≡ Some leaf → IsSingle (part_at (split_nodes b.nodes c.node.0 split first second) m) p.fewest p.most x → p.meets x ≡ true → BestAtMost new.best (p.cost x)
  settle_single m leaf x e single k = by_case (leaf_case b.nodes c.node.0 was.0 was.1 split first second m leaf e) where
    by_case : LeafCase b.nodes (split_nodes b.nodes c.node.0 split first second) c.node.0 (child_cells was.0.part split First) (child_cells was.0.part split Second) first second m leaf → BestAtMost new.best (p.cost x)
    by_case (stays n g q) = lower (p.cost x) (h.single m leaf x g (subst (λ z. IsSingle z p.fewest p.most x) q single) k)
    by_case (at_first n g q) = single_lower p _ t.middle new.best t.offer_second (p.cost x) (single_takes p _ b.best t.middle t.offer_first x (subst (λ z. IsSingle z p.fewest p.most x) (q ∙ one_part) single) k)
    by_case (at_second n g q) = single_takes p _ t.middle new.best t.offer_second x (subst (λ z. IsSingle z p.fewest p.most x) (q ∙ two_part) single) k

  other_held : (v : ℕ) (m : NodeId) → node_held (slice_set b.held c.worker None) v ≡ Some m → (v ≢ c.worker) × (node_held b.held v ≡ Some m)
  other_held v m e = elim (held_case b.held c.worker None v m holds.worker e) as (λ _. (v ≢ c.worker) × (node_held b.held v ≡ Some m)) [
    | the_worker q g ↦ absurd (no_node m g)
    | another q g ↦ (q, g)
  ]

  same_node : (m : NodeId) → m.0 ≡ c.node.0 → m ≡ c.node
  same_node m e = ap (λ (k : ℕ). record { 0 = k }) e

  settle_open : (v : ℕ) (m : NodeId) → node_held (slice_set b.held c.worker None) v ≡ Some m → OpenLeaf p (split_nodes b.nodes c.node.0 split first second) m.0
  settle_open v m e =
      let o = other_held v m e in
      let k = h.open_leaves v m o.1 in
      let n : m.0 ≢ c.node.0 = λ q. o.0 (h.apart v c.worker c.node (o.1 ∙ ap Some (same_node m q)) holds.held) in
      let q = part_stays b.nodes c.node.0 was.0 was.1 split first second m.0 k.leaf n k.there in
      record {
        leaf = k.leaf;
        there = leaf_stays b.nodes c.node.0 was.0 was.1 split first second m.0 k.leaf n k.there;
        key = k.key;
        shows = ap (λ z. p.shows z k.leaf) q ∙ k.shows;
        many = λ x r. k.many x (subst (λ z. IsSingle z p.fewest p.most x) q r);
      }

  settled_board : IsSound p (record { nodes = split_nodes b.nodes c.node.0 split first second; held = slice_set b.held c.worker None; best = new.best; budget = b.budget })
  settled_board = record {
    tree = split_tree b.nodes h.tree c.node.0 was.0 was.1 was_open.leaf was.2 split lawful_was first second;
    root = split_part b.nodes h.tree c.node.0 was.0 was.1 was_open.leaf was.2 split lawful_was first second 0 (root_there b.nodes h.tree) ∙ h.root;
    leaves = settle_leaves;
    best = single_is p _ t.middle new.best t.offer_second (single_is p _ b.best t.middle t.offer_first h.best);
    single = settle_single;
    open_leaves = settle_open;
    apart = λ u v m e g. h.apart u v m (other_held u m e).1 (other_held v m g).1;
    within = (let a = splits-split b.nodes h.tree c.node.0 was.0 was.1 was_open.leaf was.2 split lawful_was first second in let d = tickets_less b.held c.worker c.node holds.worker holds.held in let k = h.within in omega arith);
  }

  -- to settle keeps it
  pub sound_settle : IsSound p new
  sound_settle = subst (IsSound p) (sym (same_board new _ t.nodes t.held refl t.budget)) settled_board where
    same_board : (a d : Board) → a.nodes ≡ d.nodes → a.held ≡ d.held → a.best ≡ d.best → a.budget ≡ d.budget → a ≡ d
    same_board a d i j k l = ap (λ n. record { nodes = n; held = a.held; best = a.best; budget = a.budget }) i ∙ ap (λ n. record { nodes = d.nodes; held = n; best = a.best; budget = a.budget }) j ∙ ap (λ n. record { nodes = d.nodes; held = d.held; best = n; budget = a.budget }) k ∙ ap (λ n. record { nodes = d.nodes; held = d.held; best = d.best; budget = n }) l

-- each step keeps it
pub sound_step : (p : Problem) (old : Board) (event : Event) (new : Board) → IsSound p old → Step p old event new → IsSound p new
sound_step p old (claims w None) new h s = subst (IsSound p) (sym s.1.1) h
sound_step p old (claims w (Some c)) new h s = subst (IsSound p) (sym s.1.3) (sound_hold p old h w s.0 c.node s.1.1)
sound_step p old (settles c split first second) new h s = sound_settle p old h c s.0 split s.1 first second s.2 s.3 new s.4
sound_step p old (gives_back c) new h s = subst (IsSound p) (sym s.1) (sound_release p old h c.worker s.0.worker c.node s.0.held)
sound_step p old (offers x) new h s = subst (IsSound p) (sym s) (sound_offer p old x h)

-- each list of steps keeps it
pub sound_run : (p : Problem) (old : Board) (events : List Event) (new : Board) → IsSound p old → Run p old events new → IsSound p new
sound_run p old [] new h r = subst (IsSound p) (sym r) h
sound_run p old (event ∷ events) new h r = sound_run p r.0 events new (sound_step p old event r.0 h r.1) r.2
