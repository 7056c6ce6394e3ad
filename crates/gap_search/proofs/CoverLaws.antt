-- Each list is in one leaf, and what leaves show bounds what lists cost.

use Rattle.std.proofs.Common.{◌≡◌, ℕ, zero, suc, ◌+◌, ◌≤◌, ◌⊎◌, inl, inr, Bool, true, false, List, [], ◌∷◌, sum_by, Option, Some, None, refl, sym, ap, ◌∙◌, subst, arith, ℤ, ◌≤ℤ◌, ◌<ℤ◌}
use Rattle.std.proofs.lemmas.Int.{ints}
use Rattle.std.proofs.lemmas.List.Sums.{sum_by-cons}
use Rattle.gap_box.specs.declared.cell.Cell.{Cell}
use Rattle.gap_box.specs.declared.node.NodeId.{NodeId}
use Rattle.gap_box.specs.declared.split.Split.{Split}
use Rattle.gap_box.specs.declared.split.Side.TheVariants.{First, Second}
use Rattle.gap_box.specs.Parts.{in_part, indicator, points}
use Rattle.gap_box.specs.Splits.{child_cells}
use Rattle.gap_model.specs.declared.leaf.Leaf.{Leaf}
use Rattle.gap_model.specs.declared.outcome.Best.{Best}
use Rattle.gap_model.specs.declared.outcome.Outcome.TheVariants.{Closed, Bounded}
use Rattle.gap_model.specs.declared.shown.Shown.{Shown}
use Rattle.gap_model.specs.declared.shown.Shown.TheVariants.{Nothing, AtLeast, Empty}
use Rattle.gap_model.specs.Order.{ShownLe}
use Rattle.gap_model.specs.Problems.{Problem, IsBound}
use Rattle.gap_model.specs.Nodes.{Fate, ends, forks, Node, at_leaf, share, leaf_in, leaf_at, part_in, part_at, splits_of, split_nodes}
use Rattle.gap_model.proofs.OrderLaws.{shown_le_trans}
use Rattle.gap_tree.proofs.ViewLaws.{leaf_node}
use Rattle.gap_search.specs.Boards.{Board, BestAtMost, BestAbove, AllShow, OpenLeaf, InOneLeaf, IsSound}
use Rattle.gap_search.specs.Steps.{Refusal, busy, spent, closed, Grant, End, Event, claims, settles, gives_back, offers, Step, Run}
use Rattle.gap_search.proofs.HeldLaws.{LeafCase, stays, at_first, at_second, leaf_case}
use Rattle.gap_search.proofs.BoardLaws.{not_both, open_many, offered_lower, single_lower, sound_step}
use Rattle.gap_search.proofs.KeptLaws.{no_node}
use Rattle.gap_search.proofs.OpenLaws.{leaf_is_part, open_leaf_is, leaf_cells}
use Rattle.gap_search.proofs.PointLaws.{open_split, split_points, count_nodes, count_more}

-- a leaf with the list counts
share_leaf : (x : List ℕ) (nodes : List Node) (n : ℕ) (leaf : Leaf) → leaf_at nodes n ≡ Some leaf → in_part (part_at nodes n) x ≡ true → 1 ≤ sum_by (share x) nodes
share_leaf x [] n leaf e i = absurd (clash e) where
  clash : None ≡ Some leaf → ⊥
  clash z = cc
share_leaf x (node ∷ nodes) zero leaf e i =
    let k = leaf_node (node ∷ nodes) 0 leaf e in
    let q : k.0 ≡ node = cc (k.1) in
    let f : node.fate ≡ ends leaf = ap (λ (m : Node). m.fate) (sym q) ∙ k.2 in
    let s : share x node ≡ 1 = ap (at_leaf (indicator (in_part node.part x))) f ∙ ap indicator i in
    let a = sum_by-cons (share x) node nodes in
    omega arith
share_leaf x (node ∷ nodes) (suc n) leaf e i =
    let r = share_leaf x nodes n leaf e i in
    let a = sum_by-cons (share x) node nodes in
    omega arith

no_leaf : (leaf : Leaf) → None ≡ Some leaf → ⊥
no_leaf leaf z = cc

no_test : false ≡ true → ⊥
no_test z = cc

leaf_none : (node : Node) (split : Split) (k : ℕ) → node.fate ≡ forks split k → leaf_in (Some node) ≡ None
leaf_none node split k f = cc

leaf_some : (node : Node) (leaf : Leaf) → node.fate ≡ ends leaf → leaf_in (Some node) ≡ Some leaf
leaf_some node leaf f = cc

-- the only leaf with the list stands behind the first node
one_behind : (x : List ℕ) (node : Node) (nodes : List Node) → ((leaf : Leaf) → leaf_in (Some node) ≡ Some leaf → in_part node.part x ≡ true → ⊥) → InOneLeaf nodes x → InOneLeaf (node ∷ nodes) x
one_behind x node nodes none r = record { n = suc r.n; leaf = r.leaf; there = r.there; inside = r.inside; only = only } where
  only : (m : ℕ) (other : Leaf) → leaf_at (node ∷ nodes) m ≡ Some other → in_part (part_at (node ∷ nodes) m) x ≡ true → m ≡ suc r.n
  only zero other f i = absurd (none other f i)
  only (suc m) other f i = ap suc (r.only m other f i)

-- the first node is the only leaf with the list
one_here : (x : List ℕ) (node : Node) (nodes : List Node) (leaf : Leaf) → node.fate ≡ ends leaf → in_part node.part x ≡ true → sum_by (share x) nodes ≡ 0 → InOneLeaf (node ∷ nodes) x
one_here x node nodes leaf f i z = record { n = 0; leaf = leaf; there = leaf_some node leaf f; inside = i; only = only } where
  only : (m : ℕ) (other : Leaf) → leaf_at (node ∷ nodes) m ≡ Some other → in_part (part_at (node ∷ nodes) m) x ≡ true → m ≡ 0
  only zero other g j = refl
  only (suc m) other g j = let r = share_leaf x nodes m other g j in absurd (omega arith)

-- where the count is 1 just one leaf has the list
pub in_one : (x : List ℕ) (nodes : List Node) → sum_by (share x) nodes ≡ 1 → InOneLeaf nodes x
in_one x [] e = absurd (omega arith)
in_one x (node ∷ nodes) e = by_fate (λ z. in_one x nodes z) node.fate (in_part node.part x) refl refl where
  counted : (v : ℕ) → share x node ≡ v → v + sum_by (share x) nodes ≡ 1
  counted v q = let a = sum_by-cons (share x) node nodes in omega arith

  by_fate : (sum_by (share x) nodes ≡ 1 → InOneLeaf nodes x) → (fate : Fate) (t : Bool) → node.fate ≡ fate → in_part node.part x ≡ t → InOneLeaf (node ∷ nodes) x
  by_fate again (forks split k) t f i = let c = counted 0 (ap (at_leaf (indicator (in_part node.part x))) f) in one_behind x node nodes (λ leaf g j. no_leaf leaf (sym (leaf_none node split k f) ∙ g)) (again (omega arith))
  by_fate again (ends leaf) false f i = let c = counted 0 (ap (at_leaf (indicator (in_part node.part x))) f ∙ ap indicator i) in one_behind x node nodes (λ other g j. no_test (sym i ∙ j)) (again (omega arith))
  by_fate again (ends leaf) true f i = let c = counted 1 (ap (at_leaf (indicator (in_part node.part x))) f ∙ ap indicator i) in one_here x node nodes leaf f i (omega arith)

module _ (p : Problem) (bound : IsBound p) (b : Board) (h : IsSound p b) where
  pub once : (x : List ℕ) → in_part p.whole x ≡ true → InOneLeaf b.nodes x
  once x e = in_one x b.nodes (h.tree.cover x ∙ ap (λ (q : List Cell). indicator (in_part q x)) h.root ∙ ap indicator e)

  pub floor : (least : Shown) (x : List ℕ) → AllShow p b.nodes least → p.meets x ≡ true → ShownLe least (AtLeast (p.cost x))
  floor least x k m =
      let o = once x (bound.picked x m).inside in
      shown_le_trans least (p.shows (part_at b.nodes o.n) o.leaf) (AtLeast (p.cost x)) (k o.n o.leaf o.there) (bound.below (part_at b.nodes o.n) o.leaf x (leaf_is_part p b h o.n o.leaf o.there) (h.leaves o.n o.leaf o.there).in_range o.inside m)

  pub few : splits_of b.nodes + 1 ≤ points p.whole
  few =
      let a = count_nodes b.nodes in
      let s = h.tree.sum in
      let n = h.tree.number in
      let e : points (part_at b.nodes 0) ≡ points p.whole = ap points h.root in
      omega arith

  -- with as many splits as can be, no leaf can be taken further apart
  pub none_open : splits_of b.nodes + 1 ≡ points p.whole → (n : ℕ) → OpenLeaf p b.nodes n → ⊥
  none_open full n o =
      let k = leaf_node b.nodes n o.leaf o.there in
      let t : 2 ≤ points (part_at b.nodes n) = split_points (part_at b.nodes n) (leaf_cells b.nodes n o.leaf h.tree o.there) (open_split p (part_at b.nodes n) o.leaf bound (open_leaf_is p b h n o)) in
      let q : points (part_at b.nodes n) ≡ points k.0.part = ap (λ (z : Option Node). points (part_in z)) k.1 in
      let c = count_more b.nodes n k.0 o.leaf k.1 k.2 (omega arith) in
      let s = h.tree.sum in
      let m = h.tree.number in
      let e : points (part_at b.nodes 0) ≡ points p.whole = ap points h.root in
      omega arith

  -- and none shows less than the best
  none_below : splits_of b.nodes + 1 ≡ points p.whole → (n : ℕ) (leaf : Leaf) (key : ℤ) → leaf_at b.nodes n ≡ Some leaf → p.shows (part_at b.nodes n) leaf ≡ AtLeast key → BestAbove b.best key → ⊥
  none_below full n leaf key e s above = none_open full n (record { leaf = leaf; there = e; key = key; shows = s; many = open_many p b n leaf key h e s above })

  pub full_most : splits_of b.nodes + 1 ≡ points p.whole → (n : ℕ) (leaf : Leaf) (key : ℤ) → leaf_at b.nodes n ≡ Some leaf → p.shows (part_at b.nodes n) leaf ≡ AtLeast key → BestAtMost b.best key
  full_most full n leaf key e s = by_best b.best refl where
    by_best : (best : Option Best) → b.best ≡ best → BestAtMost best key
    by_best None q = absurd (none_below full n leaf key e s (subst (λ (o : Option Best). BestAbove o key) (sym q) tt))
    by_best (Some best) q = by_value (cases best.value key) where
      cases : (v k : ℤ) → (v ≤ℤ k) ⊎ (k <ℤ v)
      cases v k = search (arith, ints)

      by_value : (best.value ≤ℤ key) ⊎ (key <ℤ best.value) → best.value ≤ℤ key
      by_value (inl l) = l
      by_value (inr l) = absurd (none_below full n leaf key e s (subst (λ (o : Option Best). BestAbove o key) (sym q) l))

-- a claim isn't both refused and granted
pub refused_granted : (p : Problem) (b : Board) (w : ℕ) (node : NodeId) → Refusal p b w → Grant p b w node → ⊥
refused_granted p b w node (busy m e) g = no_node m (sym g.free ∙ e)
refused_granted p b w node (spent e) g = let l = g.left in omega arith
refused_granted p b w node (closed h) g = not_both b.best g.key (h node.0 g.key g.waits) g.below

-- a step never lowers what all leaves show
pub never_lower_step : (p : Problem) (old : Board) (event : Event) (new : Board) (least : Shown) → IsSound p old → Step p old event new → AllShow p old.nodes least → AllShow p new.nodes least
never_lower_step p old (claims w None) new least h s k = subst (λ (b : Board). AllShow p b.nodes least) (sym s.1.1) k
never_lower_step p old (claims w (Some c)) new least h s k = subst (λ (b : Board). AllShow p b.nodes least) (sym s.1.3) k
never_lower_step p old (settles c split first second) new least h s k = subst (λ (z : List Node). AllShow p z least) (sym s.4.nodes) all where
  all : AllShow p (split_nodes old.nodes c.node.0 split first second) least
  all n leaf e =
      let o = h.open_leaves c.worker c.node s.0.held in
      let was = leaf_node old.nodes c.node.0 o.leaf o.there in
      let part : was.0.part ≡ c.part = sym (s.0.part ∙ ap part_in was.1) in
      let low : ShownLe least (p.shows c.part o.leaf) = subst (λ (q : List Cell). ShownLe least (p.shows q o.leaf)) (sym s.0.part) (k c.node.0 o.leaf o.there) in
      by_case o was.0 part low (leaf_case old.nodes c.node.0 was.0 was.1 split first second n leaf e) where
        by_case : (o : OpenLeaf p old.nodes c.node.0) (was : Node) → was.part ≡ c.part → ShownLe least (p.shows c.part o.leaf) → LeafCase old.nodes (split_nodes old.nodes c.node.0 split first second) c.node.0 (child_cells was.part split First) (child_cells was.part split Second) first second n leaf → ShownLe least (p.shows (part_at (split_nodes old.nodes c.node.0 split first second) n) leaf)
        by_case o was part low (stays d g q) = subst (λ (z : List Cell). ShownLe least (p.shows z leaf)) (sym q) (k n leaf g)
        by_case o was part low (at_first d g q) = subst (λ (z : List Cell). ShownLe least (p.shows z leaf)) (sym (q ∙ ap (λ (z : List Cell). child_cells z split First) part)) (subst (λ (l : Leaf). ShownLe least (p.shows (child_cells c.part split First) l)) (sym g) (shown_le_trans least (p.shows c.part o.leaf) _ low (s.2.no_less o.leaf o.there)))
        by_case o was part low (at_second d g q) = subst (λ (z : List Cell). ShownLe least (p.shows z leaf)) (sym (q ∙ ap (λ (z : List Cell). child_cells z split Second) part)) (subst (λ (l : Leaf). ShownLe least (p.shows (child_cells c.part split Second) l)) (sym g) (shown_le_trans least (p.shows c.part o.leaf) _ low (s.3.no_less o.leaf o.there)))
never_lower_step p old (gives_back c) new least h s k = subst (λ (b : Board). AllShow p b.nodes least) (sym s.1) k
never_lower_step p old (offers x) new least h s k = subst (λ (b : Board). AllShow p b.nodes least) (sym s) k

pub never_lower : (p : Problem) (old : Board) (events : List Event) (new : Board) (least : Shown) → IsSound p old → Run p old events new → AllShow p old.nodes least → AllShow p new.nodes least
never_lower p old [] new least h r k = subst (λ (b : Board). AllShow p b.nodes least) (sym r) k
never_lower p old (event ∷ events) new least h r k = never_lower p r.0 events new least (sound_step p old event r.0 h r.1) r.2 (never_lower_step p old event r.0 least h r.1 k)

-- nor makes the best worse
never_worse_step : (p : Problem) (old : Board) (event : Event) (new : Board) (v : ℤ) → Step p old event new → BestAtMost old.best v → BestAtMost new.best v
never_worse_step p old (claims w None) new v s k = subst (λ (b : Board). BestAtMost b.best v) (sym s.1.1) k
never_worse_step p old (claims w (Some c)) new v s k = subst (λ (b : Board). BestAtMost b.best v) (sym s.1.3) k
never_worse_step p old (settles c split first second) new v s k = single_lower p _ s.4.middle new.best s.4.offer_second v (single_lower p _ old.best s.4.middle s.4.offer_first v k)
never_worse_step p old (gives_back c) new v s k = subst (λ (b : Board). BestAtMost b.best v) (sym s.1) k
never_worse_step p old (offers x) new v s k = subst (λ (b : Board). BestAtMost b.best v) (sym s) (offered_lower p old.best x v k)

pub never_worse : (p : Problem) (old : Board) (events : List Event) (new : Board) (v : ℤ) → Run p old events new → BestAtMost old.best v → BestAtMost new.best v
never_worse p old [] new v r k = subst (λ (b : Board). BestAtMost b.best v) (sym r) k
never_worse p old (event ∷ events) new v r k = never_worse p r.0 events new v r.2 (never_worse_step p old event r.0 v r.1 k)

-- a search that is closed has nothing to claim
pub closed_refuses : (p : Problem) (b : Board) (w : ℕ) (best : Best) → End p b (Closed best) → Refusal p b w
closed_refuses p b w best e = closed (λ n key o. subst (λ (z : Option Best). BestAtMost z key) (sym e.0) (subst (λ (z : Shown). ShownLe (AtLeast best.value) z) o.shows (e.1 n o.leaf o.there)))

pub full_refuses : (p : Problem) (bound : IsBound p) (b : Board) (w : ℕ) → IsSound p b → splits_of b.nodes + 1 ≡ points p.whole → Refusal p b w
full_refuses p bound b w h full = closed (λ n key o. full_most p bound b h full n o.leaf key o.there o.shows)

pub full_closes : (p : Problem) (bound : IsBound p) (b : Board) (best : Option Best) (v : ℤ) → IsSound p b → splits_of b.nodes + 1 ≡ points p.whole → End p b (Bounded best v) → ⊥
full_closes p bound b best v h full e = not_both b.best v (full_most p bound b h full e.2.n e.2.leaf v e.2.there e.2.shows) e.3
