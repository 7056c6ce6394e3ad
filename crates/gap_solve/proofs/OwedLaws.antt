-- What is owed of a portfolio at the end of a search.

use Rattle.std.proofs.Common.{◌≡◌, ℕ, zero, suc, ◌+◌, ◌≤◌, ◌⊎◌, inl, inr, List, replicate, Bool, true, false, Option, Some, None, IsSome, ℤ, pos, ◌≤ℤ◌, refl, sym, ap, ◌∙◌, subst, arith}
use Rattle.std.specs.Option.{ForSome}
use Rattle.std.proofs.lemmas.Int.{ints}
use Rattle.gap_base.specs.declared.witness.Witness.{Witness}
use Rattle.gap_base.specs.Lots.{eighths_of}
use Rattle.gap_box.specs.declared.cell.Cell.{Cell}
use Rattle.gap_box.specs.declared.split.Split.{Split}
use Rattle.gap_box.specs.Parts.{can_meet, points, IsSingle}
use Rattle.gap_box.specs.Splits.{Cuts}
use Rattle.gap_instance.specs.Limits.{MeetsLimits}
use Rattle.gap_instance.specs.Objective.{objective}
use Rattle.gap_instance.specs.Neighbours.{HasNoBetterNeighbour}
use Rattle.gap_model.specs.declared.leaf.Leaf.{Leaf}
use Rattle.gap_model.specs.declared.leaf.Leaf.TheVariants.{Void}
use Rattle.gap_model.specs.declared.outcome.Best.{Best}
use Rattle.gap_model.specs.declared.outcome.Outcome.{Outcome}
use Rattle.gap_model.specs.declared.outcome.Outcome.TheVariants.{Closed, NoPortfolio, Bounded}
use Rattle.gap_model.specs.declared.shown.Shown.{Shown}
use Rattle.gap_model.specs.declared.shown.Shown.TheVariants.{Nothing, AtLeast, Empty}
use Rattle.gap_model.specs.Settings.{Setting, IsSetting}
use Rattle.gap_model.specs.Order.{ShownLe}
use Rattle.gap_model.specs.Leaves.{shows}
use Rattle.gap_model.specs.Problems.{tangent_problem}
use Rattle.gap_model.specs.Nodes.{Node, splits_of, part_at, leaf_at, split_at, root_nodes}
use Rattle.gap_model.specs.Outcomes.{IsPortfolio, IsLowerBound, IsRight}
use Rattle.gap_model.proofs.BoundLaws.{tangent_lawful}
use Rattle.gap_model.proofs.LimitLaws.{meets_from}
use Rattle.gap_search.specs.Boards.{Board, BestAtMost, IsBest, AllShow, IsShown}
use Rattle.gap_search.specs.Steps.{End}
use Rattle.gap_search.proofs.BoardLaws.{offered_takes, single_lower}
use Rattle.gap_search.proofs.CoverLaws.{floor, few, never_lower, never_worse, full_closes}
use Rattle.gap_search.proofs.OpenLaws.{leaf_is_part}
use Rattle.gap_search.proofs.PieceLaws.{at_most_more}
use Rattle.gap_search.proofs.ResumeLaws.{root_leaf}
use Rattle.gap_box.proofs.CountLaws.{pick_meets}
use Rattle.gap_leaf.specs.Showing.{IsOwnBest}
use Rattle.gap_leaf.specs.Voids.{IsVoidTry}
use Rattle.gap_solve.specs.Ended.{root_of}
use Rattle.gap_solve.specs.Ends.{best_in, bound_in, is_bounded, eighths_in, HasFloor}
use Rattle.gap_solve.specs.Searching.{CostsAtMost, IsFirst, eighths_from, allowed, fitting, offered_first, IsRun, IsOpenEnd, IsPlainEnd, IsFinish}
use Rattle.gap_solve.specs.Solving.{IsGrown, IsOwed}
use Rattle.gap_solve.proofs.FloorLaws.{root_are, portfolio_floor, root_floor}
use Rattle.gap_solve.proofs.EndLaws.{for_none, for_some, all_of_spent}

no_split : (part : List Cell) (leaf : Leaf) (n : ℕ) (split : Split) → split_at (root_nodes part leaf) n ≡ Some split → ⊥
no_split part leaf zero split e = absurd cc
no_split part leaf (suc n) split e = absurd cc

no_number : (a : Shown) (v : ℤ) → a ≡ AtLeast v → ShownLe Empty a → ⊥
no_number a v e l = subst (λ (z : Shown). ShownLe Empty z) e l

none_some : {X : Type 0} (o : Option X) (x : X) → o ≡ None → o ≡ Some x → ⊥
none_some o x e f = absurd cc

one_best : (o : Option Best) (x y : Best) → o ≡ Some x → o ≡ Some y → x ≡ y
one_best o x y e f = cc

at_most_none : (o : Option Best) (v : ℤ) → o ≡ None → BestAtMost o v → ⊥
at_most_none o v e h = subst (λ (z : Option Best). BestAtMost z v) e h

at_most_some : (o : Option Best) (v : ℤ) → BestAtMost o v → IsSome o
at_most_some None v h = absurd h
at_most_some (Some b) v h = refl

not_bounded : (b : Bool) → b ≡ true → b ≡ false → ⊥
not_bounded b e f = absurd cc

module _ (s : Setting) (is : IsSetting s) (nodes : ℕ) (found : Option (List ℕ)) (b : Board) (r : IsRun s nodes found b) where
  -- ---- the tree was grown as it should be
  split_cuts : (n : ℕ) (split : Split) → split_at b.nodes n ≡ Some split → Cuts (part_at b.nodes n) s.instance.held_most split
  split_cuts n split e = by_case (r.driven.followed.splits n split e) where
    by_case : (split_at r.begun.nodes n ≡ Some split) ⊎ allowed s (part_at b.nodes n) split → Cuts (part_at b.nodes n) s.instance.held_most split
    by_case (inl old) = absurd (no_split (root_of s) r.leaf n split (sym (ap (λ (z : List Node). split_at z n) r.begins.nodes) ∙ old))
    by_case (inr new) = new

  leaf_owns : (n : ℕ) (leaf : Leaf) → leaf_at b.nodes n ≡ Some leaf → IsOwnBest s (part_at b.nodes n) leaf
  leaf_owns n leaf e = by_case (r.driven.followed.leaves n leaf e) where
    by_case : (leaf_at r.begun.nodes n ≡ Some leaf) ⊎ fitting s (part_at b.nodes n) leaf → IsOwnBest s (part_at b.nodes n) leaf
    by_case (inl old) =
        let o = root_leaf (root_of s) r.leaf leaf n (sym (ap (λ (z : List Node). leaf_at z n) r.begins.nodes) ∙ old) in
        subst (λ (z : List Cell). IsOwnBest s z leaf) (sym (ap (part_at b.nodes) o.0 ∙ r.sound.root))
        (subst (λ (z : Leaf). IsOwnBest s (root_of s) z) (sym o.1) r.leaf_is.leaf_is.own)
    by_case (inr new) = new

  pub grown : IsGrown s b.nodes
  grown = record { cuts = split_cuts; own = leaf_owns }

  -- ---- the least never falls below what the root's leaf shows
  root_shows : (least : Shown) → ShownLe least (shows s (root_of s) r.leaf) → AllShow (tangent_problem s) r.begun.nodes least
  root_shows least l n leaf e =
      let o = root_leaf (root_of s) r.leaf leaf n (sym (ap (λ (z : List Node). leaf_at z n) r.begins.nodes) ∙ e) in
      subst (λ (z : List Cell). ShownLe least (shows s z leaf)) (sym (ap (part_at r.begun.nodes) o.0 ∙ r.begun_sound.root))
      (subst (λ (z : Leaf). ShownLe least (shows s (root_of s) z)) (sym o.1) l)

  all_show : (least : Shown) → ShownLe least (shows s (root_of s) r.leaf) → AllShow (tangent_problem s) b.nodes least
  all_show least l = never_lower (tangent_problem s) r.begun r.driven.events b least r.begun_sound r.driven.run (root_shows least l)

  -- ---- the best is no worse than the first list
  first_kept : (v : ℤ) → CostsAtMost (objective s.instance s.p s.q) found v → ForSome found (MeetsLimits s.instance) → BestAtMost b.best v
  first_kept v h m = never_worse (tangent_problem s) r.begun r.driven.events b v r.driven.run (single_lower (tangent_problem s) (root_of s) (offered_first (tangent_problem s) found) r.begun.best r.begins.best v (offered_kept found h m)) where
    offered_kept : (o : Option (List ℕ)) → CostsAtMost (objective s.instance s.p s.q) o v → ForSome o (MeetsLimits s.instance) → BestAtMost (offered_first (tangent_problem s) o) v
    offered_kept None h m = absurd h
    offered_kept (Some x) h m = at_most_more (offered_first (tangent_problem s) (Some x)) (objective s.instance s.p s.q x) v h (offered_takes (tangent_problem s) None x (meets_from s.instance x (m x refl)))

  some_kept : IsSome found → ForSome found (MeetsLimits s.instance) → (v : ℤ) × BestAtMost b.best v
  some_kept i m = by_list found refl i m where
    by_list : (o : Option (List ℕ)) → found ≡ o → IsSome o → ForSome o (MeetsLimits s.instance) → (v : ℤ) × BestAtMost b.best v
    by_list None e i m = absurd cc
    by_list (Some x) e i m = (objective s.instance s.p s.q x, first_kept (objective s.instance s.p s.q x) (subst (λ (o : Option (List ℕ)). CostsAtMost (objective s.instance s.p s.q) o (objective s.instance s.p s.q x)) (sym e) (omega (arith, ints))) (subst (λ (o : Option (List ℕ)). ForSome o (MeetsLimits s.instance)) (sym e) m))

  -- ---- the best of the outcome is no worse than the board's
  plain_kept : (outcome : Outcome) (v : ℤ) → IsPlainEnd s b outcome None → BestAtMost b.best v → BestAtMost (best_in outcome) v
  plain_kept (Closed best) v e h = subst (λ (z : Option Best). BestAtMost z v) e.end.0 h
  plain_kept NoPortfolio v e h = absurd (at_most_none b.best v e.end.0 h)
  plain_kept (Bounded o bound) v e h = subst (λ (z : Option Best). BestAtMost z v) (sym e.end.0) h

  better_kept : (outcome : Outcome) (overall : Option Witness) (better : Best) (least v : ℤ) → IsOpenEnd s better least outcome overall → better.value ≤ℤ v → BestAtMost (best_in outcome) v
  better_kept (Closed best) overall better least v (e, rest) l = subst (λ (z : Best). BestAtMost (Some z) v) (sym e) l
  better_kept NoPortfolio overall better least v h l = absurd h
  better_kept (Bounded o bound) overall better least v (e, w, m, f) l = subst (λ (z : Option Best). BestAtMost z v) (sym e) l

  le_both : (x y z : ℤ) → x ≤ℤ y → y ≤ℤ z → x ≤ℤ z
  le_both x y z p q = omega (arith, ints)

  found_kept : (better f : Best) (v : ℤ) → better.value ≤ℤ f.value → Some f ≡ b.best → BestAtMost b.best v → better.value ≤ℤ v
  found_kept better f v l e h = le_both better.value f.value v l (subst (λ (z : Option Best). BestAtMost z v) (sym e) h)

  kept : (outcome : Outcome) (overall : Option Witness) (v : ℤ) → IsFinish s b outcome overall → BestAtMost b.best v → BestAtMost (best_in outcome) v
  kept outcome overall v (inl e) h = plain_kept outcome v (record { end = e.end; alone = e.alone; overall_is = refl }) h
  kept outcome overall v (inr e) h = better_kept outcome overall e.better e.least v e.open_end (found_kept e.better e.found v e.polished.no_worse e.end.0 h)

  -- ---- none where every leaf shows Empty
  shown_apart : (v : ℤ) → AllShow (tangent_problem s) b.nodes Empty → IsShown (tangent_problem s) b.nodes v → ⊥
  shown_apart v all h = no_number _ v h.shows (all h.n h.leaf h.there)

  best_apart : (best : Best) → AllShow (tangent_problem s) b.nodes Empty → b.best ≡ Some best → ⊥
  best_apart best all e =
      let h : IsBest (tangent_problem s) (Some best) = subst (IsBest (tangent_problem s)) e r.sound.best in
      floor (tangent_problem s) (tangent_lawful s is) b r.sound Empty best.lots all h.0

  plain_none : (outcome : Outcome) → AllShow (tangent_problem s) b.nodes Empty → End (tangent_problem s) b outcome → outcome ≡ NoPortfolio
  plain_none (Closed best) all e = absurd (best_apart best all e.0)
  plain_none NoPortfolio all e = refl
  plain_none (Bounded o bound) all (f, more, one, above) = absurd (shown_apart bound all one)

  none : (outcome : Outcome) (overall : Option Witness) → AllShow (tangent_problem s) b.nodes Empty → IsFinish s b outcome overall → outcome ≡ NoPortfolio
  none outcome overall all (inl e) = plain_none outcome all e.end
  none outcome overall all (inr e) = absurd (best_apart e.found all (sym e.end.0))

  uncounted_all : can_meet (root_of s) s.instance.held s.instance.held_most ≡ false → AllShow (tangent_problem s) b.nodes Empty
  uncounted_all f n leaf e =
      let p = leaf_is_part (tangent_problem s) b r.sound n leaf e in
      is_empty _ ((r.sound.leaves n leaf e).tight.none (λ x k. apart (pick_meets (root_of s) s.instance.held s.instance.held_most x (root_are s is) (record { inside = p.within.inside x k.inside; few = k.few; many = k.many })) f))
    where
      apart : {q : Bool} → q ≡ true → q ≡ false → ⊥
      apart c d = cc

      is_empty : (a : Shown) → a ≡ Empty → ShownLe Empty a
      is_empty a g = subst (λ (z : Shown). ShownLe Empty z) (sym g) tt

  void_all : (alpha tau : ℤ) → IsVoidTry s.instance.turnover alpha tau → shows s (root_of s) (Void alpha tau (pos 0)) ≡ Empty → AllShow (tangent_problem s) b.nodes Empty
  void_all alpha tau t e = all_show Empty (is_empty _ (r.leaf_is.leaf_is.voids alpha tau t e)) where
    is_empty : (a : Shown) → a ≡ Empty → ShownLe Empty a
    is_empty a g = subst (λ (z : Shown). ShownLe Empty z) (sym g) tt

  -- ---- single leaves, neighbours and enough splits
  single_apart : (outcome : Outcome) (overall : Option Witness) → IsFinish s b outcome overall → best_in outcome ≡ None → (n : ℕ) (leaf : Leaf) (x : List ℕ) → leaf_at b.nodes n ≡ Some leaf → IsSingle (part_at b.nodes n) s.instance.held s.instance.held_most x → MeetsLimits s.instance x → ⊥
  single_apart outcome overall f e n leaf x t i m = at_most_none (best_in outcome) (objective s.instance s.p s.q x) e (kept outcome overall (objective s.instance s.p s.q x) f (r.sound.single n leaf x t i (meets_from s.instance x m)))

  closed_neighbour : (best : Best) → IsPortfolio s.instance s.p s.q best → IsLowerBound s.instance s.p s.q best.value → HasNoBetterNeighbour s.instance s.p s.q best.lots
  closed_neighbour best p l = λ y n m. subst (λ (v : ℤ). v ≤ℤ objective s.instance s.p s.q y) p.value_is (l y m)

  neighbour_plain : (outcome : Outcome) → IsPlainEnd s b outcome None → IsRight s.instance s.p s.q outcome → ForSome (best_in outcome) (λ best. HasNoBetterNeighbour s.instance s.p s.q best.lots)
  neighbour_plain (Closed best) e h = for_some (λ z. HasNoBetterNeighbour s.instance s.p s.q z.lots) best (closed_neighbour best h.0 h.1)
  neighbour_plain NoPortfolio e h = for_none (λ z. HasNoBetterNeighbour s.instance s.p s.q z.lots)
  neighbour_plain (Bounded None bound) e h = for_none (λ z. HasNoBetterNeighbour s.instance s.p s.q z.lots)
  neighbour_plain (Bounded (Some best) bound) e h = absurd (e.alone best bound refl)

  neighbour_better : (outcome : Outcome) (overall : Option Witness) (better : Best) (least : ℤ) → HasNoBetterNeighbour s.instance s.p s.q better.lots → IsOpenEnd s better least outcome overall → ForSome (best_in outcome) (λ best. HasNoBetterNeighbour s.instance s.p s.q best.lots)
  neighbour_better (Closed best) overall better least n (e, rest) = for_some (λ z. HasNoBetterNeighbour s.instance s.p s.q z.lots) best (subst (λ (z : Best). HasNoBetterNeighbour s.instance s.p s.q z.lots) (sym e) n)
  neighbour_better NoPortfolio overall better least n h = absurd h
  neighbour_better (Bounded o bound) overall better least n (e, w, l, f) = subst (λ (z : Option Best). ForSome z (λ best. HasNoBetterNeighbour s.instance s.p s.q best.lots)) (sym e) (for_some (λ z. HasNoBetterNeighbour s.instance s.p s.q z.lots) better n)

  neighbour : (outcome : Outcome) (overall : Option Witness) → IsFinish s b outcome overall → IsRight s.instance s.p s.q outcome → ForSome (best_in outcome) (λ best. HasNoBetterNeighbour s.instance s.p s.q best.lots)
  neighbour outcome overall (inl e) h = neighbour_plain outcome (record { end = e.end; alone = e.alone; overall_is = refl }) h
  neighbour outcome overall (inr e) h = neighbour_better outcome overall e.better e.least e.polished.neighbour e.open_end

  end_full : (o : Option Best) (bound : ℤ) → points (root_of s) ≤ nodes + 1 → End (tangent_problem s) b (Bounded o bound) → ⊥
  end_full o bound l e = full_closes (tangent_problem s) (tangent_lawful s is) b o bound r.sound (full e) e where
    full : End (tangent_problem s) b (Bounded o bound) → splits_of b.nodes + 1 ≡ points (root_of s)
    full (f, all, one, above) =
        let a = all_of_spent s is nodes b r.sound r.budget r.idle r.refused bound one above in
        let c = few (tangent_problem s) (tangent_lawful s is) b r.sound in
        omega arith

  plain_enough : (outcome : Outcome) → points (root_of s) ≤ nodes + 1 → End (tangent_problem s) b outcome → is_bounded outcome ≡ false
  plain_enough (Closed best) l e = refl
  plain_enough NoPortfolio l e = refl
  plain_enough (Bounded o bound) l e = absurd (end_full o bound l e)

  enough : (outcome : Outcome) (overall : Option Witness) → IsFinish s b outcome overall → points (root_of s) ≤ nodes + 1 → is_bounded outcome ≡ false
  enough outcome overall (inl e) l = plain_enough outcome l e.end
  enough outcome overall (inr e) l = absurd (end_full (Some e.found) e.least l e.end)

  -- ---- all that is owed
  warm_kept : (warm : Option (List ℕ)) (outcome : Outcome) (overall : Option Witness) → IsFirst s.instance s.p s.q warm found → IsFinish s b outcome overall → ForSome warm (λ x. BestAtMost (best_in outcome) (objective s.instance s.p s.q x))
  warm_kept None outcome overall h f = for_none (λ x. BestAtMost (best_in outcome) (objective s.instance s.p s.q x))
  warm_kept (Some x) outcome overall h f = for_some (λ z. BestAtMost (best_in outcome) (objective s.instance s.p s.q z)) x (kept outcome overall (objective s.instance s.p s.q x) f (first_kept (objective s.instance s.p s.q x) (h.warm_is x refl) h.meets))

  pub owed : (warm : Option (List ℕ)) (outcome : Outcome) (overall : Option Witness) → IsFirst s.instance s.p s.q warm found → IsFinish s b outcome overall → IsRight s.instance s.p s.q outcome → IsOwed s nodes warm b.nodes outcome
  owed warm outcome overall h f right = record {
    ordered = λ o. let k = some_kept (h.ordered o) h.meets in at_most_some (best_in outcome) k.0 (kept outcome overall k.0 f k.1);
    warm_is = warm_kept warm outcome overall h f;
    uncounted = λ e. none outcome overall (uncounted_all e) f;
    voids = λ alpha tau t e. none outcome overall (void_all alpha tau t e) f;
    single = λ e n leaf x t i m. single_apart outcome overall f e n leaf x t i m;
    neighbour = neighbour outcome overall f right;
    enough = λ l. enough outcome overall f l;
  }

  -- ---- the floor
  none_found : b.best ≡ None → ForSome found (MeetsLimits s.instance) → found ≡ None
  none_found e m = by_list found refl m where
    by_list : (o : Option (List ℕ)) → found ≡ o → ForSome o (MeetsLimits s.instance) → o ≡ None
    by_list None g m = refl
    by_list (Some x) g m = absurd (at_most_none b.best (objective s.instance s.p s.q x) e (first_kept (objective s.instance s.p s.q x) (subst (λ (o : Option (List ℕ)). CostsAtMost (objective s.instance s.p s.q) o (objective s.instance s.p s.q x)) (sym g) (omega (arith, ints))) (subst (λ (o : Option (List ℕ)). ForSome o (MeetsLimits s.instance)) (sym g) m)))

  number_is : (a : Shown) (v : ℤ) → a ≡ AtLeast v → ShownLe (shows s (root_of s) r.leaf) a → ShownLe (shows s (root_of s) r.leaf) (AtLeast v)
  number_is a v e l = subst (λ (z : Shown). ShownLe (shows s (root_of s) r.leaf) z) e l

  same_shown : (a : Shown) → ShownLe a a
  same_shown Nothing = tt
  same_shown (AtLeast v) = omega (arith, ints)
  same_shown Empty = tt

  unfound_floor : (bound : ℤ) → b.best ≡ None → ForSome found (MeetsLimits s.instance) → IsShown (tangent_problem s) b.nodes bound → HasFloor s (replicate s.instance.market.assets 0) bound
  unfound_floor bound e m one =
      let l = number_is _ bound one.shows (all_show (shows s (root_of s) r.leaf) (same_shown (shows s (root_of s) r.leaf)) one.n one.leaf one.there) in
      subst (λ (o : Option (List ℕ)). HasFloor s (eighths_from s.instance.market.assets o) bound) (none_found e m) (root_floor s (eighths_from s.instance.market.assets found) r.leaf bound r.leaf_is l)

  plain_floor : (outcome : Outcome) → ForSome found (MeetsLimits s.instance) → IsPlainEnd s b outcome None → IsRight s.instance s.p s.q outcome → ForSome (bound_in outcome) (HasFloor s (eighths_in s.instance.market.assets (best_in outcome)))
  plain_floor (Closed best) m e h = for_some (HasFloor s (eighths_of best.lots)) best.value (portfolio_floor s best (eighths_of best.lots) is h.0)
  plain_floor NoPortfolio m e h = for_none (HasFloor s (replicate s.instance.market.assets 0))
  plain_floor (Bounded None bound) m e h = for_some (HasFloor s (replicate s.instance.market.assets 0)) bound (at_end e.end) where
    at_end : End (tangent_problem s) b (Bounded None bound) → HasFloor s (replicate s.instance.market.assets 0) bound
    at_end (o, all, one, above) = unfound_floor bound (sym o) m one
  plain_floor (Bounded (Some best) bound) m e h = absurd (e.alone best bound refl)

  better_floor : (outcome : Outcome) (overall : Option Witness) (better : Best) (least : ℤ) → IsPortfolio s.instance s.p s.q better → IsOpenEnd s better least outcome overall → ForSome (bound_in outcome) (HasFloor s (eighths_in s.instance.market.assets (best_in outcome)))
  better_floor (Closed best) overall better least p (e, rest) = for_some (HasFloor s (eighths_of best.lots)) best.value (subst (λ (z : Best). HasFloor s (eighths_of z.lots) z.value) (sym e) (portfolio_floor s better (eighths_of better.lots) is p))
  better_floor NoPortfolio overall better least p h = absurd h
  better_floor (Bounded o bound) overall better least p (e, w, l, f) = for_some (HasFloor s (eighths_in s.instance.market.assets o)) bound (subst (λ (z : Option Best). HasFloor s (eighths_in s.instance.market.assets z) bound) (sym e) f)

  pub has_floor : (outcome : Outcome) (overall : Option Witness) → ForSome found (MeetsLimits s.instance) → IsFinish s b outcome overall → IsRight s.instance s.p s.q outcome → ForSome (bound_in outcome) (HasFloor s (eighths_in s.instance.market.assets (best_in outcome)))
  has_floor outcome overall m (inl e) h = plain_floor outcome m (record { end = e.end; alone = e.alone; overall_is = refl }) h
  has_floor outcome overall m (inr e) h = better_floor outcome overall e.better e.least e.polished.portfolio e.open_end
