-- How a search begins and ends.

use Rattle.std.proofs.Common.{◌≡◌, ℕ, List, Option, Some, None, refl, sym, ap, ◌∙◌, subst, arith, ℤ, ◌≤ℤ◌}
use Rattle.std.proofs.lemmas.Int.{ints}
use Rattle.gap_box.specs.declared.node.NodeId.{NodeId}
use Rattle.gap_queue.specs.Keys.{key_at}
use Rattle.gap_model.specs.declared.outcome.Best.{Best}
use Rattle.gap_model.specs.declared.outcome.Outcome.{Outcome}
use Rattle.gap_model.specs.declared.outcome.Outcome.TheVariants.{Closed, NoPortfolio, Bounded}
use Rattle.gap_model.specs.declared.shown.Shown.{Shown}
use Rattle.gap_model.specs.declared.shown.Shown.TheVariants.{Nothing, AtLeast, Empty}
use Rattle.gap_model.specs.Order.{ShownLe}
use Rattle.gap_model.specs.Problems.{Problem}
use Rattle.gap_model.specs.Nodes.{part_at}
use Rattle.gap_search.specs.Boards.{Board, node_held, tickets, BestAtMost, AllShow, IsShown}
use Rattle.gap_search.specs.Steps.{End}
use Rattle.gap_search.specs.Kept.{IsKept, Ends}
use Rattle.gap_search.proofs.HeldLaws.{worker_there, tickets_less}
use Rattle.gap_search.proofs.BoardLaws.{not_both}
use Rattle.gap_search.proofs.PieceLaws.{first_least}

no_node : (a : NodeId) → None ≡ Some a → ⊥
no_node a e = cc

no_key : (a : ℤ) → None ≡ Some a → ⊥
no_key a e = cc

same_key : (a b : ℤ) → Some a ≡ Some b → a ≡ b
same_key a b e = cc

-- where no leaf is held, no worker holds one
none_held : (held : List (Option NodeId)) → tickets held ≡ 0 → (w : ℕ) (node : NodeId) → node_held held w ≡ Some node → ⊥
none_held held e w node f = let t = tickets_less held w node (worker_there held w node f) f in omega arith

module _ (p : Problem) (b : Board) (waits : List (Option ℤ)) (keys : List ℤ) (workers room : ℕ) (h : IsKept p b waits keys workers room) (z : tickets b.held ≡ 0) where
  -- each leaf shows a number that waits, or that it has no list
  leaf_shows : (least : Shown) → ShownLe least Empty → ((n : ℕ) (key : ℤ) → key_at waits n ≡ Some key → ShownLe least (AtLeast key)) → AllShow p b.nodes least
  leaf_shows least e k n leaf f = by_shown (p.shows (part_at b.nodes n) leaf) refl where
    by_shown : (s : Shown) → p.shows (part_at b.nodes n) leaf ≡ s → ShownLe least s
    by_shown Nothing g = absurd ((h.sound.leaves n leaf f).tight.something g)
    by_shown (AtLeast key) g = k n key ((h.waiting.each n key).1 (record { leaf = leaf; there = f; shows = g; free = λ w node q. absurd (none_held b.held z w node q) }))
    by_shown Empty g = e

  pub end_is : (o : Outcome) → Ends waits b.best o → End p b o
  end_is (Closed best) e = (e.0, leaf_shows (AtLeast best.value) tt (λ n key f. subst (λ (o : Option Best). BestAtMost o key) e.0 (e.1 n key f)))
  end_is NoPortfolio e = (e.0, leaf_shows Empty tt (λ n key f. absurd (subst (λ (o : Option Best). BestAtMost o key) e.0 (e.1 n key f))))
  end_is (Bounded o bound) e =
      let node = e.1.0 in
      let c = e.1.1 in
      let w = (h.waiting.each node.0 bound).0 c.1 in
      let k = same_key c.0.key bound (sym c.0.has ∙ c.1) in
      (e.0, leaf_shows (AtLeast bound) tt (λ n key f. subst (λ v. v ≤ℤ key) k (first_least c.0.key key node.0 n (c.0.least n key f))), record { n = node.0; leaf = w.leaf; there = w.there; shows = w.shows }, c.2)

same_best : (a c : Best) → Some a ≡ Some c → a ≡ c
same_best a c e = cc

no_best : (a : Best) → None ≡ Some a → ⊥
no_best a e = cc

both_ways : (v w : ℤ) → v ≤ℤ w → w ≤ℤ v → v ≡ w
both_ways v w h k = omega (arith, ints)

module _ (p : Problem) (b : Board) where
  -- what no leaf shows less than is no more than what one shows
  shown_least : (least : Shown) (v : ℤ) → AllShow p b.nodes least → IsShown p b.nodes v → ShownLe least (AtLeast v)
  shown_least least v k s = subst (λ (z : Shown). ShownLe least z) s.shows (k s.n s.leaf s.there)

  closed_bounded : (best : Best) (o : Option Best) (v : ℤ) → End p b (Closed best) → End p b (Bounded o v) → ⊥
  closed_bounded best o v e f = not_both b.best v (subst (λ (z : Option Best). BestAtMost z v) (sym e.0) (shown_least (AtLeast best.value) v e.1 f.2)) f.3

  -- a search ends in one way
  pub one_end : (x y : Outcome) → End p b x → End p b y → x ≡ y
  one_end (Closed x) (Closed y) e f = ap Closed (same_best x y (sym e.0 ∙ f.0))
  one_end (Closed x) NoPortfolio e f = absurd (no_best x (sym f.0 ∙ e.0))
  one_end (Closed x) (Bounded o v) e f = absurd (closed_bounded x o v e f)
  one_end NoPortfolio (Closed y) e f = absurd (no_best y (sym e.0 ∙ f.0))
  one_end NoPortfolio NoPortfolio e f = refl
  one_end NoPortfolio (Bounded o v) e f = absurd (shown_least Empty v e.1 f.2)
  one_end (Bounded o v) (Closed y) e f = absurd (closed_bounded y o v f e)
  one_end (Bounded o v) NoPortfolio e f = absurd (shown_least Empty v f.1 e.2)
  one_end (Bounded o v) (Bounded q w) e f = ap (λ (z : Option Best). Bounded z v) (e.0 ∙ sym f.0) ∙ ap (Bounded q) (both_ways v w (shown_least (AtLeast v) w e.1 f.2) (shown_least (AtLeast w) v f.1 e.2))
