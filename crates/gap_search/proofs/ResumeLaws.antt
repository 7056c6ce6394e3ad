-- How a search goes on from a tree.

use Rattle.std.proofs.Common.{◌≡◌, ℕ, zero, suc, ◌+◌, ◌*◌, ◌<◌, ◌≤◌, ◌⊎◌, inl, inr, true, List, [], ◌∷◌, length, take, replicate, Option, Some, None, refl, sym, ap, ◌∙◌, subst, arith, ℤ}
use Rattle.std.proofs.lemmas.Bool.{cases_eq}
use Rattle.gap_box.specs.declared.cell.Cell.{Cell}
use Rattle.gap_box.specs.Parts.{IsSingle}
use Rattle.gap_queue.specs.Keys.{key_at}
use Rattle.gap_model.specs.declared.leaf.Leaf.{Leaf}
use Rattle.gap_model.specs.declared.outcome.Best.{Best}
use Rattle.gap_model.specs.declared.shown.Shown.TheVariants.{AtLeast}
use Rattle.gap_model.specs.Problems.{Problem}
use Rattle.gap_model.specs.Tight.{IsTight}
use Rattle.gap_model.specs.Nodes.{Node, splits_of, part_at, leaf_in, leaf_at, root_nodes, IsTree}
use Rattle.gap_search.specs.Boards.{Board, node_held, tickets, BestAtMost, IsBest, FitsPart, IsSound}
use Rattle.gap_search.specs.Steps.{Waits, OfferSingle, OfferLeaf, OfferLeaves, Begins, Resumes}
use Rattle.gap_search.specs.Kept.{AreWaiting, LeafShows, IsKept, enqueued, leaf_enqueued, WaitBelow}
use Rattle.gap_search.proofs.BoardLaws.{single_is, single_lower, single_takes}
use Rattle.gap_search.proofs.KeptLaws.{no_node, same_leaf, none_or, length-enqueued, enqueued_other, enqueued_shows, enqueued_has}
use Rattle.gap_search.proofs.OpenLaws.{leaf_there}

pub none_in : (n w : ℕ) → node_held (replicate n None) w ≡ None
none_in zero w = refl
none_in (suc n) zero = refl
none_in (suc n) (suc w) = none_in n w

pub none_key : (n m : ℕ) → key_at (replicate n None) m ≡ None
none_key zero m = refl
none_key (suc n) zero = refl
none_key (suc n) (suc m) = none_key n m

no_leaf : (leaf : Leaf) → None ≡ Some leaf → ⊥
no_leaf leaf e = cc

-- a queue with no entry has the leaves below 0
pub wait_none : (p : Problem) (nodes : List Node) (waits : List (Option ℤ)) → ((n : ℕ) → key_at waits n ≡ None) → WaitBelow p nodes 0 waits
wait_none p nodes waits h = record { there = λ m key e. absurd (no_key key (sym (h m) ∙ e)); back = λ m key l s. absurd (omega arith) } where
  no_key : (key : ℤ) → None ≡ Some key → ⊥
  no_key key z = cc

pub length-leaf_enqueued : (p : Problem) (waits : List (Option ℤ)) (n : ℕ) (part : List Cell) (o : Option Leaf) → length (leaf_enqueued p waits n part o) ≡ length waits
length-leaf_enqueued p waits n part None = refl
length-leaf_enqueued p waits n part (Some leaf) = length-enqueued waits n (p.shows part leaf)

-- the next number has no entry
pub below_fresh : (p : Problem) (nodes : List Node) (n : ℕ) (waits : List (Option ℤ)) → WaitBelow p nodes n waits → key_at waits n ≡ None
below_fresh p nodes n waits h = none_or (key_at waits n) (λ key e. (let t = h.there n key e in let l = t.0 in absurd (omega arith)))

module _ (p : Problem) (nodes : List Node) (n : ℕ) (waits : List (Option ℤ)) (room : n < length waits) (h : WaitBelow p nodes n waits) where
  -- the next node is no leaf
  below_split : leaf_at nodes n ≡ None → WaitBelow p nodes (n + 1) waits
  below_split e = record { there = λ m key f. (let t = h.there m key f in let l = t.0 in (omega arith, t.1)); back = λ m key l s. by_place m key l s (cases_eq m n) } where
    by_place : (m : ℕ) (key : ℤ) → m < n + 1 → LeafShows p nodes m key → (m ≡ n) ⊎ (m ≡ n → ⊥) → key_at waits m ≡ Some key
    by_place m key l s (inl q) = absurd (no_leaf s.leaf (sym e ∙ ap (leaf_at nodes) (sym q) ∙ s.there))
    by_place m key l s (inr q) = h.back m key (omega arith) s

  -- the next node is a leaf
  below_leaf : (leaf : Leaf) → leaf_at nodes n ≡ Some leaf → WaitBelow p nodes (n + 1) (enqueued waits n (p.shows (part_at nodes n) leaf))
  below_leaf leaf e = record { there = λ m key f. there m key f (cases_eq m n); back = λ m key l s. back m key l s (cases_eq m n) } where
    there : (m : ℕ) (key : ℤ) → key_at (enqueued waits n (p.shows (part_at nodes n) leaf)) m ≡ Some key → (m ≡ n) ⊎ (m ≡ n → ⊥) → (m < n + 1) × LeafShows p nodes m key
    there m key f (inl q) =
        let s = enqueued_shows waits n (p.shows (part_at nodes n) leaf) key room (below_fresh p nodes n waits h) (ap (key_at (enqueued waits n (p.shows (part_at nodes n) leaf))) (sym q) ∙ f) in
        (omega arith, subst (λ (k : ℕ). LeafShows p nodes k key) (sym q) (record { leaf = leaf; there = e; shows = s }))
    there m key f (inr q) = let t = h.there m key (sym (enqueued_other waits n (p.shows (part_at nodes n) leaf) m q) ∙ f) in let l = t.0 in (omega arith, t.1)

    back : (m : ℕ) (key : ℤ) → m < n + 1 → LeafShows p nodes m key → (m ≡ n) ⊎ (m ≡ n → ⊥) → key_at (enqueued waits n (p.shows (part_at nodes n) leaf)) m ≡ Some key
    back m key l s (inl q) =
        let k = subst (λ (i : ℕ). LeafShows p nodes i key) q s in
        let i = same_leaf k.leaf leaf (sym k.there ∙ e) in
        let a : p.shows (part_at nodes n) leaf ≡ AtLeast key = ap (p.shows (part_at nodes n)) (sym i) ∙ k.shows in
        ap (key_at (enqueued waits n (p.shows (part_at nodes n) leaf))) q ∙ enqueued_has waits n (p.shows (part_at nodes n) leaf) key room a
    back m key l s (inr q) = enqueued_other waits n (p.shows (part_at nodes n) leaf) m q ∙ h.back m key (omega arith) s

  -- the next node is taken up
  pub below_more : WaitBelow p nodes (n + 1) (leaf_enqueued p waits n (part_at nodes n) (leaf_at nodes n))
  below_more = by_leaf (leaf_at nodes n) refl where
    by_leaf : (o : Option Leaf) → leaf_at nodes n ≡ o → WaitBelow p nodes (n + 1) (leaf_enqueued p waits n (part_at nodes n) o)
    by_leaf None e = below_split e
    by_leaf (Some leaf) e = below_leaf leaf e

-- with nothing held all leaves wait
pub all_wait : (p : Problem) (nodes : List Node) (waits : List (Option ℤ)) → WaitBelow p nodes (length nodes) waits → AreWaiting p nodes (replicate 16 None) waits
all_wait p nodes waits h = record { each = λ n key. (there n key, back n key) } where
  there : (n : ℕ) (key : ℤ) → key_at waits n ≡ Some key → Waits p nodes (replicate 16 None) n key
  there n key e = let t = h.there n key e in record { leaf = t.1.leaf; there = t.1.there; shows = t.1.shows; free = λ w node f. absurd (no_node node (sym (none_in 16 w) ∙ f)) }

  back : (n : ℕ) (key : ℤ) → Waits p nodes (replicate 16 None) n key → key_at waits n ≡ Some key
  back n key o = h.back n key (leaf_there nodes n o.leaf o.there) (record { leaf = o.leaf; there = o.there; shows = o.shows })

-- the next leaf's only list is offered
pub offers_next : (p : Problem) (nodes : List Node) (n : ℕ) (a b c : Option Best) → n < length nodes → OfferLeaves p (take n nodes) a b → OfferLeaf p (part_at nodes n) (leaf_at nodes n) b c → OfferLeaves p (take (suc n) nodes) a c
offers_next p [] n a b c l h o = absurd (omega arith)
offers_next p (node ∷ nodes) zero a b c l h o = (c, subst (λ (z : Option Best). OfferLeaf p node.part (leaf_in (Some node)) z c) h o, refl)
offers_next p (node ∷ nodes) (suc n) a b c l h o = (h.0, h.1, offers_next p nodes n h.0 b c (omega arith) h.2 o)

pub offers_more : (p : Problem) (nodes : List Node) (n : ℕ) (a b c : Option Best) → n < length nodes → OfferLeaves p (take n nodes) a b → OfferLeaf p (part_at nodes n) (leaf_at nodes n) b c → OfferLeaves p (take (n + 1) nodes) a c
offers_more p nodes n a b c l h o = let e : suc n ≡ n + 1 = omega arith in subst (λ (k : ℕ). OfferLeaves p (take k nodes) a c) e (offers_next p nodes n a b c l h o)

leaf_offer_is : (p : Problem) (part : List Cell) (o : Option Leaf) (a b : Option Best) → OfferLeaf p part o a b → IsBest p a → IsBest p b
leaf_offer_is p part None a b e h = subst (λ (z : Option Best). IsBest p z) (sym e) h
leaf_offer_is p part (Some leaf) a b e h = single_is p part a b e h

leaf_offer_lower : (p : Problem) (part : List Cell) (o : Option Leaf) (a b : Option Best) → OfferLeaf p part o a b → (v : ℤ) → BestAtMost a v → BestAtMost b v
leaf_offer_lower p part None a b e v h = subst (λ (z : Option Best). BestAtMost z v) (sym e) h
leaf_offer_lower p part (Some leaf) a b e v h = single_lower p part a b e v h

pub offers_are : (p : Problem) (nodes : List Node) (a b : Option Best) → OfferLeaves p nodes a b → IsBest p a → IsBest p b
offers_are p [] a b e h = subst (λ (z : Option Best). IsBest p z) (sym e) h
offers_are p (node ∷ nodes) a b e h = offers_are p nodes e.0 b e.2 (leaf_offer_is p node.part (leaf_in (Some node)) a e.0 e.1 h)

pub offers_lower : (p : Problem) (nodes : List Node) (a b : Option Best) → OfferLeaves p nodes a b → (v : ℤ) → BestAtMost a v → BestAtMost b v
offers_lower p [] a b e v h = subst (λ (z : Option Best). BestAtMost z v) (sym e) h
offers_lower p (node ∷ nodes) a b e v h = offers_lower p nodes e.0 b e.2 v (leaf_offer_lower p node.part (leaf_in (Some node)) a e.0 e.1 v h)

-- no leaf's only list is better than the best of all offers
pub offers_take : (p : Problem) (nodes : List Node) (a b : Option Best) → OfferLeaves p nodes a b → (n : ℕ) (leaf : Leaf) (x : List ℕ) → leaf_at nodes n ≡ Some leaf → IsSingle (part_at nodes n) p.fewest p.most x → p.meets x ≡ true → BestAtMost b (p.cost x)
offers_take p [] a b e n leaf x f s m = absurd (cc f)
offers_take p (node ∷ nodes) a b e zero leaf x f s m = offers_lower p nodes e.0 b e.2 (p.cost x) (single_takes p node.part a e.0 (subst (λ (o : Option Leaf). OfferLeaf p node.part o a e.0) f e.1) x s m)
offers_take p (node ∷ nodes) a b e (suc n) leaf x f s m = offers_take p nodes e.0 b e.2 n leaf x f s m

-- the offers of a tree that is one leaf
pub root_offers : (p : Problem) (part : List Cell) (leaf : Leaf) (a b : Option Best) → OfferLeaves p (root_nodes part leaf) a b → OfferSingle p part a b
root_offers p part leaf a b e = subst (λ (z : Option Best). OfferSingle p part a z) (sym e.2) e.1

-- a search that goes on from one leaf begins there
pub begins_from : (p : Problem) (leaf : Leaf) (nodes : List Node) (first : Option Best) (budget : ℕ) (b : Board) → nodes ≡ root_nodes p.whole leaf → Resumes p nodes first budget b → Begins p leaf first budget b
begins_from p leaf nodes first budget b e r = record {
  nodes = r.nodes_are ∙ e;
  held = r.held;
  best = root_offers p p.whole leaf first b.best (subst (λ (z : List Node). OfferLeaves p z first b.best) e r.best);
  budget_is = r.budget_is;
}

-- the only leaf of a root
pub root_leaf : (part : List Cell) (leaf l : Leaf) (n : ℕ) → leaf_at (root_nodes part leaf) n ≡ Some l → (n ≡ 0) × (l ≡ leaf)
root_leaf part leaf l zero e = (refl, cc)
root_leaf part leaf l (suc n) e = absurd (cc e)

pub root_fits : (p : Problem) (leaf : Leaf) → p.in_range leaf ≡ true → IsTight p p.whole leaf → (n : ℕ) (l : Leaf) → leaf_at (root_nodes p.whole leaf) n ≡ Some l → FitsPart p (part_at (root_nodes p.whole leaf) n) l
root_fits p leaf r t n l e =
    let k = root_leaf p.whole leaf l n e in
    subst (λ (m : ℕ). FitsPart p (part_at (root_nodes p.whole leaf) m) l) (sym k.0) (subst (λ (m : Leaf). FitsPart p p.whole m) (sym k.1) (record { in_range = r; tight = t }))

module _ (p : Problem) (nodes : List Node) (tree : IsTree nodes) (root : part_at nodes 0 ≡ p.whole) (leaves : (n : ℕ) (leaf : Leaf) → leaf_at nodes n ≡ Some leaf → FitsPart p (part_at nodes n) leaf) (first best : Option Best) (valid : IsBest p first) (offers : OfferLeaves p nodes first best) (budget room workers : ℕ) (splits : splits_of nodes ≤ budget) where
  resumed_sound : IsSound p (record { nodes = nodes; held = replicate 16 None; best = best; budget = budget })
  resumed_sound = record {
    tree = tree;
    root = root;
    leaves = leaves;
    best = offers_are p nodes first best offers valid;
    single = λ n leaf x e s m. offers_take p nodes first best offers n leaf x e s m;
    open_leaves = λ w node e. absurd (no_node node (sym (none_in 16 w) ∙ e));
    apart = λ v w node e f. absurd (no_node node (sym (none_in 16 v) ∙ e));
    within = (let none : tickets (replicate 16 None) ≡ 0 = refl in omega arith);
  }

  -- a search that goes on
  pub resumed_kept : (keys : List ℤ) → length keys ≡ 16 → workers ≤ 16 → budget ≤ 100000 → 2 * budget + 1 ≤ room → (waits : List (Option ℤ)) → length waits ≡ room → WaitBelow p nodes (length nodes) waits → IsKept p (record { nodes = nodes; held = replicate 16 None; best = best; budget = budget }) waits keys workers room
  resumed_kept keys ks ws bs rs waits size below = record {
    sound = resumed_sound;
    waiting = all_wait p nodes waits below;
    shown = record { each = λ w node f. absurd (no_node node (sym (none_in 16 w) ∙ f)) };
    queue_room = size;
    enough = rs;
    held_size = refl;
    keys_size = ks;
    few_workers = ws;
    small = bs;
  }
