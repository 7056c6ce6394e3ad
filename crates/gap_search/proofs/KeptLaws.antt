-- Each step keeps the queue of the leaves that wait.

use Rattle.std.proofs.Common.{◌≡◌, ◌≢◌, ℕ, ◌+◌, ◌*◌, ◌<◌, ◌≤◌, ◌⊎◌, inl, inr, List, length, slice_get, slice_index_or, slice_set, Option, Some, None, IsSome, IsTrue, refl, sym, ap, ◌∙◌, subst, arith, ℤ, pos, length-set, get_or-set_same, get_or-set_other}
use Rattle.std.proofs.lemmas.Bool.{cases_eq, cases_lt}
use Rattle.std.proofs.lemmas.List.{get_or_past}
use Rattle.std.proofs.lemmas.Option.{slice_get_within}
use Rattle.gap_box.specs.declared.cell.Cell.{Cell}
use Rattle.gap_box.specs.declared.node.NodeId.{NodeId}
use Rattle.gap_box.specs.declared.split.Split.{Split}
use Rattle.gap_box.specs.declared.split.Side.TheVariants.{First, Second}
use Rattle.gap_box.specs.Splits.{lawful_split, child_cells}
use Rattle.gap_queue.specs.Keys.{key_at, ComesFirst}
use Rattle.gap_model.specs.declared.leaf.Leaf.{Leaf}
use Rattle.gap_model.specs.declared.outcome.Best.{Best}
use Rattle.gap_model.specs.declared.shown.Shown.{Shown}
use Rattle.gap_model.specs.declared.shown.Shown.TheVariants.{Nothing, AtLeast, Empty}
use Rattle.gap_model.specs.Problems.{Problem}
use Rattle.gap_model.specs.Nodes.{Node, splits_of, part_in, part_at, leaf_at, split_nodes}
use Rattle.gap_tree.proofs.ViewLaws.{leaf_node}
use Rattle.gap_search.specs.Boards.{Board, Claimed, node_held, tickets, IsSound}
use Rattle.gap_search.specs.Steps.{Waits, Refusal, closed, Grant, hold, release, with_best, Holds, FitsChild, offered, OfferSingle, Settle}
use Rattle.gap_search.specs.Kept.{AreWaiting, LeafShows, AreKeys, IsKept, enqueued, IsChoice}
use Rattle.gap_search.proofs.HeldLaws.{HeldCase, the_worker, another, held_case, held_same, held_other, worker_there, tickets_less, LeafCase, stays, at_first, at_second, leaf_case, leaf_stays, part_stays, leaf_first_new, part_first_new, leaf_second_new, part_second_new}
use Rattle.gap_search.proofs.BoardLaws.{sound_hold, sound_release, sound_offer, sound_settle}

pub same_number : (a b : ℤ) → AtLeast a ≡ AtLeast b → a ≡ b
same_number a b e = cc

same_key : (a b : ℤ) → Some a ≡ Some b → a ≡ b
same_key a b e = cc

pub same_leaf : (a b : Leaf) → Some a ≡ Some b → a ≡ b
same_leaf a b e = cc

same_id : (a b : NodeId) → Some a ≡ Some b → a ≡ b
same_id a b e = cc

no_key : (a : ℤ) → None ≡ Some a → ⊥
no_key a e = cc

pub no_node : (a : NodeId) → None ≡ Some a → ⊥
no_node a e = cc

key_there : (waits : List (Option ℤ)) (n : ℕ) (key : ℤ) → key_at waits n ≡ Some key → n < length waits
key_there waits n key e = by_length (cases_lt n (length waits)) where
  by_length : (n < length waits) ⊎ (length waits ≤ n) → n < length waits
  by_length (inl p) = p
  by_length (inr p) = absurd (no_key key (sym (get_or_past waits n None p) ∙ e))

pub none_or : (o : Option ℤ) → ((key : ℤ) → o ≡ Some key → ⊥) → o ≡ None
none_or None h = refl
none_or (Some key) h = absurd (h key refl)

-- one leaf shows one number
shows_same : (p : Problem) (nodes : List Node) (n : ℕ) (a b : Leaf) (x y : ℤ) → leaf_at nodes n ≡ Some a → leaf_at nodes n ≡ Some b → p.shows (part_at nodes n) a ≡ AtLeast x → p.shows (part_at nodes n) b ≡ AtLeast y → x ≡ y
shows_same p nodes n a b x y e f g h = same_number x y (sym g ∙ ap (p.shows (part_at nodes n)) (same_leaf a b (sym e ∙ f)) ∙ h)

module _ (p : Problem) (nodes : List Node) (held : List (Option NodeId)) (waits : List (Option ℤ)) (h : AreWaiting p nodes held waits) where
  -- what is held doesn't wait
  pub held_fresh : (w : ℕ) (node : NodeId) → node_held held w ≡ Some node → key_at waits node.0 ≡ None
  held_fresh w node e = none_or (key_at waits node.0) (λ key f. ((h.each node.0 key).0 f).free w node e refl)

  -- a number that no node has doesn't wait
  pub new_fresh : (n : ℕ) → length nodes ≤ n → key_at waits n ≡ None
  new_fresh n l = none_or (key_at waits n) (λ key f. (let k = (h.each n key).0 f in let m = leaf_node nodes n k.leaf k.there in let b = slice_get_within nodes n m.0 m.1 in absurd (omega arith)))

  module _ (w : ℕ) (l : w < length held) (node : NodeId) where
    -- a leaf is taken
    pub waiting_hold : (key : ℤ) → key_at waits node.0 ≡ Some key → node_held held w ≡ None → AreWaiting p nodes (slice_set held w (Some node)) (slice_set waits node.0 None)
    waiting_hold key has free = record { each = λ n k. (there n k (cases_eq n node.0), back n k) } where
      there : (n : ℕ) (k : ℤ) → (n ≡ node.0) ⊎ (n ≡ node.0 → ⊥) → key_at (slice_set waits node.0 None) n ≡ Some k → Waits p nodes (slice_set held w (Some node)) n k
      there n k (inl q) f = absurd (no_key k (sym (get_or-set_same waits node.0 None None (key_there waits node.0 key has)) ∙ ap (key_at (slice_set waits node.0 None)) (sym q) ∙ f))
      there n k (inr q) f =
          let o = (h.each n k).0 (sym (get_or-set_other waits node.0 n None None q) ∙ f) in
          record { leaf = o.leaf; there = o.there; shows = o.shows; free = λ v m e. by_worker o v m (held_case held w (Some node) v m l e) } where
            by_worker : Waits p nodes held n k → (v : ℕ) (m : NodeId) → HeldCase held w (Some node) v m → m.0 ≢ n
            by_worker o v m (the_worker r s) z = q (sym z ∙ ap (λ (i : NodeId). i.0) (sym (same_id node m s)))
            by_worker o v m (another r s) z = o.free v m s z

      back : (n : ℕ) (k : ℤ) → Waits p nodes (slice_set held w (Some node)) n k → key_at (slice_set waits node.0 None) n ≡ Some k
      back n k o =
          let q : n ≢ node.0 = λ z. o.free w node (held_same held w (Some node) l) (sym z) in
          get_or-set_other waits node.0 n None None q ∙ (h.each n k).1 (record { leaf = o.leaf; there = o.there; shows = o.shows; free = λ v m e. by_worker v m e (cases_eq v w) }) where
            by_worker : (v : ℕ) (m : NodeId) → node_held held v ≡ Some m → (v ≡ w) ⊎ (v ≡ w → ⊥) → m.0 ≢ n
            by_worker v m e (inl r) z = no_node m (sym free ∙ ap (node_held held) (sym r) ∙ e)
            by_worker v m e (inr r) z = o.free v m (held_other held w (Some node) v r ∙ e) z

    -- a leaf is given back
    pub waiting_release : (key : ℤ) → node_held held w ≡ Some node → LeafShows p nodes node.0 key → ((v : ℕ) → node_held held v ≡ Some node → v ≡ w) → node.0 < length waits → AreWaiting p nodes (slice_set held w None) (slice_set waits node.0 (Some key))
    waiting_release key mine shown alone room = record { each = λ n k. (there n k (cases_eq n node.0), (λ o. back n k o (cases_eq n node.0))) } where
      free_now : (v : ℕ) (m : NodeId) → node_held (slice_set held w None) v ≡ Some m → m.0 ≢ node.0
      free_now v m e z = by_worker (held_case held w None v m l e) where
        by_worker : HeldCase held w None v m → ⊥
        by_worker (the_worker r s) = no_node m s
        by_worker (another r s) = r (alone v (s ∙ ap (λ (i : ℕ). Some (record { 0 = i })) z))

      mine_now : Waits p nodes (slice_set held w None) node.0 key
      mine_now = record { leaf = shown.leaf; there = shown.there; shows = shown.shows; free = free_now }

      there : (n : ℕ) (k : ℤ) → (n ≡ node.0) ⊎ (n ≡ node.0 → ⊥) → key_at (slice_set waits node.0 (Some key)) n ≡ Some k → Waits p nodes (slice_set held w None) n k
      there n k (inl q) f =
          let e : key ≡ k = same_key key k (sym (get_or-set_same waits node.0 (Some key) None room) ∙ ap (key_at (slice_set waits node.0 (Some key))) (sym q) ∙ f) in
          subst (λ i. Waits p nodes (slice_set held w None) i k) (sym q) (subst (λ j. Waits p nodes (slice_set held w None) node.0 j) e mine_now)
      there n k (inr q) f =
          let o = (h.each n k).0 (sym (get_or-set_other waits node.0 n (Some key) None q) ∙ f) in
          record { leaf = o.leaf; there = o.there; shows = o.shows; free = λ v m e. by_worker o v m (held_case held w None v m l e) } where
            by_worker : Waits p nodes held n k → (v : ℕ) (m : NodeId) → HeldCase held w None v m → m.0 ≢ n
            by_worker o v m (the_worker r s) z = no_node m s
            by_worker o v m (another r s) z = o.free v m s z

      back : (n : ℕ) (k : ℤ) → Waits p nodes (slice_set held w None) n k → (n ≡ node.0) ⊎ (n ≡ node.0 → ⊥) → key_at (slice_set waits node.0 (Some key)) n ≡ Some k
      back n k o (inl q) =
          let o' = subst (λ i. Waits p nodes (slice_set held w None) i k) q o in
          let e = shows_same p nodes node.0 shown.leaf o'.leaf key k shown.there o'.there shown.shows o'.shows in
          ap (key_at (slice_set waits node.0 (Some key))) q ∙ get_or-set_same waits node.0 (Some key) None room ∙ ap Some e
      back n k o (inr q) =
          get_or-set_other waits node.0 n (Some key) None q ∙ (h.each n k).1 (record { leaf = o.leaf; there = o.there; shows = o.shows; free = λ v m e. by_worker v m e (cases_eq v w) }) where
            by_worker : (v : ℕ) (m : NodeId) → node_held held v ≡ Some m → (v ≡ w) ⊎ (v ≡ w → ⊥) → m.0 ≢ n
            by_worker v m e (inl r) z = q (sym z ∙ ap (λ (i : NodeId). i.0) (same_id m node (sym e ∙ ap (node_held held) r ∙ mine)))
            by_worker v m e (inr r) z = o.free v m (held_other held w None v r ∙ e) z

-- a queue after a leaf came
pub length-enqueued : (waits : List (Option ℤ)) (n : ℕ) (s : Shown) → length (enqueued waits n s) ≡ length waits
length-enqueued waits n Nothing = refl
length-enqueued waits n (AtLeast key) = length-set waits n (Some key)
length-enqueued waits n Empty = refl

pub enqueued_other : (waits : List (Option ℤ)) (n : ℕ) (s : Shown) (m : ℕ) → m ≢ n → key_at (enqueued waits n s) m ≡ key_at waits m
enqueued_other waits n Nothing m h = refl
enqueued_other waits n (AtLeast key) m h = get_or-set_other waits n m (Some key) None h
enqueued_other waits n Empty m h = refl

pub enqueued_shows : (waits : List (Option ℤ)) (n : ℕ) (s : Shown) (k : ℤ) → n < length waits → key_at waits n ≡ None → key_at (enqueued waits n s) n ≡ Some k → s ≡ AtLeast k
enqueued_shows waits n Nothing k l e f = absurd (no_key k (sym e ∙ f))
enqueued_shows waits n (AtLeast key) k l e f = ap AtLeast (same_key key k (sym (get_or-set_same waits n (Some key) None l) ∙ f))
enqueued_shows waits n Empty k l e f = absurd (no_key k (sym e ∙ f))

pub enqueued_has : (waits : List (Option ℤ)) (n : ℕ) (s : Shown) (k : ℤ) → n < length waits → s ≡ AtLeast k → key_at (enqueued waits n s) n ≡ Some k
enqueued_has waits n Nothing k l e = cc
enqueued_has waits n (AtLeast key) k l e = get_or-set_same waits n (Some key) None l ∙ ap Some (same_number key k e)
enqueued_has waits n Empty k l e = cc

module _ (p : Problem) (nodes : List Node) (held : List (Option NodeId)) (waits : List (Option ℤ)) (h : AreWaiting p nodes held waits) (old_held : (v : ℕ) (m : NodeId) → node_held held v ≡ Some m → m.0 < length nodes) (w : ℕ) (l : w < length held) (node : NodeId) (mine : node_held held w ≡ Some node) (alone : (v : ℕ) → node_held held v ≡ Some node → v ≡ w) (was : Node) (e : slice_get nodes node.0 ≡ Some was) (split : Split) (first second : Leaf) (room : length nodes + 1 < length waits) where
  abbrev pub queue_after : List (Option ℤ)
  queue_after = enqueued (enqueued waits (length nodes) (p.shows (child_cells was.part split First) first)) (length nodes + 1) (p.shows (child_cells was.part split Second) second)

  held_old : (v : ℕ) (m : NodeId) → node_held (slice_set held w None) v ≡ Some m → (v ≢ w) × (node_held held v ≡ Some m)
  held_old v m f = elim (held_case held w None v m l f) as (λ _. (v ≢ w) × (node_held held v ≡ Some m)) [
    | the_worker q g ↦ absurd (no_node m g)
    | another q g ↦ (q, g)
  ]

  old_key : (n : ℕ) → n ≢ length nodes → n ≢ length nodes + 1 → key_at queue_after n ≡ key_at waits n
  old_key n a b = enqueued_other _ _ (p.shows (child_cells was.part split Second) second) n b ∙ enqueued_other waits _ (p.shows (child_cells was.part split First) first) n a

  mid_length : length (enqueued waits (length nodes) (p.shows (child_cells was.part split First) first)) ≡ length waits
  mid_length = length-enqueued waits (length nodes) (p.shows (child_cells was.part split First) first)

  pub mid_fresh : key_at (enqueued waits (length nodes) (p.shows (child_cells was.part split First) first)) (length nodes + 1) ≡ None
  mid_fresh = enqueued_other waits _ (p.shows (child_cells was.part split First) first) (length nodes + 1) (omega arith) ∙ new_fresh p nodes held waits h (length nodes + 1) (omega arith)

  there : (n : ℕ) (k : ℤ) → key_at queue_after n ≡ Some k → Waits p (split_nodes nodes node.0 split first second) (slice_set held w None) n k
  there n k f = by_place (cases_eq n (length nodes + 1)) (cases_eq n (length nodes)) where
    by_place : (n ≡ length nodes + 1) ⊎ (n ≡ length nodes + 1 → ⊥) → (n ≡ length nodes) ⊎ (n ≡ length nodes → ⊥) → Waits p (split_nodes nodes node.0 split first second) (slice_set held w None) n k
    by_place (inl q) _ =
        let m = mid_length in
        let s = enqueued_shows _ (length nodes + 1) (p.shows (child_cells was.part split Second) second) k (omega arith) mid_fresh (ap (key_at queue_after) (sym q) ∙ f) in
        record {
          leaf = second;
          there = ap (leaf_at (split_nodes nodes node.0 split first second)) q ∙ leaf_second_new nodes node.0 was e split first second;
          shows = ap (λ i. p.shows (part_at (split_nodes nodes node.0 split first second) i) second) q ∙ ap (λ c. p.shows c second) (part_second_new nodes node.0 was e split first second) ∙ s;
          free = λ v m g z. (let o = old_held v m (held_old v m g).1 in absurd (omega arith));
        }
    by_place (inr a) (inl q) =
        let s = enqueued_shows waits (length nodes) (p.shows (child_cells was.part split First) first) k (omega arith) (new_fresh p nodes held waits h (length nodes) (omega arith)) (ap (key_at (enqueued waits (length nodes) (p.shows (child_cells was.part split First) first))) (sym q) ∙ sym (enqueued_other _ _ (p.shows (child_cells was.part split Second) second) n a) ∙ f) in
        record {
          leaf = first;
          there = ap (leaf_at (split_nodes nodes node.0 split first second)) q ∙ leaf_first_new nodes node.0 was e split first second;
          shows = ap (λ i. p.shows (part_at (split_nodes nodes node.0 split first second) i) first) q ∙ ap (λ c. p.shows c first) (part_first_new nodes node.0 was e split first second) ∙ s;
          free = λ v m g z. (let o = old_held v m (held_old v m g).1 in absurd (omega arith));
        }
    by_place (inr a) (inr b) =
        let o = (h.each n k).0 (sym (old_key n b a) ∙ f) in
        let d : n ≢ node.0 = λ z. o.free w node mine (sym z) in
        record {
          leaf = o.leaf;
          there = leaf_stays nodes node.0 was e split first second n o.leaf d o.there;
          shows = ap (λ c. p.shows c o.leaf) (part_stays nodes node.0 was e split first second n o.leaf d o.there) ∙ o.shows;
          free = λ v m g z. o.free v m (held_old v m g).1 z;
        }

  back : (n : ℕ) (k : ℤ) → Waits p (split_nodes nodes node.0 split first second) (slice_set held w None) n k → key_at queue_after n ≡ Some k
  back n k o = by_case (leaf_case nodes node.0 was e split first second n o.leaf o.there) where
    old_free : (v : ℕ) (m : NodeId) → n ≢ node.0 → node_held held v ≡ Some m → m.0 ≢ n
    old_free v m d g z = by_worker (cases_eq v w) where
      by_worker : (v ≡ w) ⊎ (v ≡ w → ⊥) → ⊥
      by_worker (inl r) = d (sym z ∙ ap (λ (i : NodeId). i.0) (same_id m node (sym g ∙ ap (node_held held) r ∙ mine)))
      by_worker (inr r) = o.free v m (held_other held w None v r ∙ g) z

    by_case : LeafCase nodes (split_nodes nodes node.0 split first second) node.0 (child_cells was.part split First) (child_cells was.part split Second) first second n o.leaf → key_at queue_after n ≡ Some k
    by_case (stays d g q) =
        let m = leaf_node nodes n o.leaf g in
        let b = slice_get_within nodes n m.0 m.1 in
        old_key n (omega arith) (omega arith) ∙ (h.each n k).1 (record { leaf = o.leaf; there = g; shows = ap (λ c. p.shows c o.leaf) (sym q) ∙ o.shows; free = λ v m f. old_free v m d f })
    by_case (at_first q g r) =
        let s : p.shows (child_cells was.part split First) first ≡ AtLeast k = ap (λ c. p.shows c first) (sym r) ∙ ap (p.shows (part_at (split_nodes nodes node.0 split first second) n)) (sym g) ∙ o.shows in
        ap (key_at queue_after) q ∙ enqueued_other _ _ (p.shows (child_cells was.part split Second) second) (length nodes) (omega arith) ∙ enqueued_has waits (length nodes) (p.shows (child_cells was.part split First) first) k (omega arith) s
    by_case (at_second q g r) =
        let m = mid_length in
        let s : p.shows (child_cells was.part split Second) second ≡ AtLeast k = ap (λ c. p.shows c second) (sym r) ∙ ap (p.shows (part_at (split_nodes nodes node.0 split first second) n)) (sym g) ∙ o.shows in
        ap (key_at queue_after) q ∙ enqueued_has _ (length nodes + 1) (p.shows (child_cells was.part split Second) second) k (omega arith) s

  -- a leaf is split
  pub waiting_settle : AreWaiting p (split_nodes nodes node.0 split first second) (slice_set held w None) queue_after
  waiting_settle = record { each = λ n k. (there n k, back n k) }

-- what is held is a node
pub held_there : (p : Problem) (b : Board) → IsSound p b → (v : ℕ) (m : NodeId) → node_held b.held v ≡ Some m → m.0 < length b.nodes
held_there p b h v m e = let o = h.open_leaves v m e in let k = leaf_node b.nodes m.0 o.leaf o.there in slice_get_within b.nodes m.0 k.0 k.1

-- there is room for each node
pub nodes_fit : (p : Problem) (b : Board) → IsSound p b → length b.nodes ≤ 2 * b.budget + 1
nodes_fit p b h = let n = h.tree.number in let w = h.within in omega arith

module _ (p : Problem) (b : Board) (waits : List (Option ℤ)) (keys : List ℤ) (workers room : ℕ) (h : IsKept p b waits keys workers room) where
  pub kept_offer : (x : List ℕ) → IsKept p (with_best b (offered p b.best x)) waits keys workers room
  kept_offer x = record { sound = sound_offer p b x h.sound; waiting = h.waiting; shown = h.shown; queue_room = h.queue_room; enough = h.enough; held_size = h.held_size; keys_size = h.keys_size; few_workers = h.few_workers; small = h.small }

  module _ (w : ℕ) (l : w < length b.held) (node : NodeId) where
    pub give_room : node_held b.held w ≡ Some node → node.0 < length waits
    give_room e = let t = held_there p b h.sound w node e in let n = nodes_fit p b h.sound in let r = h.queue_room in let s = h.enough in omega arith

    release_shown : AreKeys p b.nodes (slice_set b.held w None) keys
    release_shown = record { each = λ v m e. by_worker v m (held_case b.held w None v m l e) } where
      by_worker : (v : ℕ) (m : NodeId) → HeldCase b.held w None v m → LeafShows p b.nodes m.0 (slice_index_or keys v (pos 0))
      by_worker v m (the_worker r s) = absurd (no_node m s)
      by_worker v m (another r s) = h.shown.each v m s

    pub kept_release : node_held b.held w ≡ Some node → IsKept p (release b w) (slice_set waits node.0 (Some (slice_index_or keys w (pos 0)))) keys workers room
    kept_release e = record {
      sound = sound_release p b h.sound w l node e;
      waiting = waiting_release p b.nodes b.held waits h.waiting w l node (slice_index_or keys w (pos 0)) e (h.shown.each w node e) (λ v f. h.sound.apart v w node f e) (give_room e);
      shown = release_shown;
      queue_room = length-set waits node.0 _ ∙ h.queue_room;
      enough = h.enough;
      held_size = length-set b.held w None ∙ h.held_size;
      keys_size = h.keys_size;
      few_workers = h.few_workers;
      small = h.small;
    }

    module _ (key : ℤ) (choice : IsChoice waits b.best (Some (node, key))) (free : node_held b.held w ≡ None) (left : splits_of b.nodes + tickets b.held < b.budget) where
      pub granted : Grant p b w node
      granted = record {
        key = key;
        waits = (h.waiting.each node.0 key).0 choice.1;
        least = λ m other o. subst (λ z. ComesFirst z node.0 other m) (same_key choice.0.key key (sym choice.0.has ∙ choice.1)) (choice.0.least m other ((h.waiting.each m other).1 o));
        below = choice.2;
        left = left;
        free = free;
      }

      pub choice_there : node.0 < length b.nodes
      choice_there = let o = (h.waiting.each node.0 key).0 choice.1 in let k = leaf_node b.nodes node.0 o.leaf o.there in slice_get_within b.nodes node.0 k.0 k.1

      hold_shown : AreKeys p b.nodes (slice_set b.held w (Some node)) (slice_set keys w key)
      hold_shown = record { each = λ v m e. by_worker v m (held_case b.held w (Some node) v m l e) } where
        by_worker : (v : ℕ) (m : NodeId) → HeldCase b.held w (Some node) v m → LeafShows p b.nodes m.0 (slice_index_or (slice_set keys w key) v (pos 0))
        by_worker v m (the_worker r s) =
            let o = (h.waiting.each node.0 key).0 choice.1 in
            let q : slice_index_or (slice_set keys w key) v (pos 0) ≡ key = ap (λ i. slice_index_or (slice_set keys w key) i (pos 0)) r ∙ get_or-set_same keys w key (pos 0) (let a = h.held_size in let b = h.keys_size in omega arith) in
            subst (λ (i : NodeId). LeafShows p b.nodes i.0 (slice_index_or (slice_set keys w key) v (pos 0))) (same_id node m s) (record { leaf = o.leaf; there = o.there; shows = o.shows ∙ ap AtLeast (sym q) })
        by_worker v m (another r s) =
            let o = h.shown.each v m s in
            record { leaf = o.leaf; there = o.there; shows = o.shows ∙ ap AtLeast (sym (get_or-set_other keys w v key (pos 0) r)) }

      pub kept_hold : IsKept p (hold b w node) (slice_set waits node.0 None) (slice_set keys w key) workers room
      kept_hold = record {
        sound = sound_hold p b h.sound w l node granted;
        waiting = waiting_hold p b.nodes b.held waits h.waiting w l node key choice.1 free;
        shown = hold_shown;
        queue_room = length-set waits node.0 None ∙ h.queue_room;
        enough = h.enough;
        held_size = length-set b.held w (Some node) ∙ h.held_size;
        keys_size = length-set keys w key ∙ h.keys_size;
        few_workers = h.few_workers;
        small = h.small;
      }

  -- nothing that waits shows less than the best
  pub refused : IsChoice waits b.best None → (w : ℕ) → Refusal p b w
  refused choice w = closed (λ n key o. choice n key ((h.waiting.each n key).1 o))

  module _ (c : Claimed) (holds : Holds b c) (split : Split) (lawful : IsTrue (lawful_split c.part split)) (first second : Leaf) (f : FitsChild p b c (child_cells c.part split First) first) (s : FitsChild p b c (child_cells c.part split Second) second) where
    settle_was : (node : Node) × (slice_get b.nodes c.node.0 ≡ Some node) × (node.part ≡ c.part)
    settle_was =
        let o = h.sound.open_leaves c.worker c.node holds.held in
        let k = leaf_node b.nodes c.node.0 o.leaf o.there in
        (k.0, k.1, sym (holds.part ∙ ap part_in k.1))

    pub settle_room : length b.nodes + 2 ≤ room
    settle_room =
        let n = h.sound.tree.number in let w = h.sound.within in let e = h.enough in
        let t = tickets_one b.held c.worker c.node holds.held in omega arith where
          tickets_one : (held : List (Option NodeId)) (w : ℕ) (node : NodeId) → node_held held w ≡ Some node → 1 ≤ tickets held
          tickets_one held w node e = let k = tickets_less held w node (worker_there held w node e) e in omega arith

    pub first_fresh : key_at waits (length b.nodes) ≡ None
    first_fresh = new_fresh p b.nodes b.held waits h.waiting (length b.nodes) (omega arith)

    pub second_fresh : key_at (enqueued waits (length b.nodes) (p.shows (child_cells c.part split First) first)) (length b.nodes + 1) ≡ None
    second_fresh = enqueued_other waits _ (p.shows (child_cells c.part split First) first) (length b.nodes + 1) (omega arith) ∙ new_fresh p b.nodes b.held waits h.waiting (length b.nodes + 1) (omega arith)

    settle_waiting : AreWaiting p (split_nodes b.nodes c.node.0 split first second) (slice_set b.held c.worker None) (enqueued (enqueued waits (length b.nodes) (p.shows (child_cells c.part split First) first)) (length b.nodes + 1) (p.shows (child_cells c.part split Second) second))
    settle_waiting =
        let k = settle_was in
        let r : length b.nodes + 1 < length waits = let a = settle_room in let q = h.queue_room in omega arith in
        subst (λ q. AreWaiting p (split_nodes b.nodes c.node.0 split first second) (slice_set b.held c.worker None) (enqueued (enqueued waits (length b.nodes) (p.shows (child_cells q split First) first)) (length b.nodes + 1) (p.shows (child_cells q split Second) second))) k.2
        (waiting_settle p b.nodes b.held waits h.waiting (held_there p b h.sound) c.worker holds.worker c.node holds.held (λ v e. h.sound.apart v c.worker c.node e holds.held) k.0 k.1 split first second r)

    settle_shown : AreKeys p (split_nodes b.nodes c.node.0 split first second) (slice_set b.held c.worker None) keys
    settle_shown = record { each = λ v m e. by_worker v m (held_case b.held c.worker None v m holds.worker e) } where
      by_worker : (v : ℕ) (m : NodeId) → HeldCase b.held c.worker None v m → LeafShows p (split_nodes b.nodes c.node.0 split first second) m.0 (slice_index_or keys v (pos 0))
      by_worker v m (the_worker r q) = absurd (no_node m q)
      by_worker v m (another r q) =
          let k = settle_was in
          let o = h.shown.each v m q in
          let n : m.0 ≢ c.node.0 = λ z. r (h.sound.apart v c.worker c.node (q ∙ ap (λ (i : ℕ). Some (record { 0 = i })) z) holds.held) in
          record {
            leaf = o.leaf;
            there = leaf_stays b.nodes c.node.0 k.0 k.1 split first second m.0 o.leaf n o.there;
            shows = ap (λ d. p.shows d o.leaf) (part_stays b.nodes c.node.0 k.0 k.1 split first second m.0 o.leaf n o.there) ∙ o.shows;
          }

    pub kept_settle : (best : Option Best) → Settle p b c split first second (record { nodes = split_nodes b.nodes c.node.0 split first second; held = slice_set b.held c.worker None; best = best; budget = b.budget }) → IsKept p (record { nodes = split_nodes b.nodes c.node.0 split first second; held = slice_set b.held c.worker None; best = best; budget = b.budget }) (enqueued (enqueued waits (length b.nodes) (p.shows (child_cells c.part split First) first)) (length b.nodes + 1) (p.shows (child_cells c.part split Second) second)) keys workers room
    kept_settle best t = record {
      sound = sound_settle p b h.sound c holds split lawful first second f s _ t;
      waiting = settle_waiting;
      shown = settle_shown;
      queue_room = length-enqueued _ _ (p.shows (child_cells c.part split Second) second) ∙ length-enqueued waits _ (p.shows (child_cells c.part split First) first) ∙ h.queue_room;
      enough = h.enough;
      held_size = length-set b.held c.worker None ∙ h.held_size;
      keys_size = h.keys_size;
      few_workers = h.few_workers;
      small = h.small;
    }

-- the same for what the calls say
module _ (p : Problem) (b : Board) (waits : List (Option ℤ)) (keys : List ℤ) (workers room : ℕ) (h : IsKept p b waits keys workers room) where
  pub kept_offer_at : (x : List ℕ) (best : Option Best) → best ≡ offered p b.best x → IsKept p (record { nodes = b.nodes; held = b.held; best = best; budget = b.budget }) waits keys workers room
  kept_offer_at x best e = subst (λ (o : Option Best). IsKept p (record { nodes = b.nodes; held = b.held; best = o; budget = b.budget }) waits keys workers room) (sym e) (kept_offer p b waits keys workers room h x)

  pub kept_release_at : (w : ℕ) (l : w < length b.held) (node : NodeId) → node_held b.held w ≡ Some node → (held : List (Option NodeId)) (after : List (Option ℤ)) (key : ℤ) → held ≡ slice_set b.held w None → after ≡ slice_set waits node.0 (Some key) → key ≡ slice_index_or keys w (pos 0) → IsKept p (record { nodes = b.nodes; held = held; best = b.best; budget = b.budget }) after keys workers room
  kept_release_at w l node e held after key he we ke =
      subst (λ (o : List (Option NodeId)). IsKept p (record { nodes = b.nodes; held = o; best = b.best; budget = b.budget }) after keys workers room) (sym he)
      (subst (λ (o : List (Option ℤ)). IsKept p (release b w) o keys workers room) (sym (we ∙ ap (λ k. slice_set waits node.0 (Some k)) ke)) (kept_release p b waits keys workers room h w l node e))

  pub kept_hold_at : (w : ℕ) (l : w < length b.held) (node : NodeId) (key : ℤ) → IsChoice waits b.best (Some (node, key)) → node_held b.held w ≡ None → splits_of b.nodes + tickets b.held < b.budget → (held : List (Option NodeId)) (after : List (Option ℤ)) (now : List ℤ) → held ≡ slice_set b.held w (Some node) → after ≡ slice_set waits node.0 None → now ≡ slice_set keys w key → IsKept p (record { nodes = b.nodes; held = held; best = b.best; budget = b.budget }) after now workers room
  kept_hold_at w l node key choice free left held after now he we ke =
      subst (λ (o : List (Option NodeId)). IsKept p (record { nodes = b.nodes; held = o; best = b.best; budget = b.budget }) after now workers room) (sym he)
      (subst (λ (o : List (Option ℤ)). IsKept p (hold b w node) o now workers room) (sym we) (subst (λ (o : List ℤ). IsKept p (hold b w node) (slice_set waits node.0 None) o workers room) (sym ke) (kept_hold p b waits keys workers room h w l node key choice free left)))

  module _ (c : Claimed) (holds : Holds b c) (split : Split) (lawful : IsTrue (lawful_split c.part split)) (first second : Leaf) (f : FitsChild p b c (child_cells c.part split First) first) (s : FitsChild p b c (child_cells c.part split Second) second) where
    pub settle_step : (one_part two_part : List Cell) (middle best : Option Best) → one_part ≡ child_cells c.part split First → two_part ≡ child_cells c.part split Second → OfferSingle p one_part b.best middle → OfferSingle p two_part middle best → Settle p b c split first second (record { nodes = split_nodes b.nodes c.node.0 split first second; held = slice_set b.held c.worker None; best = best; budget = b.budget })
    settle_step one_part two_part middle best e g i j = record {
      middle = middle;
      offer_first = subst (λ q. OfferSingle p q b.best middle) e i;
      offer_second = subst (λ q. OfferSingle p q middle best) g j;
      nodes = refl;
      held = refl;
      budget = refl;
    }

    pub kept_settle_at : (one_part two_part : List Cell) (middle best : Option Best) (one_node two_node : ℕ) (nodes : List Node) (held : List (Option NodeId)) (mid after : List (Option ℤ)) (space : ℕ) (one_shown two_shown : Shown) → one_part ≡ child_cells c.part split First → two_part ≡ child_cells c.part split Second → OfferSingle p one_part b.best middle → OfferSingle p two_part middle best → one_node ≡ length b.nodes → two_node ≡ length b.nodes + 1 → nodes ≡ split_nodes b.nodes c.node.0 split first second → held ≡ slice_set b.held c.worker None → mid ≡ enqueued waits one_node one_shown → after ≡ enqueued mid two_node two_shown → space ≡ room → p.shows (child_cells c.part split First) first ≡ one_shown → p.shows (child_cells c.part split Second) second ≡ two_shown → IsKept p (record { nodes = nodes; held = held; best = best; budget = b.budget }) after keys workers space
    kept_settle_at one_part two_part middle best one_node two_node nodes held mid after space one_shown two_shown e g i j m n ne he qe re se f1 f2 =
        let k = kept_settle p b waits keys workers room h c holds split lawful first second f s best (settle_step one_part two_part middle best e g i j) in
        let q1 : mid ≡ enqueued waits (length b.nodes) (p.shows (child_cells c.part split First) first) = qe ∙ ap (λ (x : ℕ). enqueued waits x one_shown) m ∙ ap (λ (x : Shown). enqueued waits (length b.nodes) x) (sym f1) in
        let q2 : after ≡ enqueued (enqueued waits (length b.nodes) (p.shows (child_cells c.part split First) first)) (length b.nodes + 1) (p.shows (child_cells c.part split Second) second) = re ∙ ap (λ (x : List (Option ℤ)). enqueued x two_node two_shown) q1 ∙ ap (λ (x : ℕ). enqueued (enqueued waits (length b.nodes) (p.shows (child_cells c.part split First) first)) x two_shown) n ∙ ap (λ (x : Shown). enqueued (enqueued waits (length b.nodes) (p.shows (child_cells c.part split First) first)) (length b.nodes + 1) x) (sym f2) in
        subst (λ (o : ℕ). IsKept p (record { nodes = nodes; held = held; best = best; budget = b.budget }) after keys workers o) (sym se)
        (subst (λ (o : List Node). IsKept p (record { nodes = o; held = held; best = best; budget = b.budget }) after keys workers room) (sym ne)
        (subst (λ (o : List (Option NodeId)). IsKept p (record { nodes = split_nodes b.nodes c.node.0 split first second; held = o; best = best; budget = b.budget }) after keys workers room) (sym he)
        (subst (λ (o : List (Option ℤ)). IsKept p (record { nodes = split_nodes b.nodes c.node.0 split first second; held = slice_set b.held c.worker None; best = best; budget = b.budget }) o keys workers room) (sym q2) k)))

-- a leaf that is there is one
pub is_leaf : (o : Option Leaf) (leaf : Leaf) → o ≡ Some leaf → IsSome o
is_leaf o leaf e = subst (λ (z : Option Leaf). IsSome z) (sym e) refl

-- the second new number is free where the first was taken
pub second_is_fresh : (waits mid : List (Option ℤ)) (one two size : ℕ) (s : Shown) → mid ≡ enqueued waits one s → one ≡ size → two ≡ size + 1 → key_at waits (size + 1) ≡ None → key_at mid two ≡ None
second_is_fresh waits mid one two size s e f g h = ap (λ (l : List (Option ℤ)). key_at l two) e ∙ enqueued_other waits one s two (omega arith) ∙ ap (key_at waits) g ∙ h
