-- What stays where it was while a search goes on.

use Rattle.std.proofs.Common.{◌≡◌, ℕ, ◌+◌, ◌⊎◌, inl, inr, List, [], ◌∷◌, length, slice_get, Option, Some, None, refl, sym, ap, ◌∙◌, subst, arith}
use Rattle.std.proofs.lemmas.Bool.{cases_eq}
use Rattle.std.proofs.lemmas.Option.{slice_get_within}
use Rattle.gap_box.specs.declared.split.Split.{Split}
use Rattle.gap_model.specs.declared.leaf.Leaf.{Leaf}
use Rattle.gap_model.specs.Problems.{Problem}
use Rattle.gap_model.specs.Nodes.{Fate, ends, forks, Node, with_fate, split_nodes}
use Rattle.gap_tree.proofs.ListLaws.{split_other, split_here}
use Rattle.gap_tree.proofs.ViewLaws.{leaf_node}
use Rattle.gap_search.specs.Boards.{Board, IsSound}
use Rattle.gap_search.specs.Steps.{Event, claims, settles, gives_back, offers, Step, Run}
use Rattle.gap_search.specs.Stays.{NodeStays, as_it_was, now_forks, StaysAt, Stays}
use Rattle.gap_search.proofs.BoardLaws.{sound_step}

same_node : (a b : Node) → Some a ≡ Some b → a ≡ b
same_node a b e = cc

forks_end : (fate : Fate) (split : Split) (k : ℕ) (leaf : Leaf) → fate ≡ forks split k → fate ≡ ends leaf → ⊥
forks_end fate split k leaf e f = cc

forked_twice : (was : Node) (s t : Split) (i j : ℕ) → with_fate (forks t j) (with_fate (forks s i) was) ≡ with_fate (forks t j) was
forked_twice was s t i j = refl

pub stays_same : (old new : List Node) → new ≡ old → Stays old new
stays_same old new e = record { each = λ n node f. record { node = node; there = ap (λ (z : List Node). slice_get z n) e ∙ f; stays = as_it_was refl } }

both_stay : (a b c : Node) → NodeStays a b → NodeStays b c → NodeStays a c
both_stay a b c (as_it_was e) (as_it_was f) = as_it_was (f ∙ e)
both_stay a b c (as_it_was e) (now_forks leaf split first f g) = now_forks leaf split first (ap (λ (z : Node). z.fate) (sym e) ∙ f) (g ∙ ap (with_fate (forks split first)) e)
both_stay a b c (now_forks leaf split first e f) (as_it_was g) = now_forks leaf split first e (g ∙ f)
both_stay a b c (now_forks leaf split first e f) (now_forks other again k g h) = absurd (forks_end b.fate split first other (ap (λ (z : Node). z.fate) f) g)

pub stays_on : (a b c : List Node) → Stays a b → Stays b c → Stays a c
stays_on a b c h k = record { each = λ n node e. (let s = h.each n node e in let t = k.each n s.node s.there in record { node = t.node; there = t.there; stays = both_stay node s.node t.node s.stays t.stays }) }

-- a leaf is split
split_stays : (nodes : List Node) (n : ℕ) (leaf : Leaf) (was : Node) → slice_get nodes n ≡ Some was → was.fate ≡ ends leaf → (split : Split) (first second : Leaf) → Stays nodes (split_nodes nodes n split first second)
split_stays nodes n leaf was e f split first second = record { each = λ m node g. by_place m node g (cases_eq m n) } where
  by_place : (m : ℕ) (node : Node) → slice_get nodes m ≡ Some node → (m ≡ n) ⊎ (m ≡ n → ⊥) → StaysAt m node (split_nodes nodes n split first second)
  by_place m node g (inl q) =
      let i = same_node node was (sym g ∙ ap (slice_get nodes) q ∙ e) in
      record {
        node = with_fate (forks split (length nodes)) was;
        there = ap (slice_get (split_nodes nodes n split first second)) q ∙ split_here nodes n was e split first second;
        stays = now_forks leaf split (length nodes) (ap (λ (z : Node). z.fate) i ∙ f) (ap (with_fate (forks split (length nodes))) (sym i));
      }
  by_place m node g (inr q) = record {
    node = node;
    there = split_other nodes n was e split first second m (slice_get_within nodes m node g) q ∙ g;
    stays = as_it_was refl;
  }

stays_step : (p : Problem) (old : Board) (event : Event) (new : Board) → IsSound p old → Step p old event new → Stays old.nodes new.nodes
stays_step p old (claims w None) new h s = stays_same old.nodes new.nodes (ap (λ (b : Board). b.nodes) s.1.1)
stays_step p old (claims w (Some c)) new h s = stays_same old.nodes new.nodes (ap (λ (b : Board). b.nodes) s.1.3)
stays_step p old (settles c split first second) new h s =
    let o = h.open_leaves c.worker c.node s.0.held in
    let was = leaf_node old.nodes c.node.0 o.leaf o.there in
    subst (λ (z : List Node). Stays old.nodes z) (sym s.4.nodes) (split_stays old.nodes c.node.0 o.leaf was.0 was.1 was.2 split first second)
stays_step p old (gives_back c) new h s = stays_same old.nodes new.nodes (ap (λ (b : Board). b.nodes) s.1)
stays_step p old (offers x) new h s = stays_same old.nodes new.nodes (ap (λ (b : Board). b.nodes) s)

-- however a search goes on, what was there stays
pub stays_run : (p : Problem) (old : Board) (events : List Event) (new : Board) → IsSound p old → Run p old events new → Stays old.nodes new.nodes
stays_run p old [] new h r = stays_same old.nodes new.nodes (ap (λ (b : Board). b.nodes) r)
stays_run p old (event ∷ events) new h r = stays_on old.nodes r.0.nodes new.nodes (stays_step p old event r.0 h r.1) (stays_run p r.0 events new (sound_step p old event r.0 h r.1) r.2)
