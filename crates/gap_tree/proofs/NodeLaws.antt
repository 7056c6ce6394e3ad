-- The nodes that links stand for, after a leaf was split or got another leaf.

use Rattle.std.proofs.Common.{◌≡◌, ℕ, zero, suc, ◌+◌, ◌<◌, ◌≤◌, List, [], ◌∷◌, ◌++◌, length, slice_get, slice_index_or, slice_set, Option, Some, None, IsTrue, refl, sym, ap, ◌∙◌, subst, arith, ◌⊎◌, inl, inr, append_assoc, length-append, length-set}
use Rattle.std.proofs.lemmas.Option.{slice_get_within}
use Rattle.std.proofs.lemmas.Bool.{cases_lt, cases_eq}
use Rattle.std.proofs.lemmas.List.{get_or_append_left, map-append}
use Rattle.gap_box.specs.declared.cell.Cell.{Cell}
use Rattle.gap_box.specs.declared.node.NodeId.{NodeId}
use Rattle.gap_box.specs.declared.split.Split.{Split}
use Rattle.gap_box.specs.declared.split.Side.TheVariants.{First, Second}
use Rattle.gap_box.specs.Splits.{lawful_split, child_cells}
use Rattle.gap_box.specs.Narrow.{narrowed}
use Rattle.gap_box.proofs.NarrowLaws.{narrowed_child}
use Rattle.gap_model.specs.declared.leaf.Leaf.{Leaf}
use Rattle.gap_model.specs.Nodes.{Fate, ends, forks, Node, part_in, part_at, refated, new_leaf, split_nodes, leaf_nodes, root_nodes}
use Rattle.gap_tree.specs.declared.link.Up.{Up}
use Rattle.gap_tree.specs.declared.link.Link.{Link}
use Rattle.gap_tree.specs.Links.{up_in, up_at, split_of_up, split_above, grown, ups_of, parts_of, parent_from, fate_from, node_from, nodes_from, nodes_of, IsBefore, AreOrdered, AreThere, AreLinks, with_first, with_leaf, child_link}
use Rattle.gap_tree.proofs.GrowLaws.{grown-append, length-parts, up_place, up_place_map, length-ups}
use Rattle.gap_tree.proofs.ListLaws.{get-append_left, get-append_first, get-append_second}

length-from : (all ls : List Link) (ps : List (List Cell)) → length ps ≡ length ls → length (nodes_from all ls ps) ≡ length ls
length-from all [] ps e = refl
length-from all (l ∷ ls) [] e = absurd (omega arith)
length-from all (l ∷ ls) (p ∷ ps) e = ap suc (length-from all ls ps (omega arith))

get-from : (all ls : List Link) (ps : List (List Cell)) (n : ℕ) (link : Link) (d : List Cell) → length ps ≡ length ls → slice_get ls n ≡ Some link → slice_get (nodes_from all ls ps) n ≡ Some (node_from all link (slice_index_or ps n d))
get-from all [] ps n link d e f = cc
get-from all (l ∷ ls) [] n link d e f = absurd (omega arith)
get-from all (l ∷ ls) (p ∷ ps) zero link d e f = let q : l ≡ link = cc in ap (λ k. Some (node_from all k p)) q
get-from all (l ∷ ls) (p ∷ ps) (suc n) link d e f = get-from all ls ps n link d (omega arith) f

from-append : (all ls ms : List Link) (ps qs : List (List Cell)) → length ps ≡ length ls → nodes_from all (ls ++ ms) (ps ++ qs) ≡ nodes_from all ls ps ++ nodes_from all ms qs
from-append all [] ms [] qs e = refl
from-append all [] ms (p ∷ ps) qs e = absurd (omega arith)
from-append all (l ∷ ls) ms [] qs e = absurd (omega arith)
from-append all (l ∷ ls) ms (p ∷ ps) qs e = ap (λ r. node_from all l p ∷ r) (from-append all ls ms ps qs (omega arith))

-- the other links have the fates that they had
abbrev pub SameFates : List Link → List Link → List Link → Type 0
SameFates all now ls = (m : ℕ) (link : Link) → slice_get ls m ≡ Some link → fate_from now link.first link.leaf ≡ fate_from all link.first link.leaf

from-same : (all now ls : List Link) (ps : List (List Cell)) → SameFates all now ls → nodes_from now ls ps ≡ nodes_from all ls ps
from-same all now [] ps h = refl
from-same all now (l ∷ ls) [] h = refl
from-same all now (l ∷ ls) (p ∷ ps) h = ap (λ f. record { part = p; parent = parent_from l.up; fate = f } ∷ nodes_from now ls ps) (h 0 l refl) ∙ ap (λ r. node_from all l p ∷ r) (from-same all now ls ps (λ m k e. h (suc m) k e))

from-set : (all now ls : List Link) (ps : List (List Cell)) (n : ℕ) (was link : Link) (fate : Fate) → length ps ≡ length ls → slice_get ls n ≡ Some was → link.up ≡ was.up → fate_from now link.first link.leaf ≡ fate → SameFates all now ls → nodes_from now (slice_set ls n link) ps ≡ refated fate (nodes_from all ls ps) n
from-set all now [] ps n was link fate e f u g h = cc
from-set all now (l ∷ ls) [] n was link fate e f u g h = absurd (omega arith)
from-set all now (l ∷ ls) (p ∷ ps) zero was link fate e f u g h =
    let q : was ≡ l = cc in
    ap (λ r. node_from now link p ∷ r) (from-same all now ls ps (λ m k e. h (suc m) k e))
    ∙ ap (λ (z : Fate). record { part = p; parent = parent_from link.up; fate = z } ∷ nodes_from all ls ps) g
    ∙ ap (λ (z : Option Up). record { part = p; parent = parent_from z; fate = fate } ∷ nodes_from all ls ps) (u ∙ ap (λ k. k.up) q)
from-set all now (l ∷ ls) (p ∷ ps) (suc n) was link fate e f u g h =
    ap (λ z. record { part = p; parent = parent_from l.up; fate = z } ∷ nodes_from now (slice_set ls n link) ps) (h 0 l refl)
    ∙ ap (λ r. node_from all l p ∷ r) (from-set all now ls ps n was link fate (omega arith) f u g (λ m k e. h (suc m) k e))

ups-set : (ls : List Link) (n : ℕ) (was link : Link) → slice_get ls n ≡ Some was → link.up ≡ was.up → ups_of (slice_set ls n link) ≡ ups_of ls
ups-set [] n was link e u = cc
ups-set (l ∷ ls) zero was link e u = let q : was ≡ l = cc in ap (λ z. z ∷ ups_of ls) (u ∙ ap (λ k. k.up) q)
ups-set (l ∷ ls) (suc n) was link e u = ap (λ r. l.up ∷ r) (ups-set ls n was link e u)

-- decisions by place depend on the decisions alone
pub up_at_same : (ls ms : List Link) (m : ℕ) → slice_get (ups_of ls) m ≡ slice_get (ups_of ms) m → up_at ls m ≡ up_at ms m
up_at_same ls ms m e = sym (up_place_map ls m) ∙ ap up_place e ∙ up_place_map ms m

pub length-nodes : (root : List Cell) (links : List Link) → length (nodes_of root links) ≡ length links
unfolding nodes_of
length-nodes root links = length-from links links (parts_of root links) (length-parts root links)

-- the node of a link
pub node_at : (root : List Cell) (links : List Link) (n : ℕ) (link : Link) → slice_get links n ≡ Some link → slice_get (nodes_of root links) n ≡ Some (node_from links link (slice_index_or (parts_of root links) n root))
unfolding nodes_of
node_at root links n link e = get-from links links (parts_of root links) n link root (length-parts root links) e

pub part_at_is : (root : List Cell) (links : List Link) (n : ℕ) → n < length links → part_at (nodes_of root links) n ≡ slice_index_or (parts_of root links) n root
part_at_is root links n h = by_link (slice_get links n) refl where
  by_link : (o : Option Link) → slice_get links n ≡ o → part_at (nodes_of root links) n ≡ slice_index_or (parts_of root links) n root
  by_link None e = absurd (no_link links n h e) where
    no_link : (ls : List Link) (m : ℕ) → m < length ls → slice_get ls m ≡ None → ⊥
    no_link [] m h e = omega arith
    no_link (l ∷ ls) zero h e = cc
    no_link (l ∷ ls) (suc m) h e = no_link ls m (omega arith) e
  by_link (Some link) e = ap part_in (node_at root links n link e)

module _ (root : List Cell) (ls : List Link) (node : NodeId) (was : Link) (e : slice_get ls node.0 ≡ Some was) (split : Split) (first second : Leaf) (k : NodeId) (k_is : k.0 ≡ length ls) where
  abbrev pub after_split : List Link
  after_split = slice_set ls node.0 (with_first was k) ++ child_link node split First first ∷ child_link node split Second second ∷ []

  there : node.0 < length ls
  there = slice_get_within ls node.0 was e

  ups_after : ups_of after_split ≡ ups_of ls ++ Some (record { parent = node; split = split; side = First }) ∷ Some (record { parent = node; split = split; side = Second }) ∷ []
  ups_after = map-append (λ (link : Link). link.up) (slice_set ls node.0 (with_first was k)) (child_link node split First first ∷ child_link node split Second second ∷ []) ∙ ap (λ r. r ++ Some (record { parent = node; split = split; side = First }) ∷ Some (record { parent = node; split = split; side = Second }) ∷ []) (ups-set ls node.0 was (with_first was k) e refl)

  pub up_after : (m : ℕ) → m < length ls → up_at after_split m ≡ up_at ls m
  up_after m h =
      let l = length-ups ls in
      up_at_same after_split ls m (ap (λ r. slice_get r m) ups_after ∙ get-append_left (ups_of ls) _ m (omega arith))

  pub up_first : up_at after_split (length ls) ≡ Some (record { parent = node; split = split; side = First })
  up_first =
      let l = length-set ls node.0 (with_first was k) in
      ap up_in (get-append_first (slice_set ls node.0 (with_first was k)) _ _ (length ls) (sym l))

  pub up_second : up_at after_split (length ls + 1) ≡ Some (record { parent = node; split = split; side = Second })
  up_second =
      let l = length-set ls node.0 (with_first was k) in
      ap up_in (get-append_second (slice_set ls node.0 (with_first was k)) _ _ (length ls + 1) (omega arith))

  pub length-after : length after_split ≡ length ls + 2
  length-after =
      let l = length-set ls node.0 (with_first was k) in
      let a = length-append (slice_set ls node.0 (with_first was k)) (child_link node split First first ∷ child_link node split Second second ∷ []) in
      omega arith

  parts_after : IsTrue (lawful_split (slice_index_or (parts_of root ls) node.0 root) split) → parts_of root after_split ≡ parts_of root ls ++ child_cells (slice_index_or (parts_of root ls) node.0 root) split First ∷ child_cells (slice_index_or (parts_of root ls) node.0 root) split Second ∷ []
  parts_after h =
      let P = parts_of root ls in
      let c = slice_index_or P node.0 root in
      let l = length-parts root ls in
      let t = there in
      let near : node.0 < length P = omega arith in
      ap (grown root []) ups_after ∙ grown-append root [] (ups_of ls) _
      ∙ ap (λ d. (P ++ narrowed c split First ∷ []) ++ narrowed d split Second ∷ []) (get_or_append_left P (narrowed c split First ∷ []) root node.0 near)
      ∙ append_assoc P (narrowed c split First ∷ []) (narrowed c split Second ∷ [])
      ∙ ap (λ d. P ++ d ∷ narrowed c split Second ∷ []) (narrowed_child c split First h)
      ∙ ap (λ d. P ++ child_cells c split First ∷ d ∷ []) (narrowed_child c split Second h)

  same_split : (m : ℕ) → m < length ls → split_above after_split m ≡ split_above ls m
  same_split m h = ap split_of_up (up_after m h)

  same_fate : (o : Option NodeId) (leaf : Leaf) → AreThere o (length ls) → fate_from after_split o leaf ≡ fate_from ls o leaf
  same_fate None leaf h = refl
  same_fate (Some j) leaf h = ap (λ s. forks s j.0) (same_split j.0 (omega arith))

  split_fate : (leaf : Leaf) → fate_from after_split (Some k) leaf ≡ forks split (length ls)
  split_fate leaf = ap (λ j. forks (split_above after_split j) j) k_is ∙ ap (λ u. forks (split_of_up u) (length ls)) up_first

  -- the nodes after a leaf was split
  pub split_view : ((m : ℕ) (link : Link) → slice_get ls m ≡ Some link → AreThere link.first (length ls)) → IsTrue (lawful_split (part_at (nodes_of root ls) node.0) split) → nodes_of root after_split ≡ split_nodes (nodes_of root ls) node.0 split first second
  unfolding nodes_of
  split_view w h =
      let P = parts_of root ls in
      let c = slice_index_or P node.0 root in
      let ce = part_at_is root ls node.0 there in
      let h' : IsTrue (lawful_split c split) = subst (λ d. IsTrue (lawful_split d split)) ce h in
      let l = length-parts root ls in
      let ln = length-nodes root ls in
      let s = length-set ls node.0 (with_first was k) in
      let le : length P ≡ length (slice_set ls node.0 (with_first was k)) = omega arith in
      ap (nodes_from after_split after_split) (parts_after h')
      ∙ from-append after_split (slice_set ls node.0 (with_first was k)) _ P _ le
      ∙ ap (λ r. r ++ new_leaf (child_cells c split First) node.0 first ∷ new_leaf (child_cells c split Second) node.0 second ∷ []) (from-set ls after_split ls P node.0 was (with_first was k) (forks split (length ls)) l e refl (split_fate was.leaf) (λ m link f. same_fate link.first link.leaf (w m link f)))
      ∙ ap (λ j. refated (forks split j) (nodes_from ls ls P) node.0 ++ new_leaf (child_cells c split First) node.0 first ∷ new_leaf (child_cells c split Second) node.0 second ∷ []) (sym ln)
      ∙ ap (λ d. refated (forks split (length (nodes_from ls ls P))) (nodes_from ls ls P) node.0 ++ new_leaf (child_cells d split First) node.0 first ∷ new_leaf (child_cells d split Second) node.0 second ∷ []) (sym ce)

  ordered_after : AreOrdered ls → (m : ℕ) → IsBefore (up_at after_split m) m
  ordered_after h m = by_place (cases_lt m (length ls)) (cases_eq m (length ls)) (cases_eq m (length ls + 1)) where
    by_place : (m < length ls) ⊎ (length ls ≤ m) → (m ≡ length ls) ⊎ (m ≡ length ls → ⊥) → (m ≡ length ls + 1) ⊎ (m ≡ length ls + 1 → ⊥) → IsBefore (up_at after_split m) m
    by_place (inl p) _ _ = subst (λ u. IsBefore u m) (sym (up_after m p)) (h.each m)
    by_place (inr p) (inl q) _ = let t = there in subst (λ u. IsBefore u m) (sym (ap (up_at after_split) q ∙ up_first)) (omega arith)
    by_place (inr p) (inr q) (inl r) = let t = there in subst (λ u. IsBefore u m) (sym (ap (up_at after_split) r ∙ up_second)) (omega arith)
    by_place (inr p) (inr q) (inr r) = let l = length-after in subst (λ u. IsBefore u m) (sym (no_up after_split m (omega arith))) tt where
      no_up : (links : List Link) (i : ℕ) → length links ≤ i → up_at links i ≡ None
      no_up [] i h = refl
      no_up (link ∷ links) zero h = absurd (omega arith)
      no_up (link ∷ links) (suc i) h = no_up links i (omega arith)

  there_more : (o : Option NodeId) (m n : ℕ) → m ≤ n → AreThere o m → AreThere o n
  there_more None m n p h = tt
  there_more (Some j) m n p h = omega arith

  within_after : ((m : ℕ) (link : Link) → slice_get ls m ≡ Some link → AreThere link.first (length ls)) → (m : ℕ) (link : Link) → slice_get after_split m ≡ Some link → AreThere link.first (length after_split)
  within_after w m link f = by_place (cases_lt m (length ls)) (cases_eq m (length ls)) (cases_eq m (length ls + 1)) where
    by_place : (m < length ls) ⊎ (length ls ≤ m) → (m ≡ length ls) ⊎ (m ≡ length ls → ⊥) → (m ≡ length ls + 1) ⊎ (m ≡ length ls + 1 → ⊥) → AreThere link.first (length after_split)
    by_place (inl p) _ _ =
        let l = length-set ls node.0 (with_first was k) in
        let la = length-after in
        set_there ls node.0 m link (sym (get-append_left (slice_set ls node.0 (with_first was k)) _ m (omega arith)) ∙ f) w where
          set_there : (xs : List Link) (i j : ℕ) (z : Link) → slice_get (slice_set xs i (with_first was k)) j ≡ Some z → ((m : ℕ) (link : Link) → slice_get xs m ≡ Some link → AreThere link.first (length ls)) → AreThere z.first (length after_split)
          set_there [] i j z g v = cc
          set_there (x ∷ xs) zero zero z g v = let q : with_first was k ≡ z = cc in let la = length-after in subst (λ (o : Option NodeId). AreThere o (length after_split)) (ap (λ y. y.first) q) (omega arith)
          set_there (x ∷ xs) zero (suc j) z g v = let la = length-after in there_more z.first (length ls) (length after_split) (omega arith) (v (suc j) z g)
          set_there (x ∷ xs) (suc i) zero z g v = let la = length-after in there_more z.first (length ls) (length after_split) (omega arith) (v 0 z g)
          set_there (x ∷ xs) (suc i) (suc j) z g v = set_there xs i j z g (λ m l f. v (suc m) l f)
    by_place (inr p) (inl q) _ =
        let l = length-set ls node.0 (with_first was k) in
        let z : child_link node split First first ≡ link = cc (sym (get-append_first (slice_set ls node.0 (with_first was k)) _ _ (length ls) (sym l)) ∙ ap (slice_get after_split) (sym q) ∙ f) in
        subst (λ (y : Link). AreThere y.first (length after_split)) z tt
    by_place (inr p) (inr q) (inl r) =
        let l = length-set ls node.0 (with_first was k) in
        let z : child_link node split Second second ≡ link = cc (sym (get-append_second (slice_set ls node.0 (with_first was k)) _ _ (length ls + 1) (omega arith)) ∙ ap (slice_get after_split) (sym r) ∙ f) in
        subst (λ (y : Link). AreThere y.first (length after_split)) z tt
    by_place (inr p) (inr q) (inr r) = let l = length-after in let b = slice_get_within after_split m link f in absurd (omega arith)

  -- links stay in order after a leaf was split
  pub split_links_are : (room capacity : ℕ) → AreLinks ls room capacity → length ls + 2 ≤ room → AreLinks after_split room capacity
  split_links_are room capacity h p =
      let l = length-after in
      record { nonempty = omega arith; ordered = record { each = ordered_after h.ordered }; within = within_after h.within; limit = omega arith; space = h.space; fits = h.fits }

module _ (root : List Cell) (ls : List Link) (n : ℕ) (was : Link) (e : slice_get ls n ≡ Some was) (is_leaf : was.first ≡ None) (leaf : Leaf) where
  ups_same : ups_of (slice_set ls n (with_leaf was leaf)) ≡ ups_of ls
  ups_same = ups-set ls n was (with_leaf was leaf) e refl

  up_same : (m : ℕ) → up_at (slice_set ls n (with_leaf was leaf)) m ≡ up_at ls m
  up_same m = up_at_same (slice_set ls n (with_leaf was leaf)) ls m (ap (λ r. slice_get r m) ups_same)

  fate_same : (o : Option NodeId) (l : Leaf) → fate_from (slice_set ls n (with_leaf was leaf)) o l ≡ fate_from ls o l
  fate_same None l = refl
  fate_same (Some j) l = ap (λ u. forks (split_of_up u) j.0) (up_same j.0)

  -- the nodes after a leaf got another leaf
  pub leaf_view : nodes_of root (slice_set ls n (with_leaf was leaf)) ≡ leaf_nodes (nodes_of root ls) n leaf
  unfolding nodes_of
  leaf_view =
      ap (λ u. nodes_from (slice_set ls n (with_leaf was leaf)) (slice_set ls n (with_leaf was leaf)) (grown root [] u)) ups_same
      ∙ from-set ls (slice_set ls n (with_leaf was leaf)) ls (parts_of root ls) n was (with_leaf was leaf) (ends leaf) (length-parts root ls) e refl (ap (λ o. fate_from (slice_set ls n (with_leaf was leaf)) o leaf) is_leaf) (λ m link f. fate_same link.first link.leaf)

  within_same : (xs : List Link) (i j size : ℕ) (z : Link) → slice_get xs i ≡ Some was → slice_get (slice_set xs i (with_leaf was leaf)) j ≡ Some z → ((m : ℕ) (link : Link) → slice_get xs m ≡ Some link → AreThere link.first size) → AreThere z.first size
  within_same [] i j size z d g v = cc
  within_same (x ∷ xs) zero zero size z d g v = let q : with_leaf was leaf ≡ z = cc in let r : x ≡ was = cc in subst (λ (y : Link). AreThere y.first size) q (subst (λ (y : Link). AreThere y.first size) r (v 0 x refl))
  within_same (x ∷ xs) zero (suc j) size z d g v = v (suc j) z g
  within_same (x ∷ xs) (suc i) zero size z d g v = v 0 z g
  within_same (x ∷ xs) (suc i) (suc j) size z d g v = within_same xs i j size z d g (λ m l f. v (suc m) l f)

  -- links stay in order after a leaf got another leaf
  pub leaf_links_are : (room capacity : ℕ) → AreLinks ls room capacity → AreLinks (slice_set ls n (with_leaf was leaf)) room capacity
  leaf_links_are room capacity h =
      let l = length-set ls n (with_leaf was leaf) in
      record {
        nonempty = omega arith;
        ordered = record { each = λ m. subst (λ u. IsBefore u m) (sym (up_same m)) (h.ordered.each m) };
        within = λ m z f. subst (λ s. AreThere z.first s) (sym l) (within_same ls n m (length ls) z e f h.within);
        limit = omega arith;
        space = h.space;
        fits = h.fits;
      }

-- one link is a root
pub root_view : (root : List Cell) (leaf : Leaf) → nodes_of root (record { up = None; first = None; leaf = leaf } ∷ []) ≡ root_nodes root leaf
unfolding nodes_of
root_view root leaf = refl

one_link : (leaf : Leaf) (m : ℕ) (z : Link) → slice_get (record { up = None; first = None; leaf = leaf } ∷ []) m ≡ Some z → AreThere z.first 1
one_link leaf zero z f = let q : record { up = None; first = None; leaf = leaf } ≡ z = cc in subst (λ (y : Link). AreThere y.first 1) q tt
one_link leaf (suc m) z f = cc

one_up : (leaf : Leaf) (m : ℕ) → IsBefore (up_at (record { up = None; first = None; leaf = leaf } ∷ []) m) m
one_up leaf zero = tt
one_up leaf (suc m) = tt

pub root_links_are : (leaf : Leaf) (room capacity : ℕ) → 1 ≤ room → room ≤ capacity → room ≤ 4294967295 → AreLinks (record { up = None; first = None; leaf = leaf } ∷ []) room capacity
root_links_are leaf room capacity p q f = record { nonempty = omega arith; ordered = record { each = one_up leaf }; within = one_link leaf; limit = p; space = q; fits = f }

-- a leaf of the nodes is a link with no first child
pub leaf_first : (root : List Cell) (ls : List Link) (n : ℕ) (was : Link) (leaf : Leaf) → slice_get ls n ≡ Some was → (node : Node) → slice_get (nodes_of root ls) n ≡ Some node → node.fate ≡ ends leaf → was.first ≡ None
leaf_first root ls n was leaf e node f g = by_first was.first refl where
  by_first : (o : Option NodeId) → was.first ≡ o → was.first ≡ None
  by_first None p = p
  by_first (Some j) p =
      let q : node_from ls was (slice_index_or (parts_of root ls) n root) ≡ node = cc (sym (node_at root ls n was e) ∙ f) in
      absurd (clash (sym (ap (λ (o : Option NodeId). fate_from ls o was.leaf) p) ∙ ap (λ (k : Node). k.fate) q ∙ g)) where
        clash : forks (split_above ls j.0) j.0 ≡ ends leaf → ⊥
        clash d = cc
