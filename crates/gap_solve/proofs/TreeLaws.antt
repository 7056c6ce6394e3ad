-- The leaves of a list of nodes that is a tree are the leaves of the tree of splits that stands at its root.

use Rattle.std.proofs.Common.{◌≡◌, ℕ, zero, suc, ◌+◌, ◌<◌, ◌≤◌, List, [], ◌∷◌, ◌++◌, map, length, slice_get, Option, Some, None, ℤ, pos, ◌+ℤ◌, inl, inr, ◌⊎◌, IsTrue, refl, sym, ap, ◌∙◌, subst, arith}
use Rattle.std.specs.List.{All}
use Rattle.std.proofs.lemmas.Bool.{cases_lt}
use Rattle.std.proofs.lemmas.List.{map-append}
use Rattle.std.proofs.lemmas.List.Elements.{All-append}
use Rattle.std.proofs.lemmas.Option.{slice_get_within}
use Rattle.gap_base.proofs.Ring.{linear}
use Rattle.gap_box.specs.declared.cell.Cell.{Cell}
use Rattle.gap_box.specs.declared.split.Split.{Split}
use Rattle.gap_box.specs.declared.split.Side.TheVariants.{First, Second}
use Rattle.gap_box.specs.Splits.{lawful_split, child_cells}
use Rattle.gap_model.specs.declared.leaf.Leaf.{Leaf}
use Rattle.gap_model.specs.declared.shown.Shown.{Shown}
use Rattle.gap_model.specs.declared.shown.Shown.TheVariants.{Empty}
use Rattle.gap_model.specs.Order.{ShownLe}
use Rattle.gap_model.specs.Settings.{Setting}
use Rattle.gap_model.specs.Trees.{SplitTree, tip, fork, tree_splits}
use Rattle.gap_model.specs.Nodes.{Fate, ends, forks, Node, one_split, splits_of, part_in, part_at, leaf_in, leaf_at, IsTree, IsTreeOf}
use Rattle.gap_tree.proofs.GrownLaws.{has_tree}
use Rattle.gap_valid.specs.CertTrees.{IsFormed, cert_splits, PlacedLeaf, cert_leaves, leaf_shows, placed_shows, lesser_shown, least_shown}
use Rattle.gap_model.proofs.OrderLaws.{shown_le_trans}
use Rattle.gap_valid.proofs.ShownLaws.{le_empty, lesser_left, lesser_right, lesser_most, least_left, least_right}
use Rattle.gap_solved.specs.Solveds.{cert_leaf_of, cert_tree_of}
use Rattle.gap_solved.proofs.SectionLaws.{one_tree}
use Rattle.gap_solve.proofs.CountLaws.{pair, pairs, value, counted, has_parent}

-- something holds of each leaf of a tree at a part, with its part
abbrev pub each : (List Cell → Leaf → Type 0) → List Cell → SplitTree → Type 0
each P part (tip leaf) = P part leaf
each P part (fork split first second) = each P (child_cells part split First) first × each P (child_cells part split Second) second

pub each_map : (P Q : List Cell → Leaf → Type 0) → ((part : List Cell) (leaf : Leaf) → P part leaf → Q part leaf) → (part : List Cell) (tree : SplitTree) → each P part tree → each Q part tree
each_map P Q f part (tip leaf) h = f part leaf h
each_map P Q f part (fork split first second) h = (each_map P Q f (child_cells part split First) first h.0, each_map P Q f (child_cells part split Second) second h.1)

leaf_is : (node : Node) (leaf : Leaf) → node.fate ≡ ends leaf → leaf_in (Some node) ≡ Some leaf
leaf_is node leaf e = cc

no_leaf : (node : Node) (split : Split) (k : ℕ) (leaf : Leaf) → node.fate ≡ forks split k → leaf_in (Some node) ≡ Some leaf → ⊥
no_leaf node split k leaf e f = absurd cc

one_leaf : (o : Option Leaf) (a b : Leaf) → o ≡ Some a → o ≡ Some b → a ≡ b
one_leaf o a b e f = cc

module _ (nodes : List Node) (h : IsTree nodes) where
  first_part : (n : ℕ) (node : Node) (split : Split) (k : ℕ) → slice_get nodes n ≡ Some node → node.fate ≡ forks split k → part_at nodes k ≡ child_cells (part_at nodes n) split First
  first_part n node split k e f =
      let c = h.children n node split k e f in
      ap part_in c.first.there ∙ c.first.part_is ∙ ap (λ (z : List Cell). child_cells z split First) (sym (ap part_in e))

  second_part : (n : ℕ) (node : Node) (split : Split) (k : ℕ) → slice_get nodes n ≡ Some node → node.fate ≡ forks split k → part_at nodes (k + 1) ≡ child_cells (part_at nodes n) split Second
  second_part n node split k e f =
      let c = h.children n node split k e f in
      ap part_in c.second.there ∙ c.second.part_is ∙ ap (λ (z : List Cell). child_cells z split Second) (sym (ap part_in e))

  -- what holds of the leaves of the list holds of the leaves of the tree
  pub each_of : (P : List Cell → Leaf → Type 0) → ((n : ℕ) (leaf : Leaf) → leaf_at nodes n ≡ Some leaf → P (part_at nodes n) leaf) → (n : ℕ) (tree : SplitTree) → IsTreeOf nodes n tree → each P (part_at nodes n) tree
  each_of P all n (tip leaf) (node, e, f) = all n leaf (ap leaf_in e ∙ leaf_is node leaf f)
  each_of P all n (fork split first second) (node, k, e, f, a, b) = (subst (λ (z : List Cell). each P z first) (first_part n node split k e f) (each_of P all k first a), subst (λ (z : List Cell). each P z second) (second_part n node split k e f) (each_of P all (k + 1) second b))

  -- and the other way round
  abbrev Below : (List Cell → Leaf → Type 0) → ℕ → Type 0
  Below P n = (tree : SplitTree) × IsTreeOf nodes n tree × each P (part_at nodes n) tree

  child_below : (P : List Cell → Leaf → Type 0) (n j k : ℕ) (node : Node) (split : Split) → slice_get nodes n ≡ Some node → node.fate ≡ forks split k → (j ≡ k) ⊎ (j ≡ k + 1) → Below P n → Below P j
  child_below P n j k node split e f c (tip leaf, (other, g, i), p) = absurd (two_fates node.fate other.fate split k leaf f i (same_fate _ node other e g))
    where
      same_fate : (o : Option Node) (x y : Node) → o ≡ Some x → o ≡ Some y → x.fate ≡ y.fate
      same_fate o x y a b = cc

      two_fates : (x y : Fate) (s : Split) (m : ℕ) (l : Leaf) → x ≡ forks s m → y ≡ ends l → x ≡ y → ⊥
      two_fates x y s m l a b q = absurd cc
  child_below P n j k node split e f c (fork other first second, (twin, m, g, i, a, b), p) = side c
    where
      same_fate : (o : Option Node) (x y : Node) → o ≡ Some x → o ≡ Some y → x.fate ≡ y.fate
      same_fate o x y q r = cc

      same_child : (x y : Fate) (s t : Split) (u v : ℕ) → x ≡ forks s u → y ≡ forks t v → x ≡ y → u ≡ v
      same_child x y s t u v q r z = cc

      number : k ≡ m
      number = same_child node.fate twin.fate split other k m f i (same_fate _ node twin e g)

      side : (j ≡ k) ⊎ (j ≡ k + 1) → Below P j
      side (inl q) =
          let t : m ≡ j = sym (q ∙ number) in
          (first, subst (λ (z : ℕ). IsTreeOf nodes z first) t a, subst (λ (z : ℕ). each P (part_at nodes z) first) t (subst (λ (z : List Cell). each P z first) (sym (first_part n twin other m g i)) p.0))
      side (inr q) =
          let t : m + 1 ≡ j = sym (q ∙ ap (λ (z : ℕ). z + 1) number) in
          (second, subst (λ (z : ℕ). IsTreeOf nodes z second) t b, subst (λ (z : ℕ). each P (part_at nodes z) second) t (subst (λ (z : List Cell). each P z second) (sym (second_part n twin other m g i)) p.1))

  below_all : (P : List Cell → Leaf → Type 0) → Below P 0 → (fuel n : ℕ) → n < fuel → n < length nodes → Below P n
  below_all P root zero n l m = absurd (omega arith)
  below_all P root (suc fuel) zero l m = root
  below_all P root (suc fuel) (suc n) l m =
      let c = has_parent nodes h (suc n) (omega arith) m in
      child_below P c.parent (suc n) c.first c.node c.split c.there c.fate_is c.child (below_all P root fuel c.parent (let b = c.behind in omega arith) (slice_get_within nodes c.parent c.node c.there))

  leaf_from : (P : List Cell → Leaf → Type 0) (n : ℕ) (leaf : Leaf) → leaf_at nodes n ≡ Some leaf → Below P n → P (part_at nodes n) leaf
  leaf_from P n leaf e (tip other, (node, g, i), p) = subst (λ (z : Leaf). P (part_at nodes n) z) (one_leaf (leaf_at nodes n) other leaf (ap leaf_in g ∙ leaf_is node other i) e) p
  leaf_from P n leaf e (fork split first second, (node, k, g, i, a, b), p) = absurd (no_leaf node split k leaf i (sym (ap leaf_in g) ∙ e))

  there : (n : ℕ) (leaf : Leaf) (o : Option Node) → slice_get nodes n ≡ o → leaf_in o ≡ Some leaf → n < length nodes
  there n leaf None e f = absurd cc
  there n leaf (Some node) e f = slice_get_within nodes n node e

  pub all_of : (P : List Cell → Leaf → Type 0) (tree : SplitTree) → IsTreeOf nodes 0 tree → each P (part_at nodes 0) tree → (n : ℕ) (leaf : Leaf) → leaf_at nodes n ≡ Some leaf → P (part_at nodes n) leaf
  all_of P tree t p n leaf e = leaf_from P n leaf e (below_all P (tree, t, p) (suc n) n (omega arith) (there n leaf (slice_get nodes n) refl e))

  -- the tree is well formed
  pub formed_of : (assets n : ℕ) (tree : SplitTree) → IsTreeOf nodes n tree → IsFormed (part_at nodes n) (cert_tree_of assets tree)
  formed_of assets n (tip leaf) t = tt
  formed_of assets n (fork split first second) (node, k, e, f, a, b) =
      let c = h.children n node split k e f in (
        subst (λ (z : List Cell). IsTrue (lawful_split z split)) (sym (ap part_in e)) c.lawful,
        subst (λ (z : List Cell). IsFormed z (cert_tree_of assets first)) (first_part n node split k e f) (formed_of assets k first a),
        subst (λ (z : List Cell). IsFormed z (cert_tree_of assets second)) (second_part n node split k e f) (formed_of assets (k + 1) second b),
      )

  -- the splits of the trees at the nodes
  abbrev size_at : (n : ℕ) → (n < length nodes) ⊎ (length nodes ≤ n) → ℕ
  size_at n (inl l) = tree_splits (has_tree nodes h n l).tree
  size_at n (inr l) = 0

  abbrev size : ℕ → ℤ
  size n = pos (size_at n (cases_lt n (length nodes)))

  size_is : (n : ℕ) (tree : SplitTree) → n < length nodes → IsTreeOf nodes n tree → (c : (n < length nodes) ⊎ (length nodes ≤ n)) → size_at n c ≡ tree_splits tree
  size_is n tree l t (inl m) = ap tree_splits (one_tree nodes n (has_tree nodes h n m).tree tree (has_tree nodes h n m).stands t)
  size_is n tree l t (inr m) = absurd (omega arith)

  size_of : (n : ℕ) (tree : SplitTree) → n < length nodes → IsTreeOf nodes n tree → size n ≡ pos (tree_splits tree)
  size_of n tree l t = ap pos (size_is n tree l t (cases_lt n (length nodes)))

  abbrev ones : Option Node → ℤ
  ones o = value (λ (node : Node). one_split node.fate) o

  tree_size : (n : ℕ) (tree : SplitTree) → IsTreeOf nodes n tree → pos (tree_splits tree) ≡ ones (slice_get nodes n) +ℤ pairs size (slice_get nodes n)
  tree_size n (tip leaf) (node, e, f) = sym (ap (λ (o : Option Node). ones o +ℤ pairs size o) e ∙ ap (λ (z : Fate). pos (one_split z) +ℤ pair size z) f)
  tree_size n (fork split first second) (node, k, e, f, a, b) =
      let c = h.children n node split k e f in
      let u = size_of k first (slice_get_within nodes k c.first.node c.first.there) a in
      let v = size_of (k + 1) second (slice_get_within nodes (k + 1) c.second.node c.second.there) b in
      let w : ones (slice_get nodes n) +ℤ pairs size (slice_get nodes n) ≡ pos 1 +ℤ (size k +ℤ size (k + 1)) = ap (λ (o : Option Node). ones o +ℤ pairs size o) e ∙ ap (λ (z : Fate). pos (one_split z) +ℤ pair size z) f in
      omega (arith, linear)

  -- the tree at the root has as many splits as the list
  pub splits_counted : (tree : SplitTree) → IsTreeOf nodes 0 tree → tree_splits tree ≡ splits_of nodes
  splits_counted tree t =
      let a = counted nodes h size (λ n l. size_of n (has_tree nodes h n l).tree l (has_tree nodes h n l).stands ∙ tree_size n (has_tree nodes h n l).tree (has_tree nodes h n l).stands) in
      let b = size_of 0 tree (slice_get_within nodes 0 h.root.0 h.root.1) t in
      omega (arith, linear)

-- ---- the same of the tree of a certificate
pub cert_splits_of : (assets : ℕ) (tree : SplitTree) → cert_splits (cert_tree_of assets tree) ≡ tree_splits tree
cert_splits_of assets (tip leaf) = refl
cert_splits_of assets (fork split first second) = let a = cert_splits_of assets first in let b = cert_splits_of assets second in omega arith

abbrev pub placed_of : ℕ → List Cell → Leaf → PlacedLeaf
placed_of assets part leaf = record { part = part; leaf = cert_leaf_of assets leaf }

all_one : (P : PlacedLeaf → Type 0) (x : PlacedLeaf) → P x → All P (x ∷ [])
all_one P x p zero d l = p
all_one P x p (suc k) d l = absurd (omega arith)

pub all_cert : (Q : PlacedLeaf → Type 0) (assets : ℕ) (part : List Cell) (tree : SplitTree) → each (λ (z : List Cell) (leaf : Leaf). Q (placed_of assets z leaf)) part tree → All Q (cert_leaves part (cert_tree_of assets tree))
all_cert Q assets part (tip leaf) p = all_one Q (record { part = part; leaf = cert_leaf_of assets leaf }) p
all_cert Q assets part (fork split first second) p = All-append Q _ _ (all_cert Q assets (child_cells part split First) first p.0) (all_cert Q assets (child_cells part split Second) second p.1)

-- the least of two lists is no less than what neither's least is below
least_both : (xs ys : List Shown) (v : Shown) → ShownLe v (least_shown xs) → ShownLe v (least_shown ys) → ShownLe v (least_shown (xs ++ ys))
least_both [] ys v p q = q
least_both (x ∷ xs) ys v p q = lesser_most x (least_shown (xs ++ ys)) v (shown_le_trans v (lesser_shown x (least_shown xs)) x p (lesser_left x (least_shown xs))) (least_both xs ys v (shown_le_trans v (lesser_shown x (least_shown xs)) (least_shown xs) p (lesser_right x (least_shown xs))) q)

-- the least that the leaves of a certificate's tree show
abbrev pub least_of : Setting → ℕ → List Cell → SplitTree → Shown
least_of s assets part tree = least_shown (map (placed_shows s) (cert_leaves part (cert_tree_of assets tree)))

abbrev firsts : Setting → ℕ → List Cell → Split → SplitTree → List Shown
firsts s assets part split tree = map (placed_shows s) (cert_leaves (child_cells part split First) (cert_tree_of assets tree))

abbrev seconds : Setting → ℕ → List Cell → Split → SplitTree → List Shown
seconds s assets part split tree = map (placed_shows s) (cert_leaves (child_cells part split Second) (cert_tree_of assets tree))

least_fork : (s : Setting) (assets : ℕ) (part : List Cell) (split : Split) (first second : SplitTree) → least_of s assets part (fork split first second) ≡ least_shown (firsts s assets part split first ++ seconds s assets part split second)
least_fork s assets part split first second = ap least_shown (map-append (placed_shows s) (cert_leaves (child_cells part split First) (cert_tree_of assets first)) (cert_leaves (child_cells part split Second) (cert_tree_of assets second)))

pub least_from : (s : Setting) (assets : ℕ) (part : List Cell) (tree : SplitTree) (v : Shown) → each (λ (z : List Cell) (leaf : Leaf). ShownLe v (leaf_shows s z (cert_leaf_of assets leaf))) part tree → ShownLe v (least_of s assets part tree)
least_from s assets part (tip leaf) v p = lesser_most (leaf_shows s part (cert_leaf_of assets leaf)) Empty v p (le_empty v)
least_from s assets part (fork split first second) v p =
    subst (λ (z : Shown). ShownLe v z) (sym (least_fork s assets part split first second))
    (least_both (firsts s assets part split first) (seconds s assets part split second) v (least_from s assets (child_cells part split First) first v p.0) (least_from s assets (child_cells part split Second) second v p.1))

pub least_each : (s : Setting) (assets : ℕ) (part : List Cell) (tree : SplitTree) (v : Shown) → ShownLe v (least_of s assets part tree) → each (λ (z : List Cell) (leaf : Leaf). ShownLe v (leaf_shows s z (cert_leaf_of assets leaf))) part tree
least_each s assets part (tip leaf) v p = shown_le_trans v (lesser_shown (leaf_shows s part (cert_leaf_of assets leaf)) Empty) (leaf_shows s part (cert_leaf_of assets leaf)) p (lesser_left (leaf_shows s part (cert_leaf_of assets leaf)) Empty)
least_each s assets part (fork split first second) v p =
    let q = subst (λ (z : Shown). ShownLe v z) (least_fork s assets part split first second) p in (
      least_each s assets (child_cells part split First) first v (shown_le_trans v (least_shown (firsts s assets part split first ++ seconds s assets part split second)) (least_shown (firsts s assets part split first)) q (least_left (firsts s assets part split first) (seconds s assets part split second))),
      least_each s assets (child_cells part split Second) second v (shown_le_trans v (least_shown (firsts s assets part split first ++ seconds s assets part split second)) (least_shown (seconds s assets part split second)) q (least_right (firsts s assets part split first) (seconds s assets part split second))),
    )
