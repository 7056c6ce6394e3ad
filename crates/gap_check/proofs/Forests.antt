-- Trees that are read in order: the items so far begin a tree, whatever trees stand at the parts that are to come.
use Rattle.std.proofs.Common.{◌≡◌, ℕ, ◌+◌, ◌<◌, false, List, [], ◌∷◌, ◌++◌, drop, length, IsTrue, sym, ap, ◌∙◌, arith}
use Rattle.std.proofs.lemmas.List.{append_assoc, append-nil}
use Rattle.gap_box.specs.declared.cell.Cell.{Cell}
use Rattle.gap_box.specs.declared.split.Split.{Split}
use Rattle.gap_box.specs.declared.split.Side.TheVariants.{First, Second}
use Rattle.gap_box.specs.Splits.{lawful_split, child_cells}
use Rattle.gap_model.specs.declared.shown.Shown.{Shown}
use Rattle.gap_cert.specs.declared.field.Field.{Field}
use Rattle.gap_cert.specs.declared.field.Field.TheVariants as field
use Rattle.gap_cert.specs.Certificates.{CertLeaf, CertTree, tip, fork, leaf_field, tree_fields}
use Rattle.gap_judge.specs.Walks.{splits_first, IsLawfulNext}
use Rattle.gap_valid.specs.CertTrees.{IsFormed, cert_splits, PlacedLeaf, cert_leaves, lesser_shown, least_shown}
use Rattle.gap_model.proofs.OrderLaws.{shown_le_trans}
use Rattle.gap_valid.proofs.ShownLaws.{lesser_empty, le_both, lesser_left, lesser_right, lesser_most}
use Rattle.gap_judge.specs.Progress.{first_part}

abbrev pub AreTreesAt : List (List Cell) → List CertTree → Type 0
AreTreesAt [] [] = Unit {0}
AreTreesAt [] (t ∷ trees) = ⊥
AreTreesAt (part ∷ parts) [] = ⊥
AreTreesAt (part ∷ parts) (t ∷ trees) = IsFormed part t × AreTreesAt parts trees

abbrev pub forest_fields : List CertTree → List Field
forest_fields [] = []
forest_fields (t ∷ trees) = tree_fields t ++ forest_fields trees

abbrev pub forest_leaves : List (List Cell) → List CertTree → List PlacedLeaf
forest_leaves [] trees = []
forest_leaves (part ∷ parts) [] = []
forest_leaves (part ∷ parts) (t ∷ trees) = cert_leaves part t ++ forest_leaves parts trees

abbrev pub forest_splits : List CertTree → ℕ
forest_splits [] = 0
forest_splits (t ∷ trees) = cert_splits t + forest_splits trees

-- a tree that begins with these items and leaves, and goes on with trees
pub record Built (root : List Cell) (front : List Field) (leaves : List PlacedLeaf) (parts : List (List Cell)) (splits : ℕ) (trees : List CertTree) : Type 0 where
  pub tree : CertTree
  pub fields_are : tree_fields tree ≡ front ++ forest_fields trees
  pub formed : IsFormed root tree
  pub leaves_are : cert_leaves root tree ≡ leaves ++ forest_leaves parts trees
  pub splits_are : cert_splits tree ≡ splits + forest_splits trees

abbrev pub Builds : List Cell → List Field → List PlacedLeaf → List (List Cell) → ℕ → Type 0
Builds root front leaves parts splits = (trees : List CertTree) → AreTreesAt parts trees → Built root front leaves parts splits trees

pub build_root : (root : List Cell) → Builds root [] [] (root ∷ []) 0
build_root root [] h = absurd h
build_root root (t ∷ u ∷ trees) h = absurd h.1
build_root root (t ∷ []) h = record { tree = t; fields_are = sym (append-nil (tree_fields t)); formed = h.0; leaves_are = sym (append-nil (cert_leaves root t)); splits_are = omega arith }

abbrev pub placed_at : List Cell → CertLeaf → PlacedLeaf
placed_at part leaf = record { part = part; leaf = leaf }

build_leaf_at : (root : List Cell) (front : List Field) (leaves : List PlacedLeaf) (part : List Cell) (parts : List (List Cell)) (splits : ℕ) (leaf : CertLeaf) → Builds root front leaves (part ∷ parts) splits →
    Builds root (front ++ leaf_field leaf ∷ []) (leaves ++ placed_at part leaf ∷ []) parts splits
unfolding tree_fields
build_leaf_at root front leaves part parts splits leaf b trees h =
    let t = b (tip leaf ∷ trees) (tt, h) in
    record {
      tree = t.tree;
      fields_are = t.fields_are ∙ sym (append_assoc front (leaf_field leaf ∷ []) (forest_fields trees));
      formed = t.formed;
      leaves_are = t.leaves_are ∙ sym (append_assoc leaves (placed_at part leaf ∷ []) (forest_leaves parts trees));
      splits_are = omega (arith, t.splits_are);
    }

pub build_leaf : (root : List Cell) (front : List Field) (leaves : List PlacedLeaf) (parts : List (List Cell)) (splits : ℕ) (leaf : CertLeaf) → 0 < length parts → Builds root front leaves parts splits →
    Builds root (front ++ leaf_field leaf ∷ []) (leaves ++ placed_at (first_part parts) leaf ∷ []) (drop 1 parts) splits
build_leaf root front leaves [] splits leaf some b = absurd (omega arith)
build_leaf root front leaves (part ∷ parts) splits leaf some b = build_leaf_at root front leaves part parts splits leaf b

split_list : (front a b rest : List Field) (s : Field) → front ++ (s ∷ (a ++ b)) ++ rest ≡ (front ++ s ∷ []) ++ (a ++ (b ++ rest))
split_list front a b rest s = simp append_assoc

build_split_at : (root : List Cell) (front : List Field) (leaves : List PlacedLeaf) (part : List Cell) (parts : List (List Cell)) (splits : ℕ) (s : Split) → IsTrue (lawful_split part s) → Builds root front leaves (part ∷ parts) splits →
    Builds root (front ++ field.Split s ∷ []) leaves (child_cells part s First ∷ child_cells part s Second ∷ parts) (splits + 1)
unfolding tree_fields
build_split_at root front leaves part parts splits s l b [] h = absurd h
build_split_at root front leaves part parts splits s l b (x ∷ []) h = absurd h.1
build_split_at root front leaves part parts splits s l b (x ∷ y ∷ trees) h = joined (b (fork s x y ∷ trees) ((l, h.0, h.1.0), h.1.1))
  where
    joined : Built root front leaves (part ∷ parts) splits (fork s x y ∷ trees) → Built root (front ++ field.Split s ∷ []) leaves (child_cells part s First ∷ child_cells part s Second ∷ parts) (splits + 1) (x ∷ y ∷ trees)
    joined t = record {
      tree = t.tree;
      fields_are = t.fields_are ∙ sym (append_assoc front (field.Split s ∷ (tree_fields x ++ tree_fields y)) (forest_fields trees)) ∙ split_list front (tree_fields x) (tree_fields y) (forest_fields trees) (field.Split s);
      formed = t.formed;
      leaves_are = t.leaves_are ∙ ap (λ (k : List PlacedLeaf). leaves ++ k) (append_assoc (cert_leaves (child_cells part s First) x) (cert_leaves (child_cells part s Second) y) (forest_leaves parts trees));
      splits_are = omega (arith, t.splits_are);
    }

pub build_split : (root : List Cell) (front : List Field) (leaves : List PlacedLeaf) (parts : List (List Cell)) (splits : ℕ) (s : Split) → IsLawfulNext parts s → Builds root front leaves parts splits →
    Builds root (front ++ field.Split s ∷ []) leaves (splits_first parts s) (splits + 1)
build_split root front leaves [] splits s l b = absurd_false l
  where
    absurd_false : IsTrue false → Builds root (front ++ field.Split s ∷ []) leaves (splits_first [] s) (splits + 1)
    absurd_false l = cc
build_split root front leaves (part ∷ parts) splits s l b = build_split_at root front leaves part parts splits s l b

-- ---- the least that is shown, with one more

pub lesser_turned : (a b c : Shown) → lesser_shown a (lesser_shown b c) ≡ lesser_shown (lesser_shown a b) c
lesser_turned a b c = le_both (lesser_shown a (lesser_shown b c)) (lesser_shown (lesser_shown a b) c)
    (lesser_most (lesser_shown a b) c (lesser_shown a (lesser_shown b c))
    (lesser_most a b (lesser_shown a (lesser_shown b c)) (lesser_left a (lesser_shown b c)) (shown_le_trans (lesser_shown a (lesser_shown b c)) (lesser_shown b c) b (lesser_right a (lesser_shown b c)) (lesser_left b c)))
    (shown_le_trans (lesser_shown a (lesser_shown b c)) (lesser_shown b c) c (lesser_right a (lesser_shown b c)) (lesser_right b c)))
    (lesser_most a (lesser_shown b c) (lesser_shown (lesser_shown a b) c)
    (shown_le_trans (lesser_shown (lesser_shown a b) c) (lesser_shown a b) a (lesser_left (lesser_shown a b) c) (lesser_left a b))
    (lesser_most b c (lesser_shown (lesser_shown a b) c) (shown_le_trans (lesser_shown (lesser_shown a b) c) (lesser_shown a b) b (lesser_left (lesser_shown a b) c) (lesser_right a b)) (lesser_right (lesser_shown a b) c)))

pub least_more : (shown : List Shown) (a : Shown) → least_shown (shown ++ a ∷ []) ≡ lesser_shown (least_shown shown) a
least_more [] a = lesser_empty a
least_more (b ∷ shown) a = ap (lesser_shown b) (least_more shown a) ∙ lesser_turned b (least_shown shown) a
