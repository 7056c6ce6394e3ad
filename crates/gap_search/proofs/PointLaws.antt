-- Parts with more than one list, and how many splits a tree can have. The laws of cells belong in gap_box.

use Rattle.std.proofs.Common.{◌≡◌, ℕ, zero, suc, ◌+◌, ◌<◌, ◌≤◌, ◌⊎◌, inl, inr, true, false, List, [], ◌∷◌, length, sum_by, slice_get, Some, IsTrue, refl, ap, ◌∙◌, arith}
use Rattle.std.proofs.Math.Nat.{mul-pos}
use Rattle.std.proofs.lemmas.Bool.{and_parts, cases_lt}
use Rattle.std.proofs.lemmas.Bool.Decides.{nat_tests}
use Rattle.std.proofs.lemmas.List.Sums.{sum_by-cons}
use Rattle.gap_box.specs.declared.cell.Cell.{Cell}
use Rattle.gap_box.specs.declared.cell.Cell.TheVariants.{Out, Held, Free}
use Rattle.gap_box.specs.declared.split.Split.{Split}
use Rattle.gap_box.specs.declared.split.Split.TheVariants.{Held as Hold, Lots as Cut}
use Rattle.gap_box.specs.declared.split.Side.TheVariants.{First, Second}
use Rattle.gap_box.specs.Cells.{AreCells, in_cell, choices}
use Rattle.gap_box.specs.Parts.{in_part, points}
use Rattle.gap_box.specs.Splits.{lawful_split, child_cells}
use Rattle.gap_box.proofs.CountLaws.{meets_pick}
use Rattle.gap_box.proofs.SplitLaws.{child_sum}
use Rattle.gap_model.specs.declared.leaf.Leaf.{Leaf}
use Rattle.gap_model.specs.Problems.{Problem, IsBound}
use Rattle.gap_model.specs.Nodes.{Fate, ends, forks, Node, at_leaf, one_split, leaf_points, splits_of}
use Rattle.gap_search.specs.Boards.{IsOpen}

some_choice : (cell : Cell) → 0 < choices cell
some_choice Out = omega arith
some_choice (Held l u) = omega arith
some_choice (Free l u) = omega arith

-- each part has a point
pub some_point : (cells : List Cell) → 0 < points cells
some_point [] = omega arith
some_point (cell ∷ cells) = mul-pos (some_choice cell) (some_point cells)

-- a part with one list at most
abbrev pub HasOne : List Cell → Type 0
HasOne cells = (x y : List ℕ) → in_part cells x ≡ true → in_part cells y ≡ true → x ≡ y

-- a split that can be made at a part
abbrev pub CanSplit : List Cell → Type 0
CanSplit cells = (split : Split) × IsTrue (lawful_split cells split)

no_test : false ≡ true → ⊥
no_test e = cc

cell_one : (cell : Cell) (cells : List Cell) → ((v w : ℕ) → in_cell cell v ≡ true → in_cell cell w ≡ true → v ≡ w) → HasOne cells → HasOne (cell ∷ cells)
cell_one cell cells h k [] y e f = absurd (no_test e)
cell_one cell cells h k (v ∷ x) [] e f = absurd (no_test f)
cell_one cell cells h k (v ∷ x) (w ∷ y) e f =
    let a = and_parts (in_cell cell v) (in_part cells x) e in
    let b = and_parts (in_cell cell w) (in_part cells y) f in
    ap (λ (i : ℕ). i ∷ x) (h v w a.0 b.0) ∙ ap (λ (z : List ℕ). w ∷ z) (k x y a.1 b.1)

out_one : (v w : ℕ) → in_cell Out v ≡ true → in_cell Out w ≡ true → v ≡ w
out_one v w e f = grind (arith, nat_tests)

held_one : (l u v w : ℕ) → u ≤ l → in_cell (Held l u) v ≡ true → in_cell (Held l u) w ≡ true → v ≡ w
held_one l u v w h e f = grind (arith, nat_tests)

next_split : (cell : Cell) (cells : List Cell) → CanSplit cells → CanSplit (cell ∷ cells)
next_split cell cells (Hold i, h) = (Hold (suc i), h)
next_split cell cells (Cut i t, h) = (Cut (suc i) t, h)

-- a part can be split, or has one list at most
pub some_split : (cells : List Cell) → CanSplit cells ⊎ HasOne cells
some_split [] = inr only where
  only : HasOne []
  only [] [] e f = refl
  only [] (w ∷ y) e f = absurd (no_test f)
  only (v ∷ x) y e f = absurd (no_test e)
some_split (Out ∷ cells) = by_rest (some_split cells) where
  by_rest : CanSplit cells ⊎ HasOne cells → CanSplit (Out ∷ cells) ⊎ HasOne (Out ∷ cells)
  by_rest (inl s) = inl (next_split Out cells s)
  by_rest (inr k) = inr (cell_one Out cells out_one k)
some_split (Held l u ∷ cells) = by_width (cases_lt l u) (some_split cells) where
  cuts : l < u → lawful_split (Held l u ∷ cells) (Cut 0 l) ≡ true
  cuts h = grind (arith, nat_tests)

  by_width : (l < u) ⊎ (u ≤ l) → CanSplit cells ⊎ HasOne cells → CanSplit (Held l u ∷ cells) ⊎ HasOne (Held l u ∷ cells)
  by_width (inl h) _ = inl (Cut 0 l, cuts h)
  by_width (inr h) (inl s) = inl (next_split (Held l u) cells s)
  by_width (inr h) (inr k) = inr (cell_one (Held l u) cells (λ v w e f. held_one l u v w h e f) k)
some_split (Free l u ∷ cells) = inl (Hold 0, refl)

-- a part that can be taken further apart has a split
pub open_split : (p : Problem) (part : List Cell) (leaf : Leaf) → IsBound p → IsOpen p part leaf → CanSplit part
open_split p part leaf b o = by_part (some_split part) where
  by_part : CanSplit part ⊎ HasOne part → CanSplit part
  by_part (inl s) = s
  by_part (inr k) =
      let x = meets_pick part p.fewest p.most o.part_is.valid b.range o.met in
      absurd (o.many x.0 (record { pick = x.1; only = λ z i. k z x.0 i.inside x.1.inside }))

-- and so two points at least
pub split_points : (cells : List Cell) → AreCells cells → CanSplit cells → 2 ≤ points cells
split_points cells a s =
    let e = child_sum cells s.0 a s.1 in
    let f = some_point (child_cells cells s.0 First) in
    let g = some_point (child_cells cells s.0 Second) in
    omega arith

-- a node counts at least 1, as a leaf by its points or as a split
node_counts : (node : Node) (fate : Fate) → 1 ≤ at_leaf (points node.part) fate + one_split fate
node_counts node (ends leaf) = let s = some_point node.part in omega arith
node_counts node (forks split k) = omega arith

-- there are no more nodes than the leaves have points and there are splits
pub count_nodes : (nodes : List Node) → length nodes ≤ sum_by leaf_points nodes + splits_of nodes
count_nodes [] = omega arith
count_nodes (node ∷ nodes) =
    let r = count_nodes nodes in
    let a = sum_by-cons leaf_points node nodes in
    let b = sum_by-cons (λ (node : Node). one_split node.fate) node nodes in
    let c = node_counts node node.fate in
    omega arith

-- and fewer where a leaf has two points
pub count_more : (nodes : List Node) (n : ℕ) (node : Node) (leaf : Leaf) → slice_get nodes n ≡ Some node → node.fate ≡ ends leaf → 2 ≤ points node.part → length nodes < sum_by leaf_points nodes + splits_of nodes
count_more [] n node leaf e f h = cc
count_more (first ∷ nodes) zero node leaf e f h =
    let q : first ≡ node = cc in
    let r = count_nodes nodes in
    let a = sum_by-cons leaf_points first nodes in
    let b = sum_by-cons (λ (node : Node). one_split node.fate) first nodes in
    let c : leaf_points first ≡ points node.part = ap leaf_points q ∙ ap (at_leaf (points node.part)) f in
    omega arith
count_more (first ∷ nodes) (suc n) node leaf e f h =
    let r = count_more nodes n node leaf e f h in
    let a = sum_by-cons leaf_points first nodes in
    let b = sum_by-cons (λ (node : Node). one_split node.fate) first nodes in
    let c = node_counts first first.fate in
    omega arith
