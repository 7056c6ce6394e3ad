-- Laws of the nodes of a tree by their numbers, where a leaf is split or gets another leaf.

use Rattle.std.proofs.Common.{◌≡◌, ◌≢◌, ℕ, zero, suc, ◌+◌, ◌<◌, ◌≤◌, List, [], ◌∷◌, ◌++◌, length, sum_by, slice_get, Some, refl, sym, ap, ◌∙◌, arith, ◌⊎◌, inl, inr, length-append}
use Rattle.std.proofs.lemmas.Option.{slice_get_within}
use Rattle.std.proofs.lemmas.Bool.{cases_lt, cases_eq}
use Rattle.std.proofs.lemmas.List.Sums.{sum_by-append, sum_by-cons}
use Rattle.gap_box.specs.declared.split.Split.{Split}
use Rattle.gap_box.specs.declared.split.Side.TheVariants.{First, Second}
use Rattle.gap_box.specs.Splits.{child_cells}
use Rattle.gap_model.specs.declared.leaf.Leaf.{Leaf}
use Rattle.gap_model.specs.Nodes.{Fate, forks, Node, part_in, part_at, with_fate, refated, new_leaf, split_nodes}

pub length-refated : (fate : Fate) (nodes : List Node) (n : ℕ) → length (refated fate nodes n) ≡ length nodes
length-refated fate [] n = refl
length-refated fate (node ∷ nodes) zero = refl
length-refated fate (node ∷ nodes) (suc n) = ap suc (length-refated fate nodes n)

pub refated_same : (fate : Fate) (nodes : List Node) (n : ℕ) (node : Node) → slice_get nodes n ≡ Some node → slice_get (refated fate nodes n) n ≡ Some (with_fate fate node)
refated_same fate [] n node e = cc
refated_same fate (m ∷ nodes) zero node e = let f : m ≡ node = cc in ap (λ q. Some (with_fate fate q)) f
refated_same fate (m ∷ nodes) (suc n) node e = refated_same fate nodes n node e

pub refated_other : (fate : Fate) (nodes : List Node) (n m : ℕ) → m ≢ n → slice_get (refated fate nodes n) m ≡ slice_get nodes m
refated_other fate [] n m h = refl
refated_other fate (node ∷ nodes) zero zero h = absurd (h refl)
refated_other fate (node ∷ nodes) zero (suc m) h = refl
refated_other fate (node ∷ nodes) (suc n) zero h = refl
refated_other fate (node ∷ nodes) (suc n) (suc m) h = refated_other fate nodes n m (λ e. h (ap suc e))

pub get-append_left : {X : Type 0} (xs ys : List X) (m : ℕ) → m < length xs → slice_get (xs ++ ys) m ≡ slice_get xs m
get-append_left [] ys m h = absurd (omega arith)
get-append_left (x ∷ xs) ys zero h = refl
get-append_left (x ∷ xs) ys (suc m) h = get-append_left xs ys m (omega arith)

pub get-append_first : {X : Type 0} (xs : List X) (a : X) (ys : List X) (n : ℕ) → n ≡ length xs → slice_get (xs ++ a ∷ ys) n ≡ Some a
get-append_first [] a ys zero e = refl
get-append_first [] a ys (suc n) e = absurd (omega arith)
get-append_first (x ∷ xs) a ys zero e = absurd (omega arith)
get-append_first (x ∷ xs) a ys (suc n) e = get-append_first xs a ys n (omega arith)

pub get-append_second : {X : Type 0} (xs : List X) (a b : X) (n : ℕ) → n ≡ length xs + 1 → slice_get (xs ++ a ∷ b ∷ []) n ≡ Some b
get-append_second [] a b zero e = absurd (omega arith)
get-append_second [] a b (suc zero) e = refl
get-append_second [] a b (suc (suc n)) e = absurd (omega arith)
get-append_second (x ∷ xs) a b zero e = absurd (omega arith)
get-append_second (x ∷ xs) a b (suc n) e = get-append_second xs a b n (omega arith)

-- a node of a list after one was given another fate: one of the others, or that one
pub data RefatedCase (fate : Fate) (nodes : List Node) (n m : ℕ) (node : Node) : Type 0 where
  other : m ≢ n → slice_get nodes m ≡ Some node → RefatedCase fate nodes n m node
  here : m ≡ n → (was : Node) → slice_get nodes n ≡ Some was → node ≡ with_fate fate was → RefatedCase fate nodes n m node

same_node : (a b : Node) → Some a ≡ Some b → a ≡ b
same_node a b e = cc

pub refated_case : (fate : Fate) (nodes : List Node) (n m : ℕ) (was node : Node) → slice_get nodes n ≡ Some was → slice_get (refated fate nodes n) m ≡ Some node → RefatedCase fate nodes n m node
refated_case fate nodes n m was node e f = by_place (cases_eq m n) where
  by_place : (m ≡ n) ⊎ (m ≡ n → ⊥) → RefatedCase fate nodes n m node
  by_place (inl p) = here p was e (same_node node (with_fate fate was) (sym f ∙ ap (λ k. slice_get (refated fate nodes n) k) p ∙ refated_same fate nodes n was e))
  by_place (inr p) = other p (sym (refated_other fate nodes n m p) ∙ f)

-- a node after a leaf was split: an old one, the split one, or one of the two new leaves
pub data SplitCase (nodes : List Node) (n : ℕ) (was : Node) (split : Split) (first second : Leaf) (m : ℕ) (node : Node) : Type 0 where
  old : m ≢ n → slice_get nodes m ≡ Some node → SplitCase nodes n was split first second m node
  forked : m ≡ n → node ≡ with_fate (forks split (length nodes)) was → SplitCase nodes n was split first second m node
  new_first : m ≡ length nodes → node ≡ new_leaf (child_cells was.part split First) n first → SplitCase nodes n was split first second m node
  new_second : m ≡ length nodes + 1 → node ≡ new_leaf (child_cells was.part split Second) n second → SplitCase nodes n was split first second m node

module _ (nodes : List Node) (n : ℕ) (was : Node) (e : slice_get nodes n ≡ Some was) (split : Split) (first second : Leaf) where
  pub part_was : part_at nodes n ≡ was.part
  part_was = ap part_in e

  pub split_front : (m : ℕ) → m < length nodes → slice_get (split_nodes nodes n split first second) m ≡ slice_get (refated (forks split (length nodes)) nodes n) m
  split_front m h =
      let f = length-refated (forks split (length nodes)) nodes n in
      get-append_left (refated (forks split (length nodes)) nodes n) _ m (omega arith)

  pub split_other : (m : ℕ) → m < length nodes → m ≢ n → slice_get (split_nodes nodes n split first second) m ≡ slice_get nodes m
  split_other m h p = split_front m h ∙ refated_other (forks split (length nodes)) nodes n m p

  pub split_here : slice_get (split_nodes nodes n split first second) n ≡ Some (with_fate (forks split (length nodes)) was)
  split_here = split_front n (slice_get_within nodes n was e) ∙ refated_same (forks split (length nodes)) nodes n was e

  pub split_first : slice_get (split_nodes nodes n split first second) (length nodes) ≡ Some (new_leaf (child_cells was.part split First) n first)
  split_first =
      let f = length-refated (forks split (length nodes)) nodes n in
      get-append_first (refated (forks split (length nodes)) nodes n) _ _ (length nodes) (sym f) ∙ ap (λ c. Some (new_leaf (child_cells c split First) n first)) part_was

  pub split_second : slice_get (split_nodes nodes n split first second) (length nodes + 1) ≡ Some (new_leaf (child_cells was.part split Second) n second)
  split_second =
      let f = length-refated (forks split (length nodes)) nodes n in
      get-append_second (refated (forks split (length nodes)) nodes n) _ _ (length nodes + 1) (omega arith) ∙ ap (λ c. Some (new_leaf (child_cells c split Second) n second)) part_was

  pub length-split : length (split_nodes nodes n split first second) ≡ length nodes + 2
  length-split =
      let f = length-refated (forks split (length nodes)) nodes n in
      let g = length-append (refated (forks split (length nodes)) nodes n) (new_leaf (child_cells (part_at nodes n) split First) n first ∷ new_leaf (child_cells (part_at nodes n) split Second) n second ∷ []) in
      omega arith

  pub split_case : (m : ℕ) (node : Node) → slice_get (split_nodes nodes n split first second) m ≡ Some node → SplitCase nodes n was split first second m node
  split_case m node f = by_place (cases_lt m (length nodes)) (cases_eq m n) (cases_eq m (length nodes)) (cases_eq m (length nodes + 1)) where
    by_place : (m < length nodes) ⊎ (length nodes ≤ m) → (m ≡ n) ⊎ (m ≡ n → ⊥) → (m ≡ length nodes) ⊎ (m ≡ length nodes → ⊥) → (m ≡ length nodes + 1) ⊎ (m ≡ length nodes + 1 → ⊥) → SplitCase nodes n was split first second m node
    by_place (inl h) (inl p) _ _ = forked p (same_node node _ (sym f ∙ ap (slice_get (split_nodes nodes n split first second)) p ∙ split_here))
    by_place (inl h) (inr p) _ _ = old p (sym (split_other m h p) ∙ f)
    by_place (inr h) _ (inl p) _ = new_first p (same_node node _ (sym f ∙ ap (slice_get (split_nodes nodes n split first second)) p ∙ split_first))
    by_place (inr h) _ (inr p) (inl q) = new_second q (same_node node _ (sym f ∙ ap (slice_get (split_nodes nodes n split first second)) q ∙ split_second))
    by_place (inr h) _ (inr p) (inr q) =
        let w = slice_get_within (split_nodes nodes n split first second) m node f in
        let l = length-split in
        absurd (omega arith)

-- a sum over the nodes where one got another fate
pub sum-refated : (f : Node → ℕ) (fate : Fate) (nodes : List Node) (n : ℕ) (was : Node) → slice_get nodes n ≡ Some was → sum_by f (refated fate nodes n) + f was ≡ sum_by f nodes + f (with_fate fate was)
sum-refated f fate [] n was e = cc
sum-refated f fate (node ∷ nodes) zero was e =
    let p : node ≡ was = cc in
    let a = sum_by-cons f node nodes in
    let b = sum_by-cons f (with_fate fate node) nodes in
    let d : f node ≡ f was = ap f p in
    let g : f (with_fate fate node) ≡ f (with_fate fate was) = ap (λ q. f (with_fate fate q)) p in
    omega arith
sum-refated f fate (node ∷ nodes) (suc n) was e =
    let a = sum_by-cons f node nodes in
    let b = sum_by-cons f node (refated fate nodes n) in
    let r = sum-refated f fate nodes n was e in
    omega arith

-- a sum over the nodes after a leaf was split
pub sum-split : (f : Node → ℕ) (nodes : List Node) (n : ℕ) (was : Node) → slice_get nodes n ≡ Some was → (split : Split) (first second : Leaf) → sum_by f (split_nodes nodes n split first second) + f was ≡ sum_by f nodes + f (with_fate (forks split (length nodes)) was) + f (new_leaf (child_cells was.part split First) n first) + f (new_leaf (child_cells was.part split Second) n second)
sum-split f nodes n was e split first second =
    let a = new_leaf (child_cells (part_at nodes n) split First) n first in
    let b = new_leaf (child_cells (part_at nodes n) split Second) n second in
    let s = sum_by-append f (refated (forks split (length nodes)) nodes n) (a ∷ b ∷ []) in
    let t = sum_by-cons f a (b ∷ []) in
    let u = sum_by-cons f b [] in
    let r = sum-refated f (forks split (length nodes)) nodes n was e in
    let p : f a ≡ f (new_leaf (child_cells was.part split First) n first) = ap (λ q. f (new_leaf (child_cells (part_in q) split First) n first)) e in
    let q : f b ≡ f (new_leaf (child_cells was.part split Second) n second) = ap (λ q. f (new_leaf (child_cells (part_in q) split Second) n second)) e in
    omega arith
