-- Each node of a tree but its root is a child of exactly one that forks, and the tree of splits that stands at the root has
-- as many splits as the list of nodes.

use Rattle.std.proofs.Common.{◌≡◌, ℕ, zero, suc, ◌+◌, ◌*◌, ◌<◌, ◌≤◌, if◌then◌else◌, ◌==◌, List, [], ◌∷◌, length, slice_get, Option, Some, None, ℤ, pos, ◌+ℤ◌, ◌-ℤ◌, ◌*ℤ◌, ◌≤ℤ◌, inl, inr, ◌⊎◌, refl, sym, ap, ◌∙◌, subst, arith, add-one}
use Rattle.std.specs.List.{sum_by}
use Rattle.std.proofs.lemmas.List.Sums.{sum_by-cons}
use Rattle.std.proofs.lemmas.Int.{ints}
use Rattle.std.proofs.lemmas.Option.{slice_get_within}
use Rattle.std.proofs.lemmas.Bool.{cases_eq, cases_lt}
use Rattle.std.proofs.lemmas.Bool.Decides.{nat_tests}
use Rattle.std.proofs.Math.IntN.{*ℤ-zero}
use Rattle.gap_base.specs.Sums.{sum_below, unit}
use Rattle.gap_base.proofs.Ring.{*ℤ-+ℤ, if_same, if_other, linear}
use Rattle.gap_base.proofs.SumLaws.{sum_none, sum_more, sum_same, sum_all_zero, sum-add, sum-sub, sum-scale, sum-const, sum-swap, sum_le, sum_not_negative, sum_pick, sum_split, sum-unit}
use Rattle.gap_box.specs.declared.split.Split.{Split}
use Rattle.gap_model.specs.Nodes.{Fate, ends, forks, Node, one_split, splits_of, parent_in, parent_at, IsTree}

-- by how often a node is a child of one with this fate
abbrev kid : Fate → ℕ → ℤ
kid (ends leaf) j = pos 0
kid (forks split k) j = unit k j +ℤ unit (k + 1) j

abbrev row : Option Node → ℕ → ℤ
row None j = pos 0
row (Some node) j = kid node.fate j

-- f at the children
abbrev pub pair : (ℕ → ℤ) → Fate → ℤ
pair f (ends leaf) = pos 0
pair f (forks split k) = f k +ℤ f (k + 1)

abbrev pub pairs : (ℕ → ℤ) → Option Node → ℤ
pairs f None = pos 0
pairs f (Some node) = pair f node.fate

abbrev pub value : (Node → ℕ) → Option Node → ℤ
value f None = pos 0
value f (Some node) = pos (f node)

times_one : (z : ℤ) → z *ℤ pos 1 ≡ z
times_one z = omega (arith, linear)

front : (n : ℕ) (f : ℕ → ℤ) → sum_below (suc n) f ≡ f 0 +ℤ sum_below n (λ k. f (suc k))
unfolding sum_below
front zero f = omega (arith, linear)
front (suc n) f = let e = front n f in omega (arith, linear)

-- a sum over nodes by their numbers
pub sum_get : (f : Node → ℕ) (nodes : List Node) → pos (sum_by f nodes) ≡ sum_below (length nodes) (λ k. value f (slice_get nodes k))
sum_get f [] = sym (sum_none (λ k. value f (slice_get [] k)))
sum_get f (x ∷ xs) =
    let e = sum_by-cons f x xs in
    let r = sum_get f xs in
    let g = front (length xs) (λ k. value f (slice_get (x ∷ xs) k)) in
    ap pos e ∙ ap (λ (z : ℤ). pos (f x) +ℤ z) r ∙ sym g

pub node_there : (nodes : List Node) (n : ℕ) → n < length nodes → (node : Node) × (slice_get nodes n ≡ Some node)
node_there [] n l = absurd (omega arith)
node_there (node ∷ nodes) zero l = (node, refl)
node_there (node ∷ nodes) (suc n) l = node_there nodes n (omega arith)

-- terms that aren't negative and have the sum 0 are 0
zero_terms : (n : ℕ) (f : ℕ → ℤ) → ((k : ℕ) → k < n → pos 0 ≤ℤ f k) → sum_below n f ≡ pos 0 → (i : ℕ) → i < n → f i ≡ pos 0
zero_terms n f h e i l =
    let s = sum_split n i f l in
    let r = sum_not_negative n (λ k. if k == i then pos 0 else f k) (λ k m. other k (h k m)) in
    let a = h i l in
    omega (arith, linear) where
      other : (k : ℕ) → pos 0 ≤ℤ f k → pos 0 ≤ℤ (if k == i then pos 0 else f k)
      other k m = grind (arith, ints, nat_tests)

-- the weights of the children of a fate
abbrev below : Fate → ℕ → Type 0
below (ends leaf) n = Unit {0}
below (forks split k) n = k + 1 < n

kid_term : (a b c : ℤ) → a *ℤ (b +ℤ c) ≡ a *ℤ b +ℤ a *ℤ c
kid_term a b c = *ℤ-+ℤ a b c

row_sum : (n : ℕ) (f : ℕ → ℤ) (fate : Fate) → below fate n → sum_below n (λ j. f j *ℤ kid fate j) ≡ pair f fate
row_sum n f (ends leaf) l = sum_all_zero n (λ j. f j *ℤ pos 0) (λ j m. *ℤ-zero (f j))
row_sum n f (forks split k) l =
    sum_same n (λ j. f j *ℤ (unit k j +ℤ unit (k + 1) j)) (λ j. f j *ℤ unit k j +ℤ f j *ℤ unit (k + 1) j) (λ j m. kid_term (f j) (unit k j) (unit (k + 1) j))
    ∙ sum-add n (λ j. f j *ℤ unit k j) (λ j. f j *ℤ unit (k + 1) j)
    ∙ (let a = sum-unit n k f (omega arith) in let b = sum-unit n (k + 1) f l in omega (arith, linear))

-- 1 at the parent
abbrev chosen : Option ℕ → ℕ → ℤ
chosen None n = pos 0
chosen (Some p) n = if n == p then pos 1 else pos 0

chosen_sum : (n : ℕ) (p : Option ℕ) → sum_below n (chosen p) ≤ℤ pos 1
chosen_sum n None = let e = sum_all_zero n (λ k. pos 0) (λ k l. refl) in omega (arith, linear)
chosen_sum n (Some p) = by_place (cases_lt p n) where
  by_place : ((p < n) ⊎ (n ≤ p)) → sum_below n (λ k. if k == p then pos 1 else pos 0) ≤ℤ pos 1
  by_place (inl l) = let e = sum_pick n p (λ k. pos 1) l in omega (arith, linear)
  by_place (inr l) = let e = sum_all_zero n (λ k. if k == p then pos 1 else pos 0) (λ k m. if_other k p (pos 1) (pos 0) (λ q. omega arith)) in omega (arith, linear)

-- a node is a child of n alone where n is its parent
kid_chosen : (fate : Fate) (n j : ℕ) (p : Option ℕ) → ((split : Split) (k : ℕ) → fate ≡ forks split k → (j ≡ k) ⊎ (j ≡ k + 1) → p ≡ Some n) → kid fate j ≤ℤ chosen p n
kid_chosen (ends leaf) n j None h = omega (arith, ints)
kid_chosen (ends leaf) n j (Some p) h = grind (arith, ints, nat_tests)
kid_chosen (forks split k) n j p h = by_place (cases_eq j k) (cases_eq j (k + 1)) where
  one : p ≡ Some n → chosen p n ≡ pos 1
  one e = ap (λ (q : Option ℕ). chosen q n) e ∙ if_same n n (pos 1) (pos 0) refl

  least : (q : Option ℕ) → pos 0 ≤ℤ chosen q n
  least None = omega (arith, ints)
  least (Some q) = grind (arith, ints, nat_tests)

  by_place : (j ≡ k) ⊎ (j ≡ k → ⊥) → (j ≡ k + 1) ⊎ (j ≡ k + 1 → ⊥) → (unit k j +ℤ unit (k + 1) j) ≤ℤ chosen p n
  by_place (inl a) y =
      let e = one (h split k refl (inl a)) in
      let u = if_same j k (pos 1) (pos 0) a in
      let v = if_other j (k + 1) (pos 1) (pos 0) (λ q. omega arith) in
      omega (arith, linear)
  by_place (inr a) (inl b) =
      let e = one (h split k refl (inr b)) in
      let u = if_other j k (pos 1) (pos 0) a in
      let v = if_same j (k + 1) (pos 1) (pos 0) b in
      omega (arith, linear)
  by_place (inr a) (inr b) =
      let e = least p in
      let u = if_other j k (pos 1) (pos 0) a in
      let v = if_other j (k + 1) (pos 1) (pos 0) b in
      omega (arith, linear)

-- a node that forks has a node as a child
pub record IsParent (nodes : List Node) (j : ℕ) : Type 0 where
  pub parent : ℕ
  pub node : Node
  pub split : Split
  pub first : ℕ
  pub there : slice_get nodes parent ≡ Some node
  pub fate_is : node.fate ≡ forks split first
  pub child : (j ≡ first) ⊎ (j ≡ first + 1)
  pub behind : parent < j

-- 0 at the root, 1 at every other node
abbrev after_root : ℕ → ℤ
after_root j = if j == 0 then pos 0 else pos 1

module _ (nodes : List Node) (h : IsTree nodes) where
  -- how often a node is a child
  abbrev times : ℕ → ℤ
  times j = sum_below (length nodes) (λ n. row (slice_get nodes n) j)

  fate_below : (n : ℕ) (node : Node) → slice_get nodes n ≡ Some node → (fate : Fate) → node.fate ≡ fate → below fate (length nodes)
  fate_below n node e (ends leaf) f = tt
  fate_below n node e (forks split k) f = let c = h.children n node split k e f in slice_get_within nodes (k + 1) c.second.node c.second.there

  parent_of : (n j : ℕ) (node : Node) → slice_get nodes n ≡ Some node → (split : Split) (k : ℕ) → node.fate ≡ forks split k → (j ≡ k) ⊎ (j ≡ k + 1) → parent_at nodes j ≡ Some n
  parent_of n j node e split k f (inl a) = let c = h.children n node split k e f in ap (λ (m : ℕ). parent_at nodes m) a ∙ ap parent_in c.first.there ∙ c.first.parent_is
  parent_of n j node e split k f (inr a) = let c = h.children n node split k e f in ap (λ (m : ℕ). parent_at nodes m) a ∙ ap parent_in c.second.there ∙ c.second.parent_is

  row_chosen : (n j : ℕ) → n < length nodes → row (slice_get nodes n) j ≤ℤ chosen (parent_at nodes j) n
  row_chosen n j l =
      let o = node_there nodes n l in
      let e : row (slice_get nodes n) j ≡ kid o.0.fate j = ap (λ (q : Option Node). row q j) o.1 in
      let k = kid_chosen o.0.fate n j (parent_at nodes j) (λ split k f g. parent_of n j o.0 o.1 split k f g) in
      omega (arith, linear)

  times_most : (j : ℕ) → times j ≤ℤ pos 1
  times_most j =
      let a = sum_le (length nodes) (λ n. row (slice_get nodes n) j) (chosen (parent_at nodes j)) (λ n l. row_chosen n j l) in
      let b = chosen_sum (length nodes) (parent_at nodes j) in
      omega (arith, linear)

  root_parent : parent_at nodes 0 ≡ None
  root_parent = ap parent_in h.root.1 ∙ h.root.2

  times_root : times 0 ≤ℤ pos 0
  times_root =
      let a = sum_le (length nodes) (λ n. row (slice_get nodes n) 0) (chosen (parent_at nodes 0)) (λ n l. row_chosen n 0 l) in
      let e : sum_below (length nodes) (chosen (parent_at nodes 0)) ≡ pos 0 = ap (λ (q : Option ℕ). sum_below (length nodes) (chosen q)) root_parent ∙ sum_all_zero (length nodes) (λ k. pos 0) (λ k l. refl) in
      omega (arith, linear)

  times_within : (j : ℕ) → times j ≤ℤ after_root j
  times_within j = by_place (cases_eq j 0) where
    by_place : (j ≡ 0) ⊎ (j ≡ 0 → ⊥) → times j ≤ℤ after_root j
    by_place (inl a) = let t = times_root in let e = ap times a in let u = if_same j 0 (pos 0) (pos 1) a in omega (arith, linear)
    by_place (inr a) = let t = times_most j in let u = if_other j 0 (pos 0) (pos 1) a in omega (arith, linear)

  -- a sum over all children is a sum over the nodes that fork
  weighted : (f : ℕ → ℤ) → sum_below (length nodes) (λ j. f j *ℤ times j) ≡ sum_below (length nodes) (λ n. pairs f (slice_get nodes n))
  weighted f =
      sum_same (length nodes) (λ j. f j *ℤ times j) (λ j. sum_below (length nodes) (λ n. f j *ℤ row (slice_get nodes n) j)) (λ j l. sym (sum-scale (length nodes) (f j) (λ n. row (slice_get nodes n) j)))
      ∙ sum-swap (length nodes) (length nodes) (λ j n. f j *ℤ row (slice_get nodes n) j)
      ∙ sum_same (length nodes) (λ n. sum_below (length nodes) (λ j. f j *ℤ row (slice_get nodes n) j)) (λ n. pairs f (slice_get nodes n)) (λ n l. at_node n l) where
        at_node : (n : ℕ) → n < length nodes → sum_below (length nodes) (λ j. f j *ℤ row (slice_get nodes n) j) ≡ pairs f (slice_get nodes n)
        at_node n l =
            let o = node_there nodes n l in
            ap (λ (q : Option Node). sum_below (length nodes) (λ j. f j *ℤ row q j)) o.1
            ∙ row_sum (length nodes) f o.0.fate (fate_below n o.0 o.1 o.0.fate refl)
            ∙ ap (pairs f) (sym o.1)

  two_each : (o : Option Node) → pairs (λ j. pos 1) o ≡ pos 2 *ℤ value (λ (node : Node). one_split node.fate) o
  two_each None = omega (arith, ints)
  two_each (Some node) = by_fate node.fate where
    by_fate : (fate : Fate) → pair (λ j. pos 1) fate ≡ pos 2 *ℤ pos (one_split fate)
    by_fate (ends leaf) = omega (arith, ints)
    by_fate (forks split k) = omega (arith, ints)

  root_first : 0 < length nodes
  root_first = slice_get_within nodes 0 h.root.0 h.root.1

  times_sum : sum_below (length nodes) times ≡ pos (2 * splits_of nodes)
  times_sum =
      let a = sum_same (length nodes) times (λ j. pos 1 *ℤ times j) (λ j l. sym (one_times (times j))) in
      let b = weighted (λ j. pos 1) in
      let c = sum_same (length nodes) (λ n. pairs (λ j. pos 1) (slice_get nodes n)) (λ n. pos 2 *ℤ value (λ (node : Node). one_split node.fate) (slice_get nodes n)) (λ n l. two_each (slice_get nodes n)) in
      let d = sum-scale (length nodes) (pos 2) (λ n. value (λ (node : Node). one_split node.fate) (slice_get nodes n)) in
      let e = sum_get (λ (node : Node). one_split node.fate) nodes in
      omega (arith, linear) where
        one_times : (z : ℤ) → pos 1 *ℤ z ≡ z
        one_times z = omega (arith, ints)

  others_sum : (f : ℕ → ℤ) → sum_below (length nodes) f ≡ f 0 +ℤ sum_below (length nodes) (λ k. if k == 0 then pos 0 else f k)
  others_sum f = sum_split (length nodes) 0 f root_first

  -- each node but the root is a child exactly once
  times_is : (j : ℕ) → j < length nodes → times j ≡ after_root j
  times_is j l =
      let a = others_sum (λ k. pos 1) in
      let b = sum-const (length nodes) (pos 1) in
      let c = sum-sub (length nodes) after_root times in
      let d = times_sum in
      let n = h.number in
      let z : sum_below (length nodes) (λ k. after_root k -ℤ times k) ≡ pos 0 = omega (arith, linear) in
      let e = zero_terms (length nodes) (λ k. after_root k -ℤ times k) (λ k m. apart k) z j l in
      omega (arith, linear) where
        apart : (k : ℕ) → pos 0 ≤ℤ (after_root k -ℤ times k)
        apart k = let t = times_within k in omega (arith, linear)

  -- what is counted up a tree of which each node adds 1 where it forks is the number of splits at the root
  pub counted : (g : ℕ → ℤ) → ((n : ℕ) → n < length nodes → g n ≡ value (λ (node : Node). one_split node.fate) (slice_get nodes n) +ℤ pairs g (slice_get nodes n)) → g 0 ≡ pos (splits_of nodes)
  counted g up =
      let a = sum_same (length nodes) g (λ n. value (λ (node : Node). one_split node.fate) (slice_get nodes n) +ℤ pairs g (slice_get nodes n)) up in
      let b = sum-add (length nodes) (λ n. value (λ (node : Node). one_split node.fate) (slice_get nodes n)) (λ n. pairs g (slice_get nodes n)) in
      let c = sum_get (λ (node : Node). one_split node.fate) nodes in
      let d = weighted g in
      let e = sum_same (length nodes) (λ j. g j *ℤ times j) (λ j. if j == 0 then pos 0 else g j) (λ j l. term j (times_is j l)) in
      let f = others_sum g in
      omega (arith, linear) where
        term : (j : ℕ) → times j ≡ after_root j → g j *ℤ times j ≡ (if j == 0 then pos 0 else g j)
        term j e = ap (λ (z : ℤ). g j *ℤ z) e ∙ by_place (cases_eq j 0) where
          by_place : (j ≡ 0) ⊎ (j ≡ 0 → ⊥) → g j *ℤ after_root j ≡ (if j == 0 then pos 0 else g j)
          by_place (inl a) = ap (λ (z : ℤ). g j *ℤ z) (if_same j 0 (pos 0) (pos 1) a) ∙ *ℤ-zero (g j) ∙ sym (if_same j 0 (pos 0) (g j) a)
          by_place (inr a) = ap (λ (z : ℤ). g j *ℤ z) (if_other j 0 (pos 0) (pos 1) a) ∙ times_one (g j) ∙ sym (if_other j 0 (pos 0) (g j) a)

  -- the parent of a node
  abbrev Found : ℕ → ℕ → Type 0
  Found j n = IsParent nodes j ⊎ (sum_below n (λ m. row (slice_get nodes m) j) ≡ pos 0)

  apart_from : (j : ℕ) (split : Split) (k : ℕ) → (j ≡ k → ⊥) → (j ≡ k + 1 → ⊥) → kid (forks split k) j ≡ pos 0
  apart_from j split k a b =
      let u = if_other j k (pos 1) (pos 0) a in
      let v = if_other j (k + 1) (pos 1) (pos 0) b in
      omega (arith, linear)

  parent_at_node : (j n : ℕ) (node : Node) → slice_get nodes n ≡ Some node → (fate : Fate) → node.fate ≡ fate → IsParent nodes j ⊎ (kid fate j ≡ pos 0)
  parent_at_node j n node e (ends leaf) f = inr refl
  parent_at_node j n node e (forks split k) f = by_place (cases_eq j k) (cases_eq j (k + 1)) where
    by_place : (j ≡ k) ⊎ (j ≡ k → ⊥) → (j ≡ k + 1) ⊎ (j ≡ k + 1 → ⊥) → IsParent nodes j ⊎ (kid (forks split k) j ≡ pos 0)
    by_place (inl a) y = inl (record { parent = n; node = node; split = split; first = k; there = e; fate_is = f; child = inl a; behind = let c = (h.children n node split k e f).behind in omega arith })
    by_place (inr a) (inl b) = inl (record { parent = n; node = node; split = split; first = k; there = e; fate_is = f; child = inr b; behind = let c = (h.children n node split k e f).behind in omega arith })
    by_place (inr a) (inr b) = inr (apart_from j split k a b)

  step_found : (j n : ℕ) → n < length nodes → Found j n → Found j (n + 1)
  step_found j n l (inl p) = inl p
  step_found j n l (inr e) = (let o = node_there nodes n l in by_node o.0 o.1 (parent_at_node j n o.0 o.1 o.0.fate refl)) where
    by_node : (node : Node) → slice_get nodes n ≡ Some node → IsParent nodes j ⊎ (kid node.fate j ≡ pos 0) → Found j (n + 1)
    by_node node t (inl p) = inl p
    by_node node t (inr z) =
        let a = sum_more n (λ m. row (slice_get nodes m) j) in
        let b : row (slice_get nodes n) j ≡ pos 0 = ap (λ (q : Option Node). row q j) t ∙ z in
        inr (omega (arith, linear))

  find_parent : (j n : ℕ) → n ≤ length nodes → Found j n
  find_parent j zero l = inr (sum_none (λ m. row (slice_get nodes m) j))
  find_parent j (suc n) l = subst (λ (m : ℕ). Found j m) (add-one n) (step_found j n (omega arith) (find_parent j n (omega arith)))

  pub has_parent : (j : ℕ) → 0 < j → j < length nodes → IsParent nodes j
  has_parent j some l = by_found (find_parent j (length nodes) (omega arith)) where
    by_found : Found j (length nodes) → IsParent nodes j
    by_found (inl p) = p
    by_found (inr e) =
        let t = times_is j l in
        let u = if_other j 0 (pos 0) (pos 1) (λ q. omega arith) in
        absurd (omega (arith, linear))
