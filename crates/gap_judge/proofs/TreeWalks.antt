-- A walk along a tree's items goes through the parts of its nodes.
use Rattle.std.proofs.Common.{◌≡◌, ℕ, zero, suc, ◌+◌, ◌-◌, ◌<◌, ◌≤◌, ◌⊎◌, inl, inr, List, [], ◌∷◌, ◌++◌, length, take, slice_get, refl, sym, ap, ◌∙◌, arith}
use Rattle.std.proofs.lemmas.List.{length-append, take-append-le}
use Rattle.std.proofs.lemmas.List.Sums.{fold-append}
use Rattle.std.proofs.lemmas.Bool.{cases_lt}
use Rattle.gap_box.specs.declared.cell.Cell.{Cell}
use Rattle.gap_box.specs.declared.split.Side.TheVariants.{First, Second}
use Rattle.gap_box.specs.Splits.{child_cells}
use Rattle.gap_cert.specs.declared.field.Field.{Field}
use Rattle.gap_cert.specs.Certificates.{CertTree, tip, fork, CertLeaf, count, void, tangent, leaf_field, tree_fields}
use Rattle.gap_judge.specs.Walks.{node_parts, behind_item, walked}

pub node_count : (part : List Cell) (tree : CertTree) → length (node_parts part tree) ≡ length (tree_fields tree)
unfolding node_parts tree_fields
node_count part (tip leaf) = refl
node_count part (fork s a b) =
    let p = child_cells part s First in
    let q = child_cells part s Second in
    ap suc (length-append (node_parts p a) (node_parts q b) ∙ ap (λ (k : ℕ). k + length (node_parts q b)) (node_count p a) ∙ ap (λ (k : ℕ). length (tree_fields a) + k) (node_count q b) ∙ sym (length-append (tree_fields a) (tree_fields b)))

behind_leaf : (part : List Cell) (parts : List (List Cell)) (leaf : CertLeaf) → behind_item (part ∷ parts) (leaf_field leaf) ≡ parts
behind_leaf part parts count = refl
behind_leaf part parts (void alpha tau) = refl
behind_leaf part parts (tangent w) = refl

-- behind a tree's items its part is gone
pub whole : (part : List Cell) (parts : List (List Cell)) (tree : CertTree) → walked (part ∷ parts) (tree_fields tree) ≡ parts
unfolding tree_fields
whole part parts (tip leaf) = behind_leaf part parts leaf
whole part parts (fork s a b) =
    let p = child_cells part s First in
    let q = child_cells part s Second in
    fold-append behind_item (p ∷ q ∷ parts) (tree_fields a) (tree_fields b) ∙ ap (λ (l : List (List Cell)). walked l (tree_fields b)) (whole p (q ∷ parts) a) ∙ whole q parts b

take_behind : (xs ys : List Field) (i : ℕ) → length xs ≤ i → take i (xs ++ ys) ≡ xs ++ take (i - length xs) ys
take_behind [] ys i h = let e : i - 0 ≡ i = omega arith in ap (λ (k : ℕ). take k ys) (sym e)
take_behind (x ∷ xs) ys zero h = absurd (omega arith)
take_behind (x ∷ xs) ys (suc i) h =
    let e : suc i - suc (length xs) ≡ i - length xs = omega arith in
    ap (λ (l : List Field). x ∷ l) (take_behind xs ys i (omega arith) ∙ ap (λ (k : ℕ). xs ++ take k ys) (sym e))

get_front : (xs ys : List (List Cell)) (i : ℕ) → i < length xs → slice_get (xs ++ ys) i ≡ slice_get xs i
get_front [] ys i h = absurd (omega arith)
get_front (x ∷ xs) ys zero h = refl
get_front (x ∷ xs) ys (suc i) h = get_front xs ys i (omega arith)

get_behind : (xs ys : List (List Cell)) (i : ℕ) → length xs ≤ i → slice_get (xs ++ ys) i ≡ slice_get ys (i - length xs)
get_behind [] ys i h = let e : i - 0 ≡ i = omega arith in ap (slice_get ys) (sym e)
get_behind (x ∷ xs) ys zero h = absurd (omega arith)
get_behind (x ∷ xs) ys (suc i) h =
    let e : suc i - suc (length xs) ≡ i - length xs = omega arith in
    get_behind xs ys i (omega arith) ∙ ap (slice_get ys) (sym e)

-- the nodes of one side, by their number in the order
abbrev Shown : List Cell → List (List Cell) → CertTree → Type 0
Shown part parts tree = (i : ℕ) → i < length (tree_fields tree) → slice_get (walked (part ∷ parts) (take i (tree_fields tree))) 0 ≡ slice_get (node_parts part tree) i

first_side : (p q : List Cell) (parts : List (List Cell)) (a b : CertTree) (i : ℕ) → Shown p (q ∷ parts) a → i < length (tree_fields a) →
    slice_get (walked (p ∷ q ∷ parts) (take i (tree_fields a ++ tree_fields b))) 0 ≡ slice_get (node_parts p a ++ node_parts q b) i
first_side p q parts a b i shown l =
    let n = node_count p a in
    ap (λ (f : List Field). slice_get (walked (p ∷ q ∷ parts) f) 0) (take-append-le i (tree_fields a) (tree_fields b) (omega arith)) ∙ shown i l ∙ sym (get_front (node_parts p a) (node_parts q b) i (omega (arith, n)))

second_side : (p q : List Cell) (parts : List (List Cell)) (a b : CertTree) (i : ℕ) → Shown q parts b → length (tree_fields a) ≤ i → i < length (tree_fields a ++ tree_fields b) →
    slice_get (walked (p ∷ q ∷ parts) (take i (tree_fields a ++ tree_fields b))) 0 ≡ slice_get (node_parts p a ++ node_parts q b) i
second_side p q parts a b i shown l h =
    let n = node_count p a in
    let m = length-append (tree_fields a) (tree_fields b) in
    let k = i - length (tree_fields a) in
    ap (λ (f : List Field). slice_get (walked (p ∷ q ∷ parts) f) 0) (take_behind (tree_fields a) (tree_fields b) i l)
    ∙ ap (λ (w : List (List Cell)). slice_get w 0) (fold-append behind_item (p ∷ q ∷ parts) (tree_fields a) (take k (tree_fields b)) ∙ ap (λ (w : List (List Cell)). walked w (take k (tree_fields b))) (whole p (q ∷ parts) a))
    ∙ shown k (omega (arith, m)) ∙ ap (λ (j : ℕ). slice_get (node_parts q b) (i - j)) (sym n) ∙ sym (get_behind (node_parts p a) (node_parts q b) i (omega (arith, n)))

either_side : (p q : List Cell) (parts : List (List Cell)) (a b : CertTree) (i : ℕ) → Shown p (q ∷ parts) a → Shown q parts b → i < length (tree_fields a ++ tree_fields b) →
    (i < length (tree_fields a)) ⊎ (length (tree_fields a) ≤ i) → slice_get (walked (p ∷ q ∷ parts) (take i (tree_fields a ++ tree_fields b))) 0 ≡ slice_get (node_parts p a ++ node_parts q b) i
either_side p q parts a b i s t h (inl l) = first_side p q parts a b i s l
either_side p q parts a b i s t h (inr l) = second_side p q parts a b i t l h

-- before each item of a tree the first part to come is that of its node
pub shows : (part : List Cell) (parts : List (List Cell)) (tree : CertTree) → Shown part parts tree
unfolding node_parts tree_fields
shows part parts (tip leaf) zero h = refl
shows part parts (tip leaf) (suc i) h = absurd (omega arith)
shows part parts (fork s a b) zero h = refl
shows part parts (fork s a b) (suc i) h =
    let p = child_cells part s First in
    let q = child_cells part s Second in
    either_side p q parts a b i (shows p (q ∷ parts) a) (shows q parts b) (omega arith) (cases_lt i (length (tree_fields a)))
