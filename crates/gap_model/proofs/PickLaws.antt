-- The list of picks has exactly the lists of the part that hold a number of assets in the range.

use Rattle.std.proofs.Common.{◌≡◌, ℕ, zero, suc, ◌+◌, ◌-◌, ◌<◌, ◌≤◌, Bool, true, false, cond, eqb, leb, ◌&&◌, List, [], ◌∷◌, ◌++◌, map, filter, flat_map, ◌⊎◌, inl, inr, refl, sym, ap, ◌∙◌, arith}
use Rattle.std.proofs.lemmas.Bool.Decides.{nat_tests}
use Rattle.std.proofs.lemmas.Bool.{cases_Bool, eqb-true, leb-true, le-leb, cond-true, cond-false, and_parts, and_from}
use Rattle.gap_box.specs.declared.cell.Cell.{Cell}
use Rattle.gap_box.specs.declared.cell.Cell.TheVariants.{Out, Held, Free}
use Rattle.gap_box.specs.Cells.{in_cell}
use Rattle.gap_box.specs.Parts.{in_part, held_count, IsPick}
use Rattle.gap_model.specs.Theta.{numbers_from, numbers_of, lists_of, picks}

-- an element stands in a list
abbrev pub IsAmong : {A : Type 0} → A → List A → Type 0
IsAmong x [] = ⊥
IsAmong x (y ∷ ys) = (y ≡ x) ⊎ IsAmong x ys

pub among_left : {A : Type 0} (x : A) (xs ys : List A) → IsAmong x xs → IsAmong x (xs ++ ys)
among_left x [] ys h = absurd h
among_left x (y ∷ xs) ys (inl e) = inl e
among_left x (y ∷ xs) ys (inr h) = inr (among_left x xs ys h)

pub among_right : {A : Type 0} (x : A) (xs ys : List A) → IsAmong x ys → IsAmong x (xs ++ ys)
among_right x [] ys h = h
among_right x (y ∷ xs) ys h = inr (among_right x xs ys h)

pub among_cases : {A : Type 0} (x : A) (xs ys : List A) → IsAmong x (xs ++ ys) → IsAmong x xs ⊎ IsAmong x ys
among_cases x [] ys h = inr h
among_cases x (y ∷ xs) ys (inl e) = inl (inl e)
among_cases x (y ∷ xs) ys (inr h) = step (among_cases x xs ys h)
  where
    step : IsAmong x xs ⊎ IsAmong x ys → IsAmong x (y ∷ xs) ⊎ IsAmong x ys
    step (inl g) = inl (inr g)
    step (inr g) = inr g

-- ---- numbers of a cell
numbers_has : (l count v : ℕ) → l ≤ v → v < l + count → IsAmong v (numbers_from l count)
numbers_has l zero v h k = absurd (omega arith)
numbers_has l (suc count) v h k = numbers_step l count v (λ g. numbers_has (suc l) count v g (omega arith)) (cases_first l v h)
  where
    cases_first : (l v : ℕ) → l ≤ v → (l ≡ v) ⊎ (suc l ≤ v)
    cases_first l v h = by_test (cases_Bool (eqb l v))
      where
        by_test : (eqb l v ≡ true) ⊎ (eqb l v ≡ false) → (l ≡ v) ⊎ (suc l ≤ v)
        by_test (inl e) = inl (eqb-true l v e)
        by_test (inr e) = inr (grind (arith, nat_tests))

    numbers_step : (l count v : ℕ) → (suc l ≤ v → IsAmong v (numbers_from (suc l) count)) → (l ≡ v) ⊎ (suc l ≤ v) → IsAmong v (numbers_from l (suc count))
    numbers_step l count v go (inl e) = inl e
    numbers_step l count v go (inr g) = inr (go g)

numbers_in : (l count v : ℕ) → IsAmong v (numbers_from l count) → (l ≤ v) × (v < l + count)
numbers_in l zero v h = absurd h
numbers_in l (suc count) v (inl e) = (omega arith, omega arith)
numbers_in l (suc count) v (inr h) = let r = numbers_in (suc l) count v h in (omega arith, omega arith)

cell_has : (cell : Cell) (v : ℕ) → in_cell cell v ≡ true → IsAmong v (numbers_of cell)
cell_has Out v e = inl (grind (arith, nat_tests))
cell_has (Held l u) v e = let r : (l ≤ v) × (v ≤ u) = grind (arith, nat_tests) in numbers_has l (suc u - l) v r.0 (omega arith)
cell_has (Free l u) v e = free_has (cases_Bool (eqb v 0))
  where
    free_has : (eqb v 0 ≡ true) ⊎ (eqb v 0 ≡ false) → IsAmong v (numbers_of (Free l u))
    free_has (inl z) = inl (sym (eqb-true v 0 z))
    free_has (inr z) = let r : (l ≤ v) × (v ≤ u) = grind (arith, nat_tests) in inr (numbers_has l (suc u - l) v r.0 (omega arith))

cell_in : (cell : Cell) (v : ℕ) → IsAmong v (numbers_of cell) → in_cell cell v ≡ true
cell_in Out v (inl e) = grind (arith, nat_tests)
cell_in Out v (inr h) = absurd h
cell_in (Held l u) v h = let r = numbers_in l (suc u - l) v h in let a : l ≤ v = omega arith in let b : v ≤ u = omega arith in grind (arith, nat_tests)
cell_in (Free l u) v (inl e) = grind (arith, nat_tests)
cell_in (Free l u) v (inr h) = let r = numbers_in l (suc u - l) v h in let a : l ≤ v = omega arith in let b : v ≤ u = omega arith in grind (arith, nat_tests)

-- ---- lists of a part
map_has : (v : ℕ) (x : List ℕ) (xs : List (List ℕ)) → IsAmong x xs → IsAmong (v ∷ x) (map (λ z. v ∷ z) xs)
map_has v x [] h = absurd h
map_has v x (y ∷ xs) (inl e) = inl (ap (λ z. v ∷ z) e)
map_has v x (y ∷ xs) (inr h) = inr (map_has v x xs h)

head_of : (a b : ℕ) (x y : List ℕ) → (a ∷ x) ≡ (b ∷ y) → a ≡ b
head_of a b x y e = cc

tail_of : (a b : ℕ) (x y : List ℕ) → (a ∷ x) ≡ (b ∷ y) → x ≡ y
tail_of a b x y e = cc

map_in : (v w : ℕ) (x : List ℕ) (xs : List (List ℕ)) → IsAmong (w ∷ x) (map (λ z. v ∷ z) xs) → (v ≡ w) × IsAmong x xs
map_in v w x [] h = absurd h
map_in v w x (y ∷ xs) (inl e) = (head_of v w y x e, inl (tail_of v w y x e))
map_in v w x (y ∷ xs) (inr h) = let r = map_in v w x xs h in (r.0, inr r.1)

no_empty : (v : ℕ) (xs : List (List ℕ)) → IsAmong [] (map (λ z. v ∷ z) xs) → ⊥
no_empty v [] h = h
no_empty v (y ∷ xs) (inl e) = cc
no_empty v (y ∷ xs) (inr h) = no_empty v xs h

join_has : (vs : List ℕ) (v : ℕ) (x : List ℕ) (xs : List (List ℕ)) → IsAmong v vs → IsAmong x xs → IsAmong (v ∷ x) (flat_map (λ w. map (λ z. w ∷ z) xs) vs)
join_has [] v x xs h k = absurd h
join_has (w ∷ vs) v x xs (inl e) k = among_left (v ∷ x) (map (λ z. w ∷ z) xs) (flat_map (λ w. map (λ z. w ∷ z) xs) vs) (rw e (map_has v x xs k))
join_has (w ∷ vs) v x xs (inr h) k = among_right (v ∷ x) (map (λ z. w ∷ z) xs) (flat_map (λ w. map (λ z. w ∷ z) xs) vs) (join_has vs v x xs h k)

join_in : (vs : List ℕ) (v : ℕ) (x : List ℕ) (xs : List (List ℕ)) → IsAmong (v ∷ x) (flat_map (λ w. map (λ z. w ∷ z) xs) vs) → IsAmong v vs × IsAmong x xs
join_in [] v x xs h = absurd h
join_in (w ∷ vs) v x xs h = join_step w vs v x xs (λ g. join_in vs v x xs g) (among_cases (v ∷ x) (map (λ z. w ∷ z) xs) (flat_map (λ w. map (λ z. w ∷ z) xs) vs) h)
  where
    join_step : (w : ℕ) (vs : List ℕ) (v : ℕ) (x : List ℕ) (xs : List (List ℕ)) → (IsAmong (v ∷ x) (flat_map (λ w. map (λ z. w ∷ z) xs) vs) → IsAmong v vs × IsAmong x xs) → IsAmong (v ∷ x) (map (λ z. w ∷ z) xs) ⊎ IsAmong (v ∷ x) (flat_map (λ w. map (λ z. w ∷ z) xs) vs) → IsAmong v (w ∷ vs) × IsAmong x xs
    join_step w vs v x xs go (inl h) = let r = map_in w v x xs h in (inl r.0, r.1)
    join_step w vs v x xs go (inr h) = let r = go h in (inr r.0, r.1)

join_no_empty : (vs : List ℕ) (xs : List (List ℕ)) → IsAmong [] (flat_map (λ w. map (λ z. w ∷ z) xs) vs) → ⊥
join_no_empty [] xs h = h
join_no_empty (w ∷ vs) xs h = by_side (among_cases [] (map (λ z. w ∷ z) xs) (flat_map (λ w. map (λ z. w ∷ z) xs) vs) h) (λ g. join_no_empty vs xs g)
  where
    by_side : IsAmong [] (map (λ z. w ∷ z) xs) ⊎ IsAmong [] (flat_map (λ w. map (λ z. w ∷ z) xs) vs) → (IsAmong [] (flat_map (λ w. map (λ z. w ∷ z) xs) vs) → ⊥) → ⊥
    by_side (inl g) go = no_empty w xs g
    by_side (inr g) go = go g

pub lists_has : (cells : List Cell) (x : List ℕ) → in_part cells x ≡ true → IsAmong x (lists_of cells)
unfolding lists_of
lists_has [] [] e = inl refl
lists_has [] (v ∷ x) e = cc
lists_has (cell ∷ cells) [] e = cc
lists_has (cell ∷ cells) (v ∷ x) e = let r = and_parts (in_cell cell v) (in_part cells x) e in join_has (numbers_of cell) v x (lists_of cells) (cell_has cell v r.0) (lists_has cells x r.1)

pub lists_in : (cells : List Cell) (x : List ℕ) → IsAmong x (lists_of cells) → in_part cells x ≡ true
unfolding lists_of
lists_in [] [] h = refl
lists_in [] (v ∷ x) (inl e) = cc
lists_in [] (v ∷ x) (inr h) = absurd h
lists_in (cell ∷ cells) [] h = absurd (join_no_empty (numbers_of cell) (lists_of cells) h)
lists_in (cell ∷ cells) (v ∷ x) h = let r = join_in (numbers_of cell) v x (lists_of cells) h in and_from (in_cell cell v) (in_part cells x) (cell_in cell v r.0) (lists_in cells x r.1)

-- ---- lists that a filter keeps
filter_has : (p : List ℕ → Bool) (x : List ℕ) (xs : List (List ℕ)) → IsAmong x xs → p x ≡ true → IsAmong x (filter p xs)
filter_has p x [] h k = absurd h
filter_has p x (y ∷ xs) (inl e) k = let t : p y ≡ true = ap p e ∙ k in rw (cond-true (p y) (y ∷ filter p xs) (filter p xs) t) (inl e)
filter_has p x (y ∷ xs) (inr h) k = filter_by (cases_Bool (p y)) (filter_has p x xs h k)
  where
    filter_by : (p y ≡ true) ⊎ (p y ≡ false) → IsAmong x (filter p xs) → IsAmong x (filter p (y ∷ xs))
    filter_by (inl t) g = rw (cond-true (p y) (y ∷ filter p xs) (filter p xs) t) (inr g)
    filter_by (inr t) g = rw (cond-false (p y) (y ∷ filter p xs) (filter p xs) t) g

filter_in : (p : List ℕ → Bool) (x : List ℕ) (xs : List (List ℕ)) → IsAmong x (filter p xs) → IsAmong x xs × (p x ≡ true)
filter_in p x [] h = absurd h
filter_in p x (y ∷ xs) h = filter_step p x y xs (λ g. filter_in p x xs g) (cases_Bool (p y)) h
  where
    kept : (p : List ℕ → Bool) (x y : List ℕ) (xs : List (List ℕ)) → (IsAmong x (filter p xs) → IsAmong x xs × (p x ≡ true)) → p y ≡ true → IsAmong x (y ∷ filter p xs) → IsAmong x (y ∷ xs) × (p x ≡ true)
    kept p x y xs go t (inl e) = (inl e, ap p (sym e) ∙ t)
    kept p x y xs go t (inr g) = let r = go g in (inr r.0, r.1)

    filter_step : (p : List ℕ → Bool) (x y : List ℕ) (xs : List (List ℕ)) → (IsAmong x (filter p xs) → IsAmong x xs × (p x ≡ true)) → (p y ≡ true) ⊎ (p y ≡ false) → IsAmong x (cond (p y) (y ∷ filter p xs) (filter p xs)) → IsAmong x (y ∷ xs) × (p x ≡ true)
    filter_step p x y xs go (inl t) h = kept p x y xs go t (rw (cond-true (p y) (y ∷ filter p xs) (filter p xs) t) at h)
    filter_step p x y xs go (inr t) h = let r = go (rw (cond-false (p y) (y ∷ filter p xs) (filter p xs) t) at h) in (inr r.0, r.1)

-- each list of the part that holds a number of assets in the range is among the picks
pub picks_has : (cells : List Cell) (fewest most : ℕ) (x : List ℕ) → IsPick cells fewest most x → IsAmong x (picks cells fewest most)
unfolding picks
picks_has cells fewest most x h = filter_has (λ z. leb fewest (held_count z) && leb (held_count z) most) x (lists_of cells) (lists_has cells x h.inside) (and_from (leb fewest (held_count x)) (leb (held_count x) most) (le-leb fewest (held_count x) h.few) (le-leb (held_count x) most h.many))

-- and no other list
pub picks_in : (cells : List Cell) (fewest most : ℕ) (x : List ℕ) → IsAmong x (picks cells fewest most) → IsPick cells fewest most x
unfolding picks
picks_in cells fewest most x h =
    let r = filter_in (λ z. leb fewest (held_count z) && leb (held_count z) most) x (lists_of cells) h in
    let b = and_parts (leb fewest (held_count x)) (leb (held_count x) most) r.1 in
    record { inside = lists_in cells x r.0; few = leb-true fewest (held_count x) b.0; many = leb-true (held_count x) most b.1 }
