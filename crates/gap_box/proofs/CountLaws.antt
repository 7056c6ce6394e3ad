-- How many assets the lists of a part can hold.

use Rattle.std.proofs.Common.{◌≡◌, ◌↔◌, ℕ, zero, suc, ◌+◌, ◌-◌, ◌<◌, ◌≤◌, Bool, true, false, ◌&&◌, ltb, leb, cond, List, [], ◌∷◌, IsTrue, refl, arith}
use Rattle.std.proofs.lemmas.Bool.Decides.{nat_tests}
use Rattle.std.proofs.lemmas.List.Sums.{sum_by-cons}
use Rattle.gap_box.specs.declared.cell.Cell.{Cell}
use Rattle.gap_box.specs.declared.cell.Cell.TheVariants.{Out, Held, Free}
use Rattle.gap_box.specs.Cells.{IsCell, AreCells, in_cell, is_held, is_free}
use Rattle.gap_box.specs.Parts.{in_part, held_count, helds, frees, can_meet, IsPick}
use Rattle.gap_box.proofs.CellLaws.{rest_are, first_is}

-- 1 where a number of lots is positive
abbrev pub one_held : ℕ → ℕ
one_held v = cond (ltb 0 v) 1 0

abbrev pub one_must : Cell → ℕ
one_must cell = cond (is_held cell) 1 0

abbrev pub one_may : Cell → ℕ
one_may cell = cond (is_free cell) 1 0

pub held_count-cons : (v : ℕ) (x : List ℕ) → held_count (v ∷ x) ≡ one_held v + held_count x
held_count-cons v x = sum_by-cons (λ q. one_held q) v x

pub helds-cons : (c : Cell) (cells : List Cell) → helds (c ∷ cells) ≡ one_must c + helds cells
helds-cons c cells = sum_by-cons (λ q. one_must q) c cells

pub frees-cons : (c : Cell) (cells : List Cell) → frees (c ∷ cells) ≡ one_may c + frees cells
frees-cons c cells = sum_by-cons (λ q. one_may q) c cells

pub both_true : (p q : Bool) → (p && q) ≡ true → (p ≡ true) × (q ≡ true)
both_true true true e = (refl, refl)
both_true true false e = cc
both_true false q e = cc

pub and_true : (p q : Bool) → p ≡ true → q ≡ true → (p && q) ≡ true
and_true p q e f = rw (e, f) refl

-- what one cell lets be held
pub cell_range : (cell : Cell) (v : ℕ) → IsCell cell → in_cell cell v ≡ true → (one_must cell ≤ one_held v) × (one_held v ≤ one_must cell + one_may cell)
cell_range Out v h e = (grind (arith, nat_tests), grind (arith, nat_tests))
cell_range (Held l u) v h e = (grind (arith, nat_tests), grind (arith, nat_tests))
cell_range (Free l u) v h e = (grind (arith, nat_tests), grind (arith, nat_tests))

-- each list of a part holds at least the cells that must be held, and at most those and the free ones
pub pick_range : (cells : List Cell) (x : List ℕ) → AreCells cells → IsTrue (in_part cells x) → (helds cells ≤ held_count x) × (held_count x ≤ helds cells + frees cells)
pick_range [] [] h e = (omega arith, omega arith)
pick_range [] (v ∷ x) h e = cc
pick_range (c ∷ cells) [] h e = cc
pick_range (c ∷ cells) (v ∷ x) h e =
    let b = both_true (in_cell c v) (in_part cells x) e in
    let one = cell_range c v (first_is c cells h) b.0 in
    let more = pick_range cells x (rest_are c cells h) b.1 in
    let e1 = held_count-cons v x in
    let e2 = helds-cons c cells in
    let e3 = frees-cons c cells in
    (omega arith, omega arith)

-- a list that holds from `fewest` to `most` assets means that the count can be met
pub pick_meets : (cells : List Cell) (fewest most : ℕ) (x : List ℕ) → AreCells cells → IsPick cells fewest most x → can_meet cells fewest most ≡ true
pick_meets cells fewest most x h p =
    let r = pick_range cells x h p.inside in
    let few = p.few in
    let many = p.many in
    let a : helds cells ≤ most = omega arith in
    let b : fewest ≤ helds cells + frees cells = omega arith in
    and_true _ _ (le_true _ _ a) (le_true _ _ b)
  where
    le_true : (m n : ℕ) → m ≤ n → leb m n ≡ true
    le_true m n h = grind (arith, nat_tests)

-- a list with exactly k positive numbers is one with from k to k
pub exact_pick : (cells : List Cell) (k : ℕ) (x : List ℕ) → in_part cells x ≡ true → held_count x ≡ k → IsPick cells k k x
exact_pick cells k x h e = record { inside = h; few = omega arith; many = omega arith }

pub pick_count : (cells : List Cell) (k : ℕ) (x : List ℕ) → IsPick cells k k x → held_count x ≡ k
pick_count cells k x p = let a = p.few in let b = p.many in omega arith

-- the list that holds the first j free cells
abbrev pub firsts : ℕ → List Cell → List ℕ
firsts j [] = []
firsts j (Out ∷ cells) = 0 ∷ firsts j cells
firsts j (Held l u ∷ cells) = l ∷ firsts j cells
firsts zero (Free l u ∷ cells) = 0 ∷ firsts zero cells
firsts (suc j) (Free l u ∷ cells) = l ∷ firsts j cells

-- the list that holds the first j free cells behind the first of all
abbrev pub nexts : ℕ → List Cell → List ℕ
nexts j [] = []
nexts j (Out ∷ cells) = 0 ∷ nexts j cells
nexts j (Held l u ∷ cells) = l ∷ nexts j cells
nexts j (Free l u ∷ cells) = 0 ∷ firsts j cells

pub in_held : (l u : ℕ) → l ≤ u → in_cell (Held l u) l ≡ true
in_held l u h = grind (arith, nat_tests)

pub in_free : (l u : ℕ) → l ≤ u → in_cell (Free l u) l ≡ true
in_free l u h = grind (arith, nat_tests)

pub firsts_in : (j : ℕ) (cells : List Cell) → AreCells cells → in_part cells (firsts j cells) ≡ true
firsts_in j [] h = refl
firsts_in j (Out ∷ cells) h = firsts_in j cells (rest_are _ cells h)
firsts_in j (Held l u ∷ cells) h = and_true _ _ (in_held l u (first_is _ cells h).1) (firsts_in j cells (rest_are _ cells h))
firsts_in zero (Free l u ∷ cells) h = firsts_in zero cells (rest_are _ cells h)
firsts_in (suc j) (Free l u ∷ cells) h = and_true _ _ (in_free l u (first_is _ cells h).1) (firsts_in j cells (rest_are _ cells h))

pub nexts_in : (j : ℕ) (cells : List Cell) → AreCells cells → in_part cells (nexts j cells) ≡ true
nexts_in j [] h = refl
nexts_in j (Out ∷ cells) h = nexts_in j cells (rest_are _ cells h)
nexts_in j (Held l u ∷ cells) h = and_true _ _ (in_held l u (first_is _ cells h).1) (nexts_in j cells (rest_are _ cells h))
nexts_in j (Free l u ∷ cells) h = firsts_in j cells (rest_are _ cells h)

pub held_one : (v : ℕ) (x : List ℕ) → 1 ≤ v → held_count (v ∷ x) ≡ 1 + held_count x
held_one v x h = let e = held_count-cons v x in let f : one_held v ≡ 1 = grind (arith, nat_tests) in omega arith

pub firsts_count : (j : ℕ) (cells : List Cell) → AreCells cells → j ≤ frees cells → held_count (firsts j cells) ≡ helds cells + j
firsts_count j [] h e = omega arith
firsts_count j (Out ∷ cells) h e =
    let a = firsts_count j cells (rest_are _ cells h) e in a
firsts_count j (Held l u ∷ cells) h e =
    let a = firsts_count j cells (rest_are _ cells h) e in
    let b = held_one l (firsts j cells) (first_is _ cells h).0 in
    let c = helds-cons (Held l u) cells in
    omega arith
firsts_count zero (Free l u ∷ cells) h e =
    let a = firsts_count zero cells (rest_are _ cells h) (omega arith) in a
firsts_count (suc j) (Free l u ∷ cells) h e =
    let d = frees-cons (Free l u) cells in
    let a = firsts_count j cells (rest_are _ cells h) (omega arith) in
    let b = held_one l (firsts j cells) (first_is _ cells h).0 in
    omega arith

pub nexts_count : (j : ℕ) (cells : List Cell) → AreCells cells → j < frees cells → held_count (nexts j cells) ≡ helds cells + j
nexts_count j [] h e = absurd (omega arith)
nexts_count j (Out ∷ cells) h e =
    let a = nexts_count j cells (rest_are _ cells h) e in a
nexts_count j (Held l u ∷ cells) h e =
    let a = nexts_count j cells (rest_are _ cells h) e in
    let b = held_one l (nexts j cells) (first_is _ cells h).0 in
    let c = helds-cons (Held l u) cells in
    omega arith
nexts_count j (Free l u ∷ cells) h e =
    let d = frees-cons (Free l u) cells in
    firsts_count j cells (rest_are _ cells h) (omega arith)

head_same : (a b : ℕ) (x y : List ℕ) → (a ∷ x) ≡ (b ∷ y) → a ≡ b
head_same a b x y e = cc

tail_same : (a b : ℕ) (x y : List ℕ) → (a ∷ x) ≡ (b ∷ y) → x ≡ y
tail_same a b x y e = cc

-- the two lists differ
pub firsts_differ : (j : ℕ) (cells : List Cell) → AreCells cells → 0 < j → j ≤ frees cells → firsts j cells ≡ nexts j cells → ⊥
firsts_differ j [] h p q e = omega arith
firsts_differ j (Out ∷ cells) h p q e = firsts_differ j cells (rest_are _ cells h) p q (tail_same _ _ _ _ e)
firsts_differ j (Held l u ∷ cells) h p q e = firsts_differ j cells (rest_are _ cells h) p q (tail_same _ _ _ _ e)
firsts_differ zero (Free l u ∷ cells) h p q e = omega arith
firsts_differ (suc j) (Free l u ∷ cells) h p q e = let a = head_same _ _ _ _ e in let b = (first_is _ cells h).0 in omega arith

both_le : (h most fewest all : ℕ) → (leb h most && leb fewest all) ≡ true → (h ≤ most) × (fewest ≤ all)
both_le h most fewest all e = (grind (arith, nat_tests), grind (arith, nat_tests))

-- the part has a list with each number of held assets from the cells that must be held to those that may be
pub count_pick : (cells : List Cell) (k : ℕ) → AreCells cells → helds cells ≤ k → k ≤ helds cells + frees cells → (x : List ℕ) × (in_part cells x ≡ true) × (held_count x ≡ k)
count_pick cells k h a b =
    let n = firsts_count (k - helds cells) cells h (omega arith) in
    (firsts (k - helds cells) cells, firsts_in (k - helds cells) cells h, omega arith)

-- where the count can be met there is a list
pub meets_pick : (cells : List Cell) (fewest most : ℕ) → AreCells cells → fewest ≤ most → can_meet cells fewest most ≡ true → (x : List ℕ) × IsPick cells fewest most x
meets_pick cells fewest most h le e =
    let r = both_le (helds cells) most fewest (helds cells + frees cells) e in
    meets_by (leb fewest (helds cells)) refl
  where
    meets_by : (b : Bool) → leb fewest (helds cells) ≡ b → (x : List ℕ) × IsPick cells fewest most x
    meets_by true q =
        let r = both_le (helds cells) most fewest (helds cells + frees cells) e in
        let f : fewest ≤ helds cells = grind (arith, nat_tests) in
        let w = count_pick cells (helds cells) h (omega arith) (omega arith) in
        let n = w.2 in
        (w.0, record { inside = w.1; few = omega arith; many = omega arith })
    meets_by false q =
        let r = both_le (helds cells) most fewest (helds cells + frees cells) e in
        let f : helds cells ≤ fewest = grind (arith, nat_tests) in
        let w = count_pick cells fewest h f r.1 in
        let n = w.2 in
        (w.0, record { inside = w.1; few = omega arith; many = omega arith })

-- the count can be met exactly where a list meets it
pub meets_iff : (cells : List Cell) (fewest most : ℕ) → AreCells cells → fewest ≤ most → (can_meet cells fewest most ≡ true) ↔ ((x : List ℕ) × IsPick cells fewest most x)
meets_iff cells fewest most h le = (meets_pick cells fewest most h le, λ w. pick_meets cells fewest most w.0 h w.1)
