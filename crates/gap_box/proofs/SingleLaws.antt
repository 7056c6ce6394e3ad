-- When a part has one list that holds a number of assets in a range.

use Rattle.std.proofs.Common.{◌≡◌, ◌≢◌, ◌↔◌, ◌⊎◌, inl, inr, ℕ, zero, suc, ◌+◌, ◌-◌, ◌<◌, ◌≤◌, max, min, Bool, true, false, eqb, cond, List, [], ◌∷◌, length, Option, Some, None, slice_index_or, refl, arith, ap, sym, ◌∙◌}
use Rattle.std.proofs.lemmas.Bool.Decides.{nat_tests}
use Rattle.gap_box.specs.declared.cell.Cell.{Cell}
use Rattle.gap_box.specs.declared.cell.Cell.TheVariants.{Out, Held, Free}
use Rattle.gap_box.specs.Cells.{IsCell, AreCells, in_cell}
use Rattle.gap_box.specs.Parts.{in_part, held_count, helds, frees, IsPick, IsSingle}
use Rattle.gap_box.specs.Only.{only_number, onto, only_list}
use Rattle.gap_box.proofs.CellLaws.{rest_are, first_is}
use Rattle.gap_box.proofs.CountLaws.{one_held, one_must, one_may, held_count-cons, helds-cons, frees-cons, both_true, and_true, cell_range, pick_range, exact_pick, pick_count, count_pick, firsts, nexts, firsts_in, nexts_in, firsts_count, nexts_count, firsts_differ}

-- how many a part holds where its free cells are held or aren't
abbrev pub held_of : Bool → List Cell → ℕ
held_of b cells = helds cells + cond b (frees cells) 0

-- the least number of a cell where free cells are held or aren't
abbrev pub low_of : Bool → Cell → ℕ
low_of b Out = 0
low_of b (Held l u) = l
low_of false (Free l u) = 0
low_of true (Free l u) = l

abbrev pub lows : Bool → List Cell → List ℕ
lows b [] = []
lows b (c ∷ cells) = low_of b c ∷ lows b cells

-- and the greatest
abbrev pub high_of : Bool → Cell → ℕ
high_of b Out = 0
high_of b (Held l u) = u
high_of false (Free l u) = 0
high_of true (Free l u) = u

abbrev pub highs : Bool → List Cell → List ℕ
highs b [] = []
highs b (c ∷ cells) = high_of b c ∷ highs b cells

low_in : (b : Bool) (c : Cell) → IsCell c → in_cell c (low_of b c) ≡ true
low_in b Out h = refl
low_in b (Held l u) h = grind (arith, nat_tests)
low_in false (Free l u) h = refl
low_in true (Free l u) h = grind (arith, nat_tests)

high_in : (b : Bool) (c : Cell) → IsCell c → in_cell c (high_of b c) ≡ true
high_in b Out h = refl
high_in b (Held l u) h = grind (arith, nat_tests)
high_in false (Free l u) h = refl
high_in true (Free l u) h = grind (arith, nat_tests)

low_held : (b : Bool) (c : Cell) → IsCell c → one_held (low_of b c) ≡ one_must c + cond b (one_may c) 0
low_held false Out h = refl
low_held true Out h = refl
low_held false (Held l u) h = grind (arith, nat_tests)
low_held true (Held l u) h = grind (arith, nat_tests)
low_held false (Free l u) h = refl
low_held true (Free l u) h = grind (arith, nat_tests)

high_held : (b : Bool) (c : Cell) → IsCell c → one_held (high_of b c) ≡ one_must c + cond b (one_may c) 0
high_held false Out h = refl
high_held true Out h = refl
high_held false (Held l u) h = grind (arith, nat_tests)
high_held true (Held l u) h = grind (arith, nat_tests)
high_held false (Free l u) h = refl
high_held true (Free l u) h = grind (arith, nat_tests)

held_of-cons : (b : Bool) (c : Cell) (cells : List Cell) → held_of b (c ∷ cells) ≡ (one_must c + cond b (one_may c) 0) + held_of b cells
held_of-cons true c cells = let d = helds-cons c cells in let e = frees-cons c cells in omega arith
held_of-cons false c cells = let d = helds-cons c cells in omega arith

lows_pick : (b : Bool) (cells : List Cell) → AreCells cells → IsPick cells (held_of b cells) (held_of b cells) (lows b cells)
lows_pick true [] h = record { inside = refl; few = omega arith; many = omega arith }
lows_pick false [] h = record { inside = refl; few = omega arith; many = omega arith }
lows_pick b (c ∷ cells) h =
    let r = lows_pick b cells (rest_are c cells h) in
    let k = pick_count cells (held_of b cells) (lows b cells) r in
    let o = low_held b c (first_is c cells h) in
    let e = held_count-cons (low_of b c) (lows b cells) in
    let f = held_of-cons b c cells in
    exact_pick (c ∷ cells) (held_of b (c ∷ cells)) (lows b (c ∷ cells)) (and_true _ _ (low_in b c (first_is c cells h)) r.inside) (omega arith)

highs_pick : (b : Bool) (cells : List Cell) → AreCells cells → IsPick cells (held_of b cells) (held_of b cells) (highs b cells)
highs_pick true [] h = record { inside = refl; few = omega arith; many = omega arith }
highs_pick false [] h = record { inside = refl; few = omega arith; many = omega arith }
highs_pick b (c ∷ cells) h =
    let r = highs_pick b cells (rest_are c cells h) in
    let k = pick_count cells (held_of b cells) (highs b cells) r in
    let o = high_held b c (first_is c cells h) in
    let e = held_count-cons (high_of b c) (highs b cells) in
    let f = held_of-cons b c cells in
    exact_pick (c ∷ cells) (held_of b (c ∷ cells)) (highs b (c ∷ cells)) (and_true _ _ (high_in b c (first_is c cells h)) r.inside) (omega arith)

onto_some : (o : Option ℕ) (r : Option (List ℕ)) (z : List ℕ) → onto o r ≡ Some z → (v : ℕ) × (y : List ℕ) × (o ≡ Some v) × (r ≡ Some y) × (z ≡ v ∷ y)
onto_some None r z e = cc
onto_some (Some v) None z e = cc
onto_some (Some v) (Some y) z e = (v, y, refl, refl, cc)

onto_none : (o : Option ℕ) (r : Option (List ℕ)) → onto o r ≡ None → (o ≡ None) ⊎ (r ≡ None)
onto_none None r e = inl refl
onto_none (Some v) None e = inr refl
onto_none (Some v) (Some y) e = cc

range_low : (t : Bool) (l v : ℕ) → cond t (Some l) None ≡ Some v → v ≡ l
range_low true l v e = cc
range_low false l v e = cc

range_none : (t : Bool) (l : ℕ) → cond t (Some l) None ≡ None → t ≡ false
range_none true l e = cc
range_none false l e = refl

range_some : (t : Bool) (l v : ℕ) → cond t (Some l) None ≡ Some v → t ≡ true
range_some true l v e = refl
range_some false l v e = cc

number_low : (b : Bool) (c : Cell) (v : ℕ) → only_number b c ≡ Some v → v ≡ low_of b c
number_low b Out v e = cc
number_low b (Held l u) v e = range_low (eqb l u) l v e
number_low false (Free l u) v e = cc
number_low true (Free l u) v e = range_low (eqb l u) l v e

number_none : (b : Bool) (c : Cell) → only_number b c ≡ None → low_of b c ≡ high_of b c → ⊥
number_none b Out e f = cc
number_none b (Held l u) e f = let t = range_none (eqb l u) l e in grind (arith, nat_tests)
number_none false (Free l u) e f = cc
number_none true (Free l u) e f = let t = range_none (eqb l u) l e in grind (arith, nat_tests)

-- the only number of a cell that is held as its kind says
number_only : (b : Bool) (c : Cell) (v w : ℕ) → in_cell c v ≡ true → one_held v ≡ one_must c + cond b (one_may c) 0 → only_number b c ≡ Some w → v ≡ w
number_only b Out v w h e f = let a : v ≡ 0 = grind (arith, nat_tests) in cc
number_only b (Held l u) v w h e f =
    let t = range_some (eqb l u) l w f in
    let q = range_low (eqb l u) l w f in
    let a : v ≡ l = grind (arith, nat_tests) in
    a ∙ sym q
number_only false (Free l u) v w h e f = let a : v ≡ 0 = grind (arith, nat_tests) in cc
number_only true (Free l u) v w h e f =
    let t = range_some (eqb l u) l w f in
    let q = range_low (eqb l u) l w f in
    let a : v ≡ l = grind (arith, nat_tests) in
    a ∙ sym q

list_low : (b : Bool) (cells : List Cell) (z : List ℕ) → only_list b cells ≡ Some z → z ≡ lows b cells
list_low b [] z e = cc
list_low b (c ∷ cells) z e =
    let s = onto_some (only_number b c) (only_list b cells) z e in
    let p = number_low b c s.0 s.2 in
    let q = list_low b cells s.1 s.3 in
    let r = s.4 in
    cc

list_none : (b : Bool) (cells : List Cell) → only_list b cells ≡ None → lows b cells ≡ highs b cells → ⊥
list_none b [] e f = cc
list_none b (c ∷ cells) e f = elim (onto_none (only_number b c) (only_list b cells) e) [ inl p ↦ number_none b c p cc | inr p ↦ list_none b cells p cc ]

-- each list that holds as many is the one
list_only : (b : Bool) (cells : List Cell) (x z : List ℕ) → AreCells cells → in_part cells x ≡ true → held_count x ≡ held_of b cells → only_list b cells ≡ Some z → x ≡ z
list_only b [] [] z h p e f = cc
list_only b [] (v ∷ x) z h p e f = cc
list_only b (c ∷ cells) [] z h p e f = cc
list_only b (c ∷ cells) (v ∷ x) z h p e f =
    let s = onto_some (only_number b c) (only_list b cells) z f in
    let t = both_true (in_cell c v) (in_part cells x) p in
    let m = held_count-cons v x in
    let n = held_of-cons b c cells in
    let i = cell_range c v (first_is c cells h) t.0 in
    let j = pick_range cells x (rest_are c cells h) t.1 in
    let q = halves b (one_must c) (one_may c) (helds cells) (frees cells) (one_held v) (held_count x) i j (sym m ∙ e ∙ n) in
    let k = number_only b c v s.0 t.0 q.0 s.2 in
    let r = list_only b cells x s.1 (rest_are c cells h) t.1 q.1 s.3 in
    let w = s.4 in
    cc
  where
    halves : (b : Bool) (must may helds frees one more : ℕ) → (must ≤ one) × (one ≤ must + may) → (helds ≤ more) × (more ≤ helds + frees) → one + more ≡ (must + cond b may 0) + (helds + cond b frees 0) → (one ≡ must + cond b may 0) × (more ≡ helds + cond b frees 0)
    halves true must may helds frees one more p q e = (omega arith, omega arith)
    halves false must may helds frees one more p q e = (omega arith, omega arith)

-- the list of the only numbers is the part's only list with its count
pub single_some : (b : Bool) (cells : List Cell) (x : List ℕ) → AreCells cells → only_list b cells ≡ Some x → IsSingle cells (held_of b cells) (held_of b cells) x
single_some b cells x h e =
    let l = list_low b cells x e in
    record { pick = rw l (lows_pick b cells h); only = λ z p. list_only b cells z x h p.inside (pick_count cells (held_of b cells) z p) e }

-- where there is one list with the count, it is the list of the only numbers
pub some_single : (b : Bool) (cells : List Cell) (x : List ℕ) → AreCells cells → IsSingle cells (held_of b cells) (held_of b cells) x → only_list b cells ≡ Some x
some_single b cells x h s = by_cases (only_list b cells) refl where
  by_cases : (o : Option (List ℕ)) → only_list b cells ≡ o → only_list b cells ≡ Some x
  by_cases None e = absurd (list_none b cells e (s.only _ (lows_pick b cells h) ∙ sym (s.only _ (highs_pick b cells h))))
  by_cases (Some z) e = let t = single_some b cells z h e in let q = t.only x s.pick in cc

-- with a count between the least and the greatest there is more than one list, with others there is none
pub single_never : (cells : List Cell) (k : ℕ) (x : List ℕ) → AreCells cells → k ≢ helds cells → k ≢ helds cells + frees cells → IsSingle cells k k x → ⊥
single_never cells k x h p q s =
    let r = pick_range cells x h s.pick.inside in
    let e = pick_count cells k x s.pick in
    let a : 0 < (k - helds cells) = omega arith in
    let b : (k - helds cells) < frees cells = omega arith in
    let m = firsts_count (k - helds cells) cells h (omega arith) in
    let n = nexts_count (k - helds cells) cells h b in
    let u = s.only _ (exact_pick cells k (firsts (k - helds cells) cells) (firsts_in (k - helds cells) cells h) (omega arith)) in
    let v = s.only _ (exact_pick cells k (nexts (k - helds cells) cells) (nexts_in (k - helds cells) cells h) (omega arith)) in
    firsts_differ (k - helds cells) cells h a (omega arith) (u ∙ sym v)

-- the numbers of held assets that a part and a range leave: from the greater of the two least to the lesser of the two greatest
pub record AreEnds (cells : List Cell) (fewest most low high : ℕ) : Type 0 where
  pub low_is : low ≡ max fewest (helds cells)
  pub high_is : high ≡ min most (helds cells + frees cells)

pick_ends : (cells : List Cell) (fewest most low high : ℕ) (x : List ℕ) → AreCells cells → AreEnds cells fewest most low high → IsPick cells fewest most x → (low ≤ held_count x) × (held_count x ≤ high)
pick_ends cells fewest most low high x h n p =
    let r = pick_range cells x h p.inside in
    let few = p.few in
    let many = p.many in
    let l = n.low_is in
    let g = n.high_is in
    (omega arith, omega arith)

ends_pick : (cells : List Cell) (fewest most low high : ℕ) (x : List ℕ) → AreEnds cells fewest most low high → in_part cells x ≡ true → low ≤ held_count x → held_count x ≤ high → IsPick cells fewest most x
ends_pick cells fewest most low high x n e f g =
    let a = n.low_is in
    let b = n.high_is in
    record { inside = e; few = omega arith; many = omega arith }

-- where more than one number is left, or none, there isn't one list alone
pub ends_apart : (cells : List Cell) (fewest most low high : ℕ) → AreCells cells → AreEnds cells fewest most low high → low ≢ high → (x : List ℕ) → (None ≡ Some x) ↔ IsSingle cells fewest most x
ends_apart cells fewest most low high h n e x = (λ q. cc, λ s. absurd (apart s))
  where
    apart : IsSingle cells fewest most x → ⊥
    apart s =
        let r = pick_ends cells fewest most low high x h n s.pick in
        let least = n.low_is in
        let greatest = n.high_is in
        let lt : low < high = omega arith in
        let a = count_pick cells low h (omega arith) (omega arith) in
        let b = count_pick cells high h (omega arith) (omega arith) in
        let m = a.2 in
        let o = b.2 in
        let u = s.only a.0 (ends_pick cells fewest most low high a.0 n a.1 (omega arith) (omega arith)) in
        let v = s.only b.0 (ends_pick cells fewest most low high b.0 n b.1 (omega arith) (omega arith)) in
        let w : held_count a.0 ≡ held_count b.0 = ap (λ (z : List ℕ). held_count z) (u ∙ sym v) in
        omega arith

-- where one number is left, the part is single in the range as it is with that number
ends_single : (cells : List Cell) (fewest most k : ℕ) (x : List ℕ) → AreCells cells → AreEnds cells fewest most k k → IsSingle cells fewest most x ↔ IsSingle cells k k x
ends_single cells fewest most k x h n = (λ s. record { pick = to x s.pick; only = λ z p. s.only z (from z p) }, λ s. record { pick = from x s.pick; only = λ z p. s.only z (to z p) })
  where
    to : (z : List ℕ) → IsPick cells fewest most z → IsPick cells k k z
    to z p = let r = pick_ends cells fewest most k k z h n p in exact_pick cells k z p.inside (omega arith)

    from : (z : List ℕ) → IsPick cells k k z → IsPick cells fewest most z
    from z p = ends_pick cells fewest most k k z n p.inside p.few p.many

pub single_by : (b : Bool) (cells : List Cell) (fewest most k : ℕ) (result : Option (List ℕ)) → AreCells cells → AreEnds cells fewest most k k → result ≡ only_list b cells → k ≡ held_of b cells → (x : List ℕ) → (result ≡ Some x) ↔ IsSingle cells fewest most x
single_by b cells fewest most k result h n e f x =
    let w = ends_single cells fewest most k x h n in
    (λ p. w.1 (rw f (single_some b cells x h (sym e ∙ p))), λ s. e ∙ some_single b cells x h (rw f at (w.0 s)))

pub single_no : (cells : List Cell) (fewest most k : ℕ) → AreCells cells → AreEnds cells fewest most k k → k ≢ helds cells → k ≢ helds cells + frees cells → (x : List ℕ) → (None ≡ Some x) ↔ IsSingle cells fewest most x
single_no cells fewest most k h n p q x = (λ e. cc, λ s. absurd (single_never cells k x h p q ((ends_single cells fewest most k x h n).0 s)))

-- the list from its numbers, place by place
pub only_all : (b : Bool) (cells : List Cell) (x : List ℕ) → length x ≡ length cells → ((k : ℕ) → k < length cells → only_number b (slice_index_or cells k Out) ≡ Some (slice_index_or x k 0)) → only_list b cells ≡ Some x
only_all b [] [] e h = refl
only_all b [] (v ∷ x) e h = absurd (omega arith)
only_all b (c ∷ cells) [] e h = absurd (omega arith)
only_all b (c ∷ cells) (v ∷ x) e h = rw (h 0 (omega arith), only_all b cells x (omega arith) (λ k p. h (suc k) (omega arith))) refl

-- no list where one place has no number
pub only_gap : (b : Bool) (cells : List Cell) (k : ℕ) → k < length cells → only_number b (slice_index_or cells k Out) ≡ None → only_list b cells ≡ None
only_gap b [] k h e = absurd (omega arith)
only_gap b (c ∷ cells) zero h e = rw e refl
only_gap b (c ∷ cells) (suc k) h e = rw (only_gap b cells k (omega arith) e) (onto_no (only_number b c)) where
  onto_no : (o : Option ℕ) → onto o None ≡ None
  onto_no None = refl
  onto_no (Some v) = refl
