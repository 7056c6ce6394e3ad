-- What the pieces of a step rest on.

use Rattle.std.proofs.Common.{◌≡◌, ℕ, ◌<◌, ◌≤◌, ◌⊎◌, inl, inr, true, List, length, slice_index_or, Option, Some, None, sym, ◌∙◌, subst, arith, ℤ, ◌≤ℤ◌}
use Rattle.std.proofs.lemmas.Int.{ints}
use Rattle.std.proofs.lemmas.Bool.{cases_lt}
use Rattle.std.proofs.lemmas.Bool.Decides.{nat_tests}
use Rattle.std.proofs.lemmas.List.{get_or_past}
use Rattle.gap_box.specs.declared.cell.Cell.{Cell}
use Rattle.gap_box.specs.declared.cell.Cell.TheVariants.{Out, Held, Free}
use Rattle.gap_box.specs.Cells.{IsCell, AreCells, in_cell}
use Rattle.gap_queue.specs.Keys.{key_at, ComesFirst, HasLeast}
use Rattle.gap_model.specs.declared.outcome.Best.{Best}
use Rattle.gap_model.specs.Problems.{Problem, IsBound}
use Rattle.gap_model.proofs.LimitLaws.{in_part_length, in_part_at}
use Rattle.gap_search.specs.Boards.{BestAtMost}

pub at_most_more : (best : Option Best) (v w : ℤ) → v ≤ℤ w → BestAtMost best v → BestAtMost best w
at_most_more None v w h k = k
at_most_more (Some best) v w h k = omega (arith, ints)

same_key : (a b : ℤ) → Some a ≡ Some b → a ≡ b
same_key a b e = cc

pub first_least : (a b : ℤ) (n m : ℕ) → ComesFirst a n b m → a ≤ℤ b
first_least a b n m (inl h) = omega (arith, ints)
first_least a b n m (inr h) = let e = h.0 in omega (arith, ints)

-- where the least isn't below the best, none is
pub none_below : (waits : List (Option ℤ)) (best : Option Best) (node : ℕ) (key : ℤ) → HasLeast waits node → key_at waits node ≡ Some key → BestAtMost best key → (n : ℕ) (other : ℤ) → key_at waits n ≡ Some other → BestAtMost best other
none_below waits best node key h e b n other f =
    let k = same_key h.key key (sym h.has ∙ e) in
    let l = first_least h.key other node n (h.least n other f) in
    at_most_more best key other (subst (λ z. z ≤ℤ other) k l) b

cell_most : (cell : Cell) (v : ℕ) → IsCell cell → in_cell cell v ≡ true → v ≤ 10000
cell_most Out v h e = grind (arith, nat_tests)
cell_most (Held l u) v h e = let m = h.2 in grind (arith, nat_tests)
cell_most (Free l u) v h e = let m = h.2 in grind (arith, nat_tests)

-- a list that meets the limits has a number for each asset of the root, at most 10000
pub meets_length : (p : Problem) (x : List ℕ) → IsBound p → p.meets x ≡ true → length x ≡ length p.whole
meets_length p x h e = sym (in_part_length p.whole x (h.picked x e).inside)

pub meets_most : (p : Problem) (x : List ℕ) → IsBound p → AreCells p.whole → p.meets x ≡ true → (i : ℕ) → slice_index_or x i 0 ≤ 10000
meets_most p x h a e i = by_length (cases_lt i (length x)) where
  by_length : (i < length x) ⊎ (length x ≤ i) → slice_index_or x i 0 ≤ 10000
  by_length (inl l) = cell_most (slice_index_or p.whole i Out) (slice_index_or x i 0) (a.each i) (in_part_at p.whole x (h.picked x e).inside i l)
  by_length (inr l) = let z = get_or_past x i 0 l in omega arith
