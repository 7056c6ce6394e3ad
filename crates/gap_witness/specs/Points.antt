-- Tangent points of a part: where the tangent bound is formed. A point is a list y of eighths of lots, and A the shifted
-- table of covariances. The rounds lower p y'Ay - sum (8 p D_i (l_i + u_i) + 8 a_i) y_i, whose least value over the ranges
-- and the budget makes the bound best: each moves eighths from one asset to another, as the exchange of two variables does
-- in sequential minimal optimisation (Platt 1998). Own to portgap.
use Rattle.std.specs.Prelude.{ℕ, zero, suc, ◌+◌, ◌-◌, ◌*◌, ◌/◌, min, max, cond, eqb, ltb, Bool, not, ◌&&◌, ◌||◌, List, length, sum, slice_index_or, slice_set, Option, Some, None, ℤ, pos, neg_ℤ, ◌+ℤ◌, ◌-ℤ◌, ◌*ℤ◌, int_le, unsigned_abs}
use Rattle.gap_base.specs.Sums.{sum_below, at}
use Rattle.gap_base.specs.Lots.{lots_at}
use Rattle.gap_box.specs.declared.cell.Cell.{Cell}
use Rattle.gap_box.specs.declared.cell.Cell.TheVariants.{Out, Held, Free}
use Rattle.gap_box.specs.Parts.{helds, frees}
use Rattle.gap_model.specs.Settings.{Setting, shifted_cov}
use Rattle.gap_model.specs.Lagrangian.{reward_of}
use Rattle.gap_witness.specs.Places.{table, first_greatest}

-- a part, of whose assets from `fewest` to `most` may be held
pub record Choice : Type 0 where
  pub cells : List Cell
  pub fewest : ℕ
  pub most : ℕ

-- the least number of lots that a point may give to an asset of a cell: none to a free cell where no more may be held, and
-- the cell's least where all that may be held must be
abbrev pub least_by : Bool → Bool → Cell → ℕ
least_by full needed Out = 0
least_by full needed (Held l u) = l
least_by full needed (Free l u) = cond full 0 (cond needed l 0)

-- the greatest: none to a free cell where no more may be held
abbrev pub most_by : Bool → Cell → ℕ
most_by full Out = 0
most_by full (Held l u) = u
most_by full (Free l u) = cond full 0 u

-- may no more be held than must be? must all be held that may be?
abbrev pub is_full : Choice → Bool
is_full c = eqb (helds c.cells) c.most

abbrev pub is_needed : Choice → Bool
is_needed c = eqb (helds c.cells + frees c.cells) c.fewest

abbrev pub least_lots : Choice → Cell → ℕ
least_lots c cell = least_by (is_full c) (is_needed c) cell

abbrev pub most_lots : Choice → Cell → ℕ
most_lots c cell = most_by (is_full c) cell

-- the ends of an asset's range in eighths
abbrev pub lower_end : Choice → ℕ → ℕ
lower_end c i = 8 * least_lots c (slice_index_or c.cells i Out)

abbrev pub upper_end : Choice → ℕ → ℕ
upper_end c i = 8 * most_lots c (slice_index_or c.cells i Out)

-- a number of eighths of the hint, brought into its range
abbrev pub clamped : Choice → List ℕ → ℕ → ℕ
clamped c y i = max (lower_end c i) (min (upper_end c i) (slice_index_or y i 0))

-- how much of an amount is left after the first i assets took what room they have
abbrev pub left_after : ℕ → (ℕ → ℕ) → ℕ → ℕ
left_after amount room i = amount - sum (table i room)

-- numbers v raised to a sum of `budget` as far as their upper ends allow, or lowered to it as far as their lower ends do,
-- each as far as needed, in rising asset number
abbrev pub balanced : Choice → ℕ → (ℕ → ℕ) → ℕ → ℕ
balanced c budget v i =
    let total = sum (table (length c.cells) v) in
    let above = λ (k : ℕ). upper_end c k - v k in
    let below = λ (k : ℕ). v k - lower_end c k in
    (v i + min (above i) (left_after (budget - total) above i)) - min (below i) (left_after (total - budget) below i)

-- the point from which the rounds begin: the hint in its ranges, and balanced to the budget of 8L eighths
unfoldable pub first_point : Setting → Choice → List ℕ → List ℕ
first_point s c hint = table (length c.cells) (balanced c (8 * s.instance.lots) (clamped c hint))

-- the gradient: 2p (Ay)_i - 8p D_i (l_i + u_i) - 8 a_i
unfoldable pub gradient : Setting → Choice → List ℕ → ℕ → ℤ
gradient s c y i =
    ((pos (2 * s.p) *ℤ sum_below s.instance.market.assets (λ j. shifted_cov s i j *ℤ lots_at y j))
    -ℤ (pos (s.p * (lower_end c i + upper_end c i)) *ℤ at s.shift i))
    -ℤ (pos 8 *ℤ reward_of s i)

-- the asset that gives: the first with the greatest gradient among those above their lower ends
abbrev pub giver : Setting → Choice → List ℕ → Option ℕ
giver s c y = first_greatest (length c.cells) (λ i. ltb (lower_end c i) (slice_index_or y i 0)) (gradient s c y)

-- the asset that takes: another, the first with the least gradient among those below their upper ends
abbrev pub taker : Setting → Choice → List ℕ → ℕ → Option ℕ
taker s c y i =
    first_greatest (length c.cells) (λ j. not (eqb j i) && ltb (slice_index_or y j 0) (upper_end c j))
    (λ j. neg_ℤ (gradient s c y j))

-- half of what an eighth that goes from one asset to another takes off the gap of their gradients: p (A_ii + A_jj - 2 A_ij)
abbrev pub curvature : Setting → ℕ → ℕ → ℤ
curvature s i j = pos s.p *ℤ ((shifted_cov s i i +ℤ shifted_cov s j j) -ℤ (pos 2 *ℤ shifted_cov s i j))

-- the most that can go from one asset to another
abbrev pub room_between : Choice → List ℕ → ℕ → ℕ → ℕ
room_between c y i j = min (slice_index_or y i 0 - lower_end c i) (upper_end c j - slice_index_or y j 0)

-- a step of at least 1 and at most the room: the gap of the gradients over twice the curvature, rounded down, or all
-- the room
abbrev pub step_of : ℕ → ℕ → ℕ → ℕ
step_of room gap curve = cond (eqb curve 0) room (max 1 (min room (gap / (2 * curve))))

abbrev pub step_between : Setting → Choice → List ℕ → ℕ → ℕ → ℕ
step_between s c y i j =
    step_of (room_between c y i j) (unsigned_abs (gradient s c y i -ℤ gradient s c y j)) (unsigned_abs (curvature s i j))

-- does a step from one asset to the other lower nothing?
abbrev pub is_idle : Setting → Choice → List ℕ → ℕ → ℕ → Bool
is_idle s c y i j = int_le (gradient s c y i -ℤ gradient s c y j) (curvature s i j *ℤ pos (step_between s c y i j))

-- a list after s of it went from the place i to the place j
abbrev pub shifted_by : List ℕ → ℕ → ℕ → ℕ → List ℕ
shifted_by y s i j = slice_set (slice_set y i (slice_index_or y i 0 - s)) j (slice_index_or y j 0 + s)

-- what a round makes of a point for the asset that gives and the one that takes; None where the rounds end
abbrev pub exchange : Setting → Choice → List ℕ → ℕ → Option ℕ → Option (List ℕ)
exchange s c y i None = None
exchange s c y i (Some j) =
    cond (int_le (gradient s c y i) (gradient s c y j) || is_idle s c y i j) None
    (Some (shifted_by y (step_between s c y i j) i j))

abbrev pub next_from : Setting → Choice → List ℕ → Option ℕ → Option (List ℕ)
next_from s c y None = None
next_from s c y (Some i) = exchange s c y i (taker s c y i)

-- the point after a round; None where the rounds end
abbrev pub next : Setting → Choice → List ℕ → Option (List ℕ)
next s c y = next_from s c y (giver s c y)

-- what is done with the point after a round; the point before where there is none
abbrev pub after : Option (List ℕ) → List ℕ → (List ℕ → List ℕ) → List ℕ
after None y go = y
after (Some z) y go = go z

-- the point after at most n rounds
unfoldable pub rounds : ℕ → (List ℕ → Option (List ℕ)) → List ℕ → List ℕ
rounds zero step y = y
rounds (suc n) step y = after (step y) y (rounds n step)

-- the tangent point of a part from a hint: at most 8N rounds from the balanced hint
unfoldable pub point : Setting → Choice → List ℕ → List ℕ
point s c hint = rounds (8 * length c.cells) (next s c) (first_point s c hint)

-- the choice of a setting's numbers of held assets on a part
abbrev pub choice_of : Setting → List Cell → Choice
choice_of s cells = record { cells = cells; fewest = s.instance.held; most = s.instance.held_most }
