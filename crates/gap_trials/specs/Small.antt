-- A small bound whose limits are priced: three assets with 1 to 3 lots, of which one or two are held, and a number of
-- lots that are all placed. The costs of its lists are scattered by a seed. Own to portgap.

use Rattle.std.specs.Prelude.{◌≡◌, ℕ, ◌+◌, ◌*◌, ◌/◌, ◌%◌, ◌<◌, Bool, true, ◌&&◌, eqb, leb, List, [], ◌∷◌, sum, replicate, slice_index_or, Option, Some, None, ℤ, pos, ◌+ℤ◌, ◌-ℤ◌, ◌*ℤ◌, ◌≤ℤ◌, unsigned_abs}
use Rattle.gap_box.specs.declared.cell.Cell.{Cell}
use Rattle.gap_box.specs.Parts.{in_part, held_count, IsPick, root_cells}
use Rattle.gap_model.specs.declared.leaf.Entry.{Entry}
use Rattle.gap_model.specs.declared.leaf.Leaf.{Leaf}
use Rattle.gap_model.specs.declared.leaf.Leaf.TheVariants.{Count, Void, Tangent}
use Rattle.gap_model.specs.Leaves.{eighths_at}
use Rattle.gap_model.specs.Priced.{PricedProblem, problem_of}
use Rattle.gap_model.specs.Problems.{Problem}

-- the root: each asset has 0 lots, or 1 to 3
abbrev pub small_whole : List Cell
small_whole = root_cells (replicate 3 1) (replicate 3 3)

-- the place of a list of three numbers below 4 among the 64 that there are
abbrev pub place_of : List ℕ → ℕ
place_of x = slice_index_or x 0 0 + 4 * slice_index_or x 1 0 + 16 * slice_index_or x 2 0

-- the list at a place
abbrev pub list_at : ℕ → List ℕ
list_at k = k % 4 ∷ k / 4 % 4 ∷ k / 16 ∷ []

-- what a list costs: from -48 to 48, by its place and a seed
abbrev pub cost_of : ℕ → List ℕ → ℤ
cost_of seed x = pos (seed * (place_of x + 1) * (place_of x + 1) % 97) -ℤ pos 48

-- does a list meet the limits? It is one of the root, holds one or two assets, and has all lots
abbrev pub small_meets : ℕ → List ℕ → Bool
small_meets lots x = in_part small_whole x && (leb 1 (held_count x) && (leb (held_count x) 2 && eqb (sum x) lots))

-- how far a point is from eight times a list at one asset
abbrev pub apart : List Entry → List ℕ → ℕ → ℕ
apart y x i = unsigned_abs (pos (8 * slice_index_or x i 0) -ℤ eighths_at y i)

-- and at all three
abbrev pub distance : List Entry → List ℕ → ℕ
distance y x = apart y x 0 + apart y x 1 + apart y x 2

-- what a list is charged for the lots that it has beyond their number
abbrev pub charge : ℕ → ℤ → List ℕ → ℤ
charge lots alpha x = alpha *ℤ (pos (sum x) -ℤ pos lots)

-- the prices of leaves: of a tangent 64 times the cost, less 64 times how far its point is, and the charge; of a void
-- leaf the charge alone
abbrev pub small_price : ℕ → ℕ → Leaf → List ℕ → ℤ
small_price seed lots Count x = pos 0
small_price seed lots (Void alpha tau third) x = charge lots alpha x
small_price seed lots (Tangent y alpha tau third) x =
    pos 64 *ℤ (cost_of seed x -ℤ pos (distance y.now x)) +ℤ charge lots alpha x

-- a multiplier in range is at most 1000 in size
abbrev pub small_in_range : Leaf → Bool
small_in_range Count = true
small_in_range (Void alpha tau third) = leb (unsigned_abs alpha) 1000
small_in_range (Tangent y alpha tau third) = leb (unsigned_abs alpha) 1000

-- the bound with its prices
abbrev pub small_prices : ℕ → ℕ → PricedProblem
small_prices seed lots = record {
  fewest = 1;
  most = 2;
  whole = small_whole;
  meets = small_meets lots;
  cost = cost_of seed;
  in_range = small_in_range;
  says = λ leaf. true;
  price = small_price seed lots;
}

-- the bound
abbrev pub small : ℕ → ℕ → Problem
small seed lots = problem_of (small_prices seed lots)

-- the least value of f over those lists of a part that hold one or two assets and stand at a place below n; None where
-- there is no such list
pub record IsSomeBelow (f : List ℕ → ℤ) (cells : List Cell) (n : ℕ) (t : ℤ) : Type 0 where
  pub reached : (x : List ℕ) × IsPick cells 1 2 x × (place_of x < n) × (f x ≡ t)
  pub below : (x : List ℕ) → IsPick cells 1 2 x → place_of x < n → t ≤ℤ f x

abbrev pub IsLeastBelow : (List ℕ → ℤ) → List Cell → ℕ → Option ℤ → Type 0
IsLeastBelow f cells n None = (x : List ℕ) → IsPick cells 1 2 x → place_of x < n → ⊥
IsLeastBelow f cells n (Some t) = IsSomeBelow f cells n t
