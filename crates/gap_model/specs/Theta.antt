-- Theta: the least of the Lagrangian over the lists of a part that hold from K1 to K2 assets. They need not have the sum
-- L. Own to portgap.

use Rattle.std.specs.Prelude.{◌≡◌, ℕ, suc, zero, ◌-◌, ◌&&◌, leb, List, [], ◌∷◌, map, filter, flat_map, Option, Some, None, ℤ, ◌≤ℤ◌}
use Rattle.std.specs.Int.{int_min}
use Rattle.gap_box.specs.declared.cell.Cell.{Cell}
use Rattle.gap_box.specs.declared.cell.Cell.TheVariants.{Out, Held, Free}
use Rattle.gap_box.specs.Parts.{held_count, IsPick}
use Rattle.gap_model.specs.Settings.{Setting}
use Rattle.gap_model.specs.Lagrangian.{lag, void_lag}

-- the count numbers from l on
abbrev pub numbers_from : ℕ → ℕ → List ℕ
numbers_from l zero = []
numbers_from l (suc count) = l ∷ numbers_from (suc l) count

-- the numbers of lots that a cell allows
abbrev pub numbers_of : Cell → List ℕ
numbers_of Out = 0 ∷ []
numbers_of (Held l u) = numbers_from l (suc u - l)
numbers_of (Free l u) = 0 ∷ numbers_from l (suc u - l)

-- the lists of a part, one by one
unfoldable pub lists_of : List Cell → List (List ℕ)
lists_of [] = [] ∷ []
lists_of (cell ∷ cells) = flat_map (λ v. map (λ x. v ∷ x) (lists_of cells)) (numbers_of cell)

-- the lists of a part that hold from `fewest` to `most` assets, one by one
unfoldable pub picks : List Cell → ℕ → ℕ → List (List ℕ)
picks cells fewest most = filter (λ x. leb fewest (held_count x) && leb (held_count x) most) (lists_of cells)

-- the lesser of a number and of what may be there
abbrev pub lesser : ℤ → Option ℤ → ℤ
lesser z None = z
lesser z (Some t) = int_min z t

-- the least value of f over some lists; None where there is none
abbrev pub least_value : (List ℕ → ℤ) → List (List ℕ) → Option ℤ
least_value f [] = None
least_value f (x ∷ xs) = Some (lesser (f x) (least_value f xs))

-- the least Lagrangian over the lists of a part that hold from K1 to K2 assets; None where there is no such list
unfoldable pub theta : Setting → List Cell → (ℕ → ℤ) → ℤ → ℤ → Option ℤ
theta s cells y alpha tau = least_value (lag s y alpha tau) (picks cells s.instance.held s.instance.held_most)

-- the same of the terms with alpha and tau alone
unfoldable pub void_theta : Setting → List Cell → ℤ → ℤ → Option ℤ
void_theta s cells alpha tau = least_value (void_lag s alpha tau) (picks cells s.instance.held s.instance.held_most)

-- a number is the least value of f over the lists of a part that hold from `fewest` to `most` assets: some such list has
-- it, and none has less
pub record IsLeastPick (f : List ℕ → ℤ) (cells : List Cell) (fewest most : ℕ) (t : ℤ) : Type 0 where
  pub reached : (x : List ℕ) × IsPick cells fewest most x × (f x ≡ t)
  pub below : (x : List ℕ) → IsPick cells fewest most x → t ≤ℤ f x

-- a number is theta of a part
abbrev pub IsTheta : Setting → List Cell → (ℕ → ℤ) → ℤ → ℤ → ℤ → Type 0
IsTheta s cells y alpha tau t = IsLeastPick (lag s y alpha tau) cells s.instance.held s.instance.held_most t

-- a number is the theta of a part by the terms with alpha and tau alone
abbrev pub IsVoidTheta : Setting → List Cell → ℤ → ℤ → ℤ → Type 0
IsVoidTheta s cells alpha tau t = IsLeastPick (void_lag s alpha tau) cells s.instance.held s.instance.held_most t
