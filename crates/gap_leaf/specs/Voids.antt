-- Which void leaves are tried on a part. Own to portgap.
use Rattle.std.specs.Prelude.{◌≡◌, ℕ, ◌≤◌, ◌⊎◌, Bool, true, false, cond, ltb, List, sum, Option, Some, None, IsSome, ℤ, pos, negsuc, unsigned_abs}
use Rattle.gap_box.specs.declared.cell.Cell.{Cell}
use Rattle.gap_instance.specs.Instances.{InstanceValue}
use Rattle.gap_model.specs.declared.leaf.Leaf.{Leaf}
use Rattle.gap_model.specs.declared.leaf.Leaf.TheVariants.{Count, Void, Tangent}
use Rattle.gap_model.specs.declared.shown.Shown.{Shown}
use Rattle.gap_model.specs.declared.shown.Shown.TheVariants.{Nothing, AtLeast, Empty}
use Rattle.gap_model.specs.Settings.{Setting}
use Rattle.gap_model.specs.Leaves.{shows}
use Rattle.gap_leaf.specs.declared.multipliers.Multipliers.{Multipliers}

-- the multipliers that a void leaf is tried with: 1 or -1 for the sum of lots alone; where a turnover limit is set, also 1
-- for the turnover with 0, 1 or -1 for the sum
abbrev pub IsVoidTry : Option ℕ → ℤ → ℤ → Type 0
IsVoidTry turnover alpha tau =
    ((unsigned_abs alpha ≡ 1) × (tau ≡ pos 0)) ⊎ ((unsigned_abs alpha ≤ 1) × (tau ≡ pos 1) × IsSome turnover)

-- the void leaf for a list that holds a number of assets in range and doesn't meet the limits: its sum is above L, or below
-- it, or else its turnover is too great
abbrev pub void_for : InstanceValue → List ℕ → Leaf
void_for I x =
    cond (ltb I.lots (sum x)) (Void (pos 1) (pos 0) (pos 0))
    (cond (ltb (sum x) I.lots) (Void (negsuc 0) (pos 0) (pos 0)) (Void (pos 0) (pos 1) (pos 0)))

-- the third multiplier of a leaf
abbrev pub third_of : Leaf → ℤ
third_of Count = pos 0
third_of (Void alpha tau third) = third
third_of (Tangent y alpha tau third) = third

-- is what is shown that there is no list?
abbrev pub is_empty : Shown → Bool
is_empty Nothing = false
is_empty (AtLeast b) = false
is_empty Empty = true

-- does a void leaf show that a part has no list that meets the limits?
unfoldable pub is_void_empty : Setting → List Cell → ℤ → ℤ → Bool
is_void_empty s part alpha tau = is_empty (shows s part (Void alpha tau (pos 0)))

-- the first of the multipliers with 1 for the turnover whose void leaf shows so
abbrev pub turned_void : Setting → List Cell → Option ℕ → Option Multipliers
turned_void s part None = None
turned_void s part (Some t) =
    cond (is_void_empty s part (pos 0) (pos 1)) (Some (record { alpha = pos 0; tau = pos 1 }))
    (cond (is_void_empty s part (pos 1) (pos 1)) (Some (record { alpha = pos 1; tau = pos 1 }))
    (cond (is_void_empty s part (negsuc 0) (pos 1)) (Some (record { alpha = negsuc 0; tau = pos 1 })) None))

-- the first of all multipliers that are tried whose void leaf shows so
abbrev pub first_void : Setting → List Cell → Option Multipliers
first_void s part =
    cond (is_void_empty s part (pos 1) (pos 0)) (Some (record { alpha = pos 1; tau = pos 0 }))
    (cond (is_void_empty s part (negsuc 0) (pos 0)) (Some (record { alpha = negsuc 0; tau = pos 0 }))
    (turned_void s part s.instance.turnover))
