-- Leaves: which are in range for a tangent bound, and what they show on a part. Own to portgap.

use Rattle.std.specs.Prelude.{◌≡◌, ℕ, zero, suc, ◌+◌, ◌*◌, ◌/◌, ◌<◌, ◌≤◌, ◌≤ℤ◌, length, sum, slice_get, Bool, true, false, cond, ◌&&◌, ◌||◌, ltb, leb, eqb, List, [], ◌∷◌, sum_by, Option, Some, None, is_some, ℤ, pos, negsuc, neg_ℤ, unsigned_abs, int_le, int_lt}
use Rattle.gap_box.specs.declared.cell.Cell.{Cell}
use Rattle.gap_box.specs.Parts.{can_meet}
use Rattle.gap_model.specs.declared.leaf.Entry.{Entry}
use Rattle.gap_model.specs.declared.leaf.Leaf.{Leaf}
use Rattle.gap_model.specs.declared.leaf.Leaf.TheVariants.{Count, Void, Tangent}
use Rattle.gap_model.specs.declared.shown.Shown.{Shown}
use Rattle.gap_model.specs.declared.shown.Shown.TheVariants.{Nothing, AtLeast, Empty}
use Rattle.gap_instance.specs.Instances.{InstanceValue}
use Rattle.gap_model.specs.Settings.{Setting}
use Rattle.gap_model.specs.Theta.{theta, void_theta}

-- the eighths that entries give to an asset: those of the entries that name it
abbrev pub eighths_at : List Entry → ℕ → ℤ
eighths_at [] i = pos 0
eighths_at (e ∷ y) i = cond (eqb e.asset i) (pos e.eighths) (eighths_at y i)

-- the entries of a list of lots in eighths: one for each asset that it holds, the first number being that of the asset i
abbrev pub entries_from : ℕ → List ℕ → List Entry
entries_from i [] = []
entries_from i (v ∷ x) =
    cond (ltb 0 v) (record { asset = i; eighths = 8 * v } ∷ entries_from (suc i) x) (entries_from (suc i) x)

-- do the entries ascend by asset, with none below the first number or at or above the second, and with positive eighths?
abbrev pub ascend : ℕ → ℕ → List Entry → Bool
ascend i n [] = true
ascend i n (e ∷ y) = leb i e.asset && (ltb e.asset n && (ltb 0 e.eighths && ascend (suc e.asset) n y))

-- are the multipliers in range? alpha is at most 10^30 in size, tau is 0 to 10^30, and 0 where no turnover limit is set
abbrev pub are_multipliers : Option ℕ → ℤ → ℤ → Bool
are_multipliers turnover alpha tau =
    leb (unsigned_abs alpha) 1000000000000000000000000000000
    && (leb (unsigned_abs tau) 1000000000000000000000000000000
    && (int_le (pos 0) tau && (is_some turnover || int_le tau (pos 0))))

-- is a leaf in range? Its entries ascend by asset, name assets that there are, and give each a positive number of
-- eighths, all together at most 8L, and its multipliers are in range
abbrev pub in_range : Setting → Leaf → Bool
in_range s Count = true
in_range s (Void alpha tau third) = are_multipliers s.instance.turnover alpha tau
in_range s (Tangent y alpha tau third) =
    ascend 0 s.instance.market.assets y.now
    && (leb (sum_by (λ e. e.eighths) y.now) (8 * s.instance.lots) && are_multipliers s.instance.turnover alpha tau)

-- the multipliers are in range, said by facts
pub record AreMultipliers (turnover : Option ℕ) (alpha tau : ℤ) : Type 0 where
  pub alpha_most : unsigned_abs alpha ≤ 1000000000000000000000000000000
  pub tau_least : pos 0 ≤ℤ tau
  pub tau_most : unsigned_abs tau ≤ 1000000000000000000000000000000
  pub tau_unset : turnover ≡ None → tau ≡ pos 0

-- entries ascend by asset, name assets below n, and are positive
pub record AreEntries (n : ℕ) (y : List Entry) : Type 0 where
  pub below : (k : ℕ) (e : Entry) → slice_get y k ≡ Some e → e.asset < n
  pub positive : (k : ℕ) (e : Entry) → slice_get y k ≡ Some e → 0 < e.eighths
  pub rising : (j k : ℕ) (d e : Entry) → j < k → slice_get y j ≡ Some d → slice_get y k ≡ Some e → d.asset < e.asset

-- a tangent point is in range: a number of eighths for each asset, all together at most 8L
pub record IsPoint (I : InstanceValue) (y : List ℕ) : Type 0 where
  pub count : length y ≡ I.market.assets
  pub most : sum y ≤ 8 * I.lots

-- the least whole number c with 64c at least v
abbrev pub sixty_fourth : ℤ → ℤ
sixty_fourth (pos n) = pos ((n + 63) / 64)
sixty_fourth (negsuc n) = neg_ℤ (pos ((n + 1) / 64))

-- is a number 0?
abbrev pub is_zero : ℤ → Bool
is_zero (pos zero) = true
is_zero (pos (suc n)) = false
is_zero (negsuc n) = false

-- what the count shows, by whether it can be met
abbrev pub count_shows : Bool → Shown
count_shows true = Nothing
count_shows false = Empty

-- what the terms with alpha and tau alone show, by their theta
abbrev pub void_shows : Option ℤ → Shown
void_shows None = Empty
void_shows (Some t) = cond (int_lt (pos 0) t) Empty Nothing

-- what a tangent shows, by its theta
abbrev pub tangent_shows : Option ℤ → Shown
tangent_shows None = Empty
tangent_shows (Some t) = AtLeast (sixty_fourth t)

-- what a leaf shows on a part. A theta is None exactly where the count can't be met
unfoldable pub shows : Setting → List Cell → Leaf → Shown
shows s part Count = count_shows (can_meet part s.instance.held s.instance.held_most)
shows s part (Void alpha tau third) = cond (is_zero third) (void_shows (void_theta s part alpha tau)) Nothing
shows s part (Tangent y alpha tau third) =
    cond (is_zero third) (tangent_shows (theta s part (eighths_at y.now) alpha tau)) Nothing
