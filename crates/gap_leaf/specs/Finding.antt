-- The leaf that is found for a part from a hint. Own to portgap.
use Rattle.std.specs.Prelude.{◌≡◌, ℕ, true, false, List, ℤ, pos}
use Rattle.gap_base.specs.Lots.{lots_at}
use Rattle.gap_base.specs.declared.witness.Witness.{Witness}
use Rattle.gap_box.specs.declared.cell.Cell.{Cell}
use Rattle.gap_box.specs.Parts.{can_meet, IsSingle}
use Rattle.gap_model.specs.declared.leaf.Leaf.{Leaf}
use Rattle.gap_model.specs.declared.leaf.Leaf.TheVariants.{Count, Void}
use Rattle.gap_model.specs.declared.shown.Shown.TheVariants.{Empty}
use Rattle.gap_model.specs.Settings.{Setting}
use Rattle.gap_model.specs.Limits.{meets_limits}
use Rattle.gap_model.specs.Order.{ShownLe}
use Rattle.gap_model.specs.Leaves.{in_range, shows, IsPoint, AreMultipliers}
use Rattle.gap_model.specs.Problems.{tangent_problem, IsTangentAt}
use Rattle.gap_model.specs.Tight.{IsTight}
use Rattle.gap_witness.specs.Points.{choice_of, point}
use Rattle.gap_witness.specs.Having.{HasTangentPoint}
use Rattle.gap_leaf.specs.Showing.{witness_shows, NoLessThanAt, IsOwnBest}
use Rattle.gap_leaf.specs.Voids.{IsVoidTry, void_for, third_of}

-- a witness that a leaf is found from: what it is taken over, and its point and multipliers
pub record HintValue : Type 0 where
  pub setting : Setting
  pub hint : Witness

-- a witness is in range
pub record IsWitness (s : Setting) (w : Witness) : Type 0 where
  pub point : IsPoint s.instance w.y
  pub multipliers : AreMultipliers s.instance.turnover w.alpha w.tau

-- a leaf found for a part from a hint:
-- in_range, third: it is in range, and has no third multiplier;
-- tight: it says all that one list can tell;
-- no_less: it shows no less than the hint;
-- own: a tangent shows no less than its own point under any alpha;
-- point: where the part has a tangent point, it shows no less than the tangent point from the hint under any alpha;
-- voids: it shows Empty where a void leaf that is tried does;
-- uncounted: it is Count where the count can't be met;
-- exact, broken: on a part whose only list that holds a number of assets in range is x, it is the tangent at 8x with
--   multipliers 0 where x meets the limits, else the void leaf for x
pub record IsLeafFor (s : Setting) (part : List Cell) (hint : Witness) (leaf : Leaf) : Type 0 where
  pub in_range : in_range s leaf ≡ true
  pub third : third_of leaf ≡ pos 0
  pub tight : IsTight (tangent_problem s) part leaf
  pub no_less : ShownLe (witness_shows s part hint) (shows s part leaf)
  pub own : IsOwnBest s part leaf
  pub point : HasTangentPoint s part → NoLessThanAt s part (lots_at (point s (choice_of s part) hint.y)) (shows s part leaf)
  pub voids : (alpha tau : ℤ) → IsVoidTry s.instance.turnover alpha tau
      → shows s part (Void alpha tau (pos 0)) ≡ Empty → shows s part leaf ≡ Empty
  pub uncounted : can_meet part s.instance.held s.instance.held_most ≡ false → leaf ≡ Count
  pub exact : (x : List ℕ) → IsSingle part s.instance.held s.instance.held_most x → meets_limits s.instance x ≡ true
      → IsTangentAt x leaf
  pub broken : (x : List ℕ) → IsSingle part s.instance.held s.instance.held_most x → meets_limits s.instance x ≡ false
      → leaf ≡ void_for s.instance x
