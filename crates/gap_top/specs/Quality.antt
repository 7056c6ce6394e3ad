-- How good it is what a run of `quick`, `solve` or `demo` finds. Own to portgap.
use Rattle.std.specs.Prelude.{◌≡◌, ℕ, ◌+◌, ◌*◌, ◌<◌, ◌≤◌, ◌≤ℤ◌, ◌↔◌, false, List, slice_get, All, Some, None, IsSome, IsTrue, ℤ, pos}
use Rattle.std.specs.Option.{ForSome}
use Rattle.gap_box.specs.declared.split.Split.{Split}
use Rattle.gap_box.specs.Parts.{can_meet, points, IsSingle}
use Rattle.gap_box.specs.Splits.{Cuts}
use Rattle.gap_instance.specs.Instances.{InstanceValue}
use Rattle.gap_instance.specs.Limits.{MeetsLimits}
use Rattle.gap_instance.specs.Neighbours.{HasNoBetterNeighbour}
use Rattle.gap_instance.specs.Objective.{risk_of, return_of}
use Rattle.gap_instance.specs.Orders.{SomeOrderGives}
use Rattle.gap_leaf.specs.Showing.{IsOwnBest}
use Rattle.gap_leaf.specs.Voids.{IsVoidTry}
use Rattle.gap_model.specs.declared.front.FrontRow.{FrontRow}
use Rattle.gap_model.specs.declared.leaf.Leaf.{Leaf}
use Rattle.gap_model.specs.declared.leaf.Leaf.TheVariants.{Void}
use Rattle.gap_model.specs.declared.outcome.Best.{Best}
use Rattle.gap_model.specs.declared.outcome.Outcome.TheVariants.{Closed, NoPortfolio}
use Rattle.gap_model.specs.declared.shown.Shown.TheVariants.{Empty}
use Rattle.gap_model.specs.Fronts.{Dominates}
use Rattle.gap_model.specs.Leaves.{shows}
use Rattle.gap_model.specs.Nodes.{part_at, leaf_at, split_at}
use Rattle.gap_model.specs.Settings.{Setting}
use Rattle.gap_solve.specs.Ended.{root_of}
use Rattle.gap_solve.specs.Ends.{best_in, bound_in, is_bounded, eighths_in, HasFloor}
use Rattle.gap_start.specs.Plain.{IsPlain}
use Rattle.gap_sweep.specs.Asked.{Done}
use Rattle.gap_sweep.specs.Texts.{front_rows, is_efficient}

-- where a portfolio is owed, and where none, over an instance and the same one with a shift and a weight:
-- ordered: there is a portfolio wherever an order of the assets gives a list;
-- plain: so there is one wherever the instance is plain;
-- uncounted, voids: none is said wherever the root can't meet the count, or a void leaf that is tried shows so there;
-- enough: with as many splits as the root has lists, less one, it isn't open;
-- single: where there is none, no leaf's part has just one list, which meets the limits
pub record IsOwedRight (I : InstanceValue) (s : Setting) (nodes : ℕ) (d : Done) : Type 0 where
  pub ordered : SomeOrderGives I d.solved.weight.p d.solved.weight.q → IsSome (best_in d.solved.outcome)
  pub plain : IsPlain I → IsSome (best_in d.solved.outcome)
  pub uncounted : can_meet (root_of s) I.held I.held_most ≡ false → d.solved.outcome ≡ NoPortfolio
  pub voids : (alpha tau : ℤ) → IsVoidTry I.turnover alpha tau → shows s (root_of s) (Void alpha tau (pos 0)) ≡ Empty
      → d.solved.outcome ≡ NoPortfolio
  pub enough : points (root_of s) ≤ nodes + 1 → is_bounded d.solved.outcome ≡ false
  pub single : best_in d.solved.outcome ≡ None → (n : ℕ) (leaf : Leaf) (x : List ℕ)
      → leaf_at d.solved.nodes n ≡ Some leaf → IsSingle (part_at d.solved.nodes n) I.held I.held_most x → MeetsLimits I x → ⊥

-- how good a weight is:
-- owed: there is a portfolio, or none, where it is owed;
-- neighbour: no neighbour of the portfolio that meets the limits is better;
-- floor: the bound is no less than the tangent at 8 times the portfolio shows, at 0 where there is none, and at its tangent
-- point, whatever alpha is;
-- cuts, own: each split of its tree cuts its part, and each tangent shows no less than its own point, whatever alpha is
pub record IsGood (I : InstanceValue) (s : Setting) (nodes : ℕ) (d : Done) : Type 0 where
  pub owed : IsOwedRight I s nodes d
  pub neighbour : ForSome (best_in d.solved.outcome)
      (λ best. HasNoBetterNeighbour I d.solved.weight.p d.solved.weight.q best.lots)
  pub floor : ForSome (bound_in d.solved.outcome) (HasFloor s (eighths_in I.market.assets (best_in d.solved.outcome)))
  pub cuts : (n : ℕ) (split : Split) → split_at d.solved.nodes n ≡ Some split
      → Cuts (part_at d.solved.nodes n) I.held_most split
  pub own : (n : ℕ) (leaf : Leaf) → leaf_at d.solved.nodes n ≡ Some leaf → IsOwnBest s (part_at d.solved.nodes n) leaf

-- of two closed weights the one with more weight on risk has neither more risk nor more return
abbrev pub HasLess : InstanceValue → Done → Done → Type 0
HasLess I first second = (a b : Best) → first.solved.outcome ≡ Closed a → second.solved.outcome ≡ Closed b
    → first.solved.weight.p * second.solved.weight.q < second.solved.weight.p * first.solved.weight.q
    → (risk_of I.market b.lots ≤ℤ risk_of I.market a.lots) × (return_of I.market b.lots ≤ℤ return_of I.market a.lots)

-- how good the weights of a run are together:
-- falls: over closed weights neither risk nor return rises with the weight on risk;
-- kept: where a weight has a portfolio, so have all behind it;
-- ranked: a row is called efficient exactly where none of the rows of the run dominates it
pub record IsFrontier (I : InstanceValue) (done : List Done) : Type 0 where
  pub falls : (k l : ℕ) (first second : Done) → slice_get done k ≡ Some first → slice_get done l ≡ Some second
      → HasLess I first second
  pub kept : (k l : ℕ) (first second : Done) → slice_get done k ≡ Some first → slice_get done l ≡ Some second → k < l
      → IsSome (best_in first.solved.outcome) → IsSome (best_in second.solved.outcome)
  pub ranked : (row : FrontRow) → IsTrue (is_efficient (front_rows I done) row)
      ↔ All (λ other. ¬ (Dominates other row)) (front_rows I done)
