-- When a weight is solved. Own to portgap.

use Rattle.std.specs.Prelude.{◌≡◌, ℕ, ◌+◌, ◌≤◌, true, false, List, Option, Some, None, IsSome, ℤ, pos}
use Rattle.std.specs.Option.{ForSome}
use Rattle.gap_base.specs.declared.weight.Weight.{Weight}
use Rattle.gap_box.specs.declared.split.Split.{Split}
use Rattle.gap_box.specs.Parts.{can_meet, points, IsSingle}
use Rattle.gap_box.specs.Splits.{Cuts}
use Rattle.gap_instance.specs.Instances.{InstanceValue}
use Rattle.gap_instance.specs.Limits.{MeetsLimits}
use Rattle.gap_instance.specs.Objective.{objective}
use Rattle.gap_instance.specs.Orders.{SomeOrderGives}
use Rattle.gap_instance.specs.Neighbours.{HasNoBetterNeighbour}
use Rattle.gap_psd.specs.Shifts.{ShiftValue}
use Rattle.gap_model.specs.declared.leaf.Leaf.{Leaf}
use Rattle.gap_model.specs.declared.leaf.Leaf.TheVariants.{Void}
use Rattle.gap_model.specs.declared.outcome.Best.{Best}
use Rattle.gap_model.specs.declared.outcome.Outcome.{Outcome}
use Rattle.gap_model.specs.declared.outcome.Outcome.TheVariants.{NoPortfolio, Bounded}
use Rattle.gap_model.specs.declared.shown.Shown.TheVariants.{AtLeast, Empty}
use Rattle.gap_model.specs.Settings.{Setting}
use Rattle.gap_model.specs.Leaves.{shows}
use Rattle.gap_model.specs.Nodes.{Node, splits_of, part_at, leaf_at, split_at}
use Rattle.gap_model.specs.Outcomes.{IsRight}
use Rattle.gap_cert.specs.Certificates.{CertSection}
use Rattle.gap_valid.specs.CertTrees.{shown_bound}
use Rattle.gap_tangent.specs.Bounds.{setting_with}
use Rattle.gap_search.specs.Boards.{BestAtMost}
use Rattle.gap_leaf.specs.Showing.{IsOwnBest}
use Rattle.gap_leaf.specs.Voids.{IsVoidTry}
use Rattle.gap_solved.specs.Solveds.{SolvedValue, IsSectionOf}
use Rattle.gap_solve.specs.Ended.{root_of, HasEnded, IsValidWhere}
use Rattle.gap_solve.specs.Ends.{best_in, bound_in, is_bounded, eighths_in, HasFloor}

-- the tree of a search was grown as it should be:
-- cuts: each split cuts its part;
-- own: each tangent shows on its part no less than its own point does whatever alpha is
pub record IsGrown (s : Setting) (tree : List Node) : Type 0 where
  pub cuts : (n : ℕ) (split : Split) → split_at tree n ≡ Some split → Cuts (part_at tree n) s.instance.held_most split
  pub own : (n : ℕ) (leaf : Leaf) → leaf_at tree n ≡ Some leaf → IsOwnBest s (part_at tree n) leaf

-- what is owed of a portfolio:
-- ordered: there is one where some order gives a list;
-- warm: where a list was handed in there is one whose objective is no greater;
-- uncounted, voids: none is said wherever the count can't be met on the root, or a void leaf that is tried shows there
--   that no list meets the limits;
-- single: where there is none, no leaf's part has just one list, which meets the limits;
-- neighbour: no neighbour of it that meets the limits is better;
-- enough: with as many splits as the root has lists, less one, the outcome isn't open
pub record IsOwed (s : Setting) (nodes : ℕ) (warm : Option (List ℕ)) (tree : List Node) (outcome : Outcome) : Type 0 where
  pub ordered : SomeOrderGives s.instance s.p s.q → IsSome (best_in outcome)
  pub warm_is : ForSome warm (λ x. BestAtMost (best_in outcome) (objective s.instance s.p s.q x))
  pub uncounted : can_meet (root_of s) s.instance.held s.instance.held_most ≡ false → outcome ≡ NoPortfolio
  pub voids : (alpha tau : ℤ) → IsVoidTry s.instance.turnover alpha tau
      → shows s (root_of s) (Void alpha tau (pos 0)) ≡ Empty → outcome ≡ NoPortfolio
  pub single : best_in outcome ≡ None → (n : ℕ) (leaf : Leaf) (x : List ℕ) → leaf_at tree n ≡ Some leaf
      → IsSingle (part_at tree n) s.instance.held s.instance.held_most x → MeetsLimits s.instance x → ⊥
  pub neighbour : ForSome (best_in outcome) (λ best. HasNoBetterNeighbour s.instance s.p s.q best.lots)
  pub enough : points (root_of s) ≤ nodes + 1 → is_bounded outcome ≡ false

-- a weight is solved with a budget of splits, over an instance and a shift, with the list of the weight before where there
-- was one (`warm`):
-- right: the outcome is right: a portfolio is one and has its objective, and no list that meets the limits is below
-- the bound;
-- spent: an outcome is open only after exactly the budget of splits was made;
-- floor: its bound, for a closed one the objective, has its floor from 8 times the portfolio, from 0 where there is none;
-- ended: its search has ended: its nodes are a whole tree of the root, each leaf in range and tight on its part, the
-- witness for the whole root in range, and the outcome is what they show;
-- valid: so its section is valid under each head of the instance, the shift and the budget;
-- shown: and the bound of an open outcome is what its section shows
pub record IsSolved (I : InstanceValue) (shift : ShiftValue) (w : Weight) (nodes : ℕ) (warm : Option (List ℕ))
    (solved : SolvedValue) : Type 0 where
  pub right : IsRight I w.p w.q solved.outcome
  pub spent : is_bounded solved.outcome ≡ true → splits_of solved.nodes ≡ nodes
  pub floor : ForSome (bound_in solved.outcome)
      (HasFloor (setting_with I shift w) (eighths_in I.market.assets (best_in solved.outcome)))
  pub owed : IsOwed (setting_with I shift w) nodes warm solved.nodes solved.outcome
  pub weight_is : solved.weight ≡ w
  pub ended : HasEnded (setting_with I shift w) nodes solved
  pub grown : IsGrown (setting_with I shift w) solved.nodes
  pub valid : (section : CertSection) → IsSectionOf I.market.assets solved section
      → IsValidWhere I shift.diagonal nodes section
  pub shown : (best : Option Best) (bound : ℤ) (section : CertSection) → solved.outcome ≡ Bounded best bound
      → IsSectionOf I.market.assets solved section
      → shown_bound (setting_with I shift w) (root_of (setting_with I shift w)) solved.overall section.tree ≡ AtLeast bound
