-- The steps to the outcome of a weight: the first list, the leaf of the root, the search, and its end. Own to portgap.

use Rattle.std.specs.Prelude.{◌≡◌, ℕ, ◌⊎◌, true, replicate, List, Option, Some, None, IsSome, ℤ, pos, neg_ℤ, ◌≤ℤ◌, ◌<ℤ◌, ◌≤◌, unsigned_abs}
use Rattle.std.specs.Option.{ForSome}
use Rattle.gap_base.specs.Lots.{lots_at, eighths_of}
use Rattle.gap_base.specs.Sizes.{most_bound, most_multiplier}
use Rattle.gap_base.specs.declared.witness.Witness.{Witness}
use Rattle.gap_box.specs.declared.cell.Cell.{Cell}
use Rattle.gap_box.specs.declared.split.Split.{Split}
use Rattle.gap_box.specs.Parts.{can_meet}
use Rattle.gap_box.specs.Splits.{Cuts}
use Rattle.gap_instance.specs.Instances.{InstanceValue}
use Rattle.gap_instance.specs.Limits.{MeetsLimits}
use Rattle.gap_instance.specs.Objective.{objective}
use Rattle.gap_instance.specs.Orders.{SomeOrderGives}
use Rattle.gap_instance.specs.Neighbours.{HasNoBetterNeighbour}
use Rattle.gap_lines.specs.Lines.{IsBest}
use Rattle.gap_tangent.specs.Lines.{alpha_curve}
use Rattle.gap_model.specs.declared.leaf.Leaf.{Leaf}
use Rattle.gap_model.specs.declared.outcome.Best.{Best}
use Rattle.gap_model.specs.declared.outcome.Outcome.{Outcome}
use Rattle.gap_model.specs.declared.outcome.Outcome.TheVariants.{Closed, NoPortfolio, Bounded}
use Rattle.gap_model.specs.declared.shown.Shown.TheVariants.{AtLeast}
use Rattle.gap_model.specs.Settings.{Setting}
use Rattle.gap_model.specs.Problems.{Problem, tangent_problem}
use Rattle.gap_model.specs.Outcomes.{IsPortfolio}
use Rattle.gap_search.specs.Boards.{Board, tickets, IsSound}
use Rattle.gap_search.specs.Steps.{Begins, Refusal, End, offered}
use Rattle.gap_search.specs.Driven.{IsDriven}
use Rattle.gap_leaf.specs.Showing.{witness_shows, NoLessThanAt, IsOwnBest}
use Rattle.gap_leaf.specs.Finding.{IsWitness, IsLeafFor}
use Rattle.gap_solve.specs.Ended.{root_of}
use Rattle.gap_solved.specs.Solveds.{SolvedValue}
use Rattle.gap_solve.specs.Ends.{HasFloor}

-- there is a list, and it costs at most this
abbrev pub CostsAtMost : (List ℕ → ℤ) → Option (List ℕ) → ℤ → Type 0
CostsAtMost cost None v = ⊥
CostsAtMost cost (Some x) v = cost x ≤ℤ v

-- the list that a search starts from: it meets the limits, there is one where some order gives a list, and where a list
-- was handed in (`warm`) there is one that costs no more
pub record IsFirst (I : InstanceValue) (p q : ℕ) (warm found : Option (List ℕ)) : Type 0 where
  pub meets : ForSome found (MeetsLimits I)
  pub ordered : SomeOrderGives I p q → IsSome found
  pub warm_is : ForSome warm (λ x. CostsAtMost (objective I p q) found (objective I p q x))

-- a list in eighths, all 0 over n assets where there is none
abbrev pub eighths_from : ℕ → Option (List ℕ) → List ℕ
eighths_from n None = replicate n 0
eighths_from n (Some x) = eighths_of x

-- an alpha for a point, in its range: where the count can be met on the root, theta is greatest there at it without a price
-- of the turnover
pub record IsAlphaAt (s : Setting) (y : List ℕ) (alpha : ℤ) : Type 0 where
  pub most : unsigned_abs alpha ≤ most_multiplier
  pub best : can_meet (root_of s) s.instance.held s.instance.held_most ≡ true
      → IsBest (alpha_curve s (root_of s) (lots_at y) (pos 0)) (neg_ℤ (pos most_multiplier)) (pos most_multiplier) alpha

-- a witness at a point with no price of the turnover: where the count can be met on the root, it shows no less than the
-- point under any alpha
pub record IsBestAt (s : Setting) (y : List ℕ) (w : Witness) : Type 0 where
  pub y_is : w.y ≡ y
  pub witness : IsWitness s w
  pub best : can_meet (root_of s) s.instance.held s.instance.held_most ≡ true
      → NoLessThanAt s (root_of s) (lots_at y) (witness_shows s (root_of s) w)

-- a leaf of the root, found from a point under its best alpha
pub record IsRootLeaf (s : Setting) (y : List ℕ) (leaf : Leaf) : Type 0 where
  pub hint : Witness
  pub hint_is : IsBestAt s y hint
  pub leaf_is : IsLeafFor s (root_of s) hint leaf

-- what the guide of the search allows, and which leaves fit
abbrev pub allowed : Setting → List Cell → Split → Type 0
allowed s part split = Cuts part s.instance.held_most split

abbrev pub fitting : Setting → List Cell → Leaf → Type 0
fitting s part leaf = IsOwnBest s part leaf

-- the best of a list that was found before, where it meets the limits
abbrev pub offered_first : Problem → Option (List ℕ) → Option Best
offered_first p None = None
offered_first p (Some x) = offered p None x

-- a search was driven from a leaf of the root, with a list that was found before, to where each claim would be refused
pub record IsRun (s : Setting) (nodes : ℕ) (found : Option (List ℕ)) (board : Board) : Type 0 where
  pub leaf : Leaf
  pub leaf_is : IsRootLeaf s (eighths_from s.instance.market.assets found) leaf
  pub begun : Board
  pub begins : Begins (tangent_problem s) leaf (offered_first (tangent_problem s) found) nodes begun
  pub begun_sound : IsSound (tangent_problem s) begun
  pub driven : IsDriven (tangent_problem s) (allowed s) (fitting s) begun board
  pub sound : IsSound (tangent_problem s) board
  pub budget : board.budget ≡ nodes
  pub idle : tickets board.held ≡ 0
  pub refused : Refusal (tangent_problem s) board 0

-- a portfolio that is no worse than another, and has no better neighbour
pub record IsPolished (s : Setting) (found better : Best) : Type 0 where
  pub portfolio : IsPortfolio s.instance s.p s.q better
  pub no_worse : better.value ≤ℤ found.value
  pub neighbour : HasNoBetterNeighbour s.instance s.p s.q better.lots

-- the number that is shown by the least of the leaves and a witness for the whole root, which is given only where it shows
-- more than the least; no such number is above 10^36 in size
abbrev pub IsOverall : Setting → ℤ → Option Witness → ℤ → Type 0
IsOverall s least None number = number ≡ least
IsOverall s least (Some w) number =
    IsWitness s w × (witness_shows s (root_of s) w ≡ AtLeast number) × (least <ℤ number)
    × (unsigned_abs number ≤ most_bound)

-- the end of a search that is bounded by the least of its leaves, with a portfolio: closed where it isn't above what is
-- shown, else bounded by this, which has its floor
abbrev pub IsOpenEnd : Setting → Best → ℤ → Outcome → Option Witness → Type 0
IsOpenEnd s best least (Closed b) overall =
    (b ≡ best) × ((number : ℤ) × IsOverall s least overall number × (best.value ≤ℤ number))
IsOpenEnd s best least NoPortfolio overall = ⊥
IsOpenEnd s best least (Bounded o bound) overall =
    (o ≡ Some best) × IsOverall s least overall bound × (bound <ℤ best.value) × HasFloor s (eighths_of best.lots) bound

-- the search ended as its board says, and it isn't bounded with a portfolio
pub record IsPlainEnd (s : Setting) (board : Board) (outcome : Outcome) (overall : Option Witness) : Type 0 where
  pub end : End (tangent_problem s) board outcome
  pub alone : (best : Best) (bound : ℤ) → outcome ≡ Bounded (Some best) bound → ⊥
  pub overall_is : overall ≡ None

-- the search is bounded with a portfolio, which is polished
pub record IsBetterEnd (s : Setting) (board : Board) (outcome : Outcome) (overall : Option Witness) : Type 0 where
  pub found : Best
  pub least : ℤ
  pub better : Best
  pub end : End (tangent_problem s) board (Bounded (Some found) least)
  pub polished : IsPolished s found better
  pub open_end : IsOpenEnd s better least outcome overall

-- the end of a search that is bounded, by what it found: with a portfolio, this is polished
abbrev pub IsBoundedEnd : Setting → Option Best → ℤ → Outcome → Option Witness → Type 0
IsBoundedEnd s None least outcome overall = (outcome ≡ Bounded None least) × (overall ≡ None)
IsBoundedEnd s (Some found) least outcome overall =
    (better : Best) × IsPolished s found better × IsOpenEnd s better least outcome overall

-- how a weight ends by the board of its search
abbrev pub IsFinish : Setting → Board → Outcome → Option Witness → Type 0
IsFinish s board outcome overall = IsPlainEnd s board outcome overall ⊎ IsBetterEnd s board outcome overall

-- what is known of a weight, by the board of its search: its tree is the board's
pub record IsFinished (s : Setting) (board : Board) (solved : SolvedValue) : Type 0 where
  pub p_is : solved.weight.p ≡ s.p
  pub q_is : solved.weight.q ≡ s.q
  pub nodes_are : solved.nodes ≡ board.nodes
  pub finish : IsFinish s board solved.outcome solved.overall
