-- What the items so far say by the grammar: which numbers are in their ranges, and how many of each kind came. Own to
-- portgap.

use Rattle.std.specs.Prelude.{◌≡◌, ℕ, ◌+◌, ◌-◌, ◌*◌, ◌/◌, ◌≤◌, ◌⊎◌, true, false, [], ◌∷◌, length, All, Option, Some, None, unsigned_abs, sum}
use Rattle.std.specs.Option.{ForSome}
use Rattle.gap_base.specs.Sizes.{most_millionths, most_lots, most_turnover, most_factor}
use Rattle.gap_base.specs.declared.witness.Witness.{Witness}
use Rattle.gap_instance.specs.Limits.{MeetsLimits}
use Rattle.gap_model.specs.declared.outcome.Best.{Best}
use Rattle.gap_model.specs.declared.shown.Shown.TheVariants.{Empty}
use Rattle.gap_model.specs.Leaves.{AreMultipliers}
use Rattle.gap_model.specs.Outcomes.{IsPortfolio}
use Rattle.gap_cert.specs.declared.context.Phase.{Phase}
use Rattle.gap_cert.specs.declared.context.Phase.TheVariants as phase
use Rattle.gap_cert.specs.declared.context.Context.{Context}
use Rattle.gap_cert.specs.Certificates.{CertHead}
use Rattle.gap_valid.specs.Heads.{instance_in, root_in, IsHead, IsAssetLine, IsDiagonal}
use Rattle.gap_judge.specs.Progress.{Progress, fresh_progress}
use Rattle.gap_judge.specs.Faults.{IsDominantHead}
use Rattle.gap_judge.specs.Ready.{IsBegun, IsNodeDue}

-- the context has the numbers of the head
pub record IsSameHead (c : Context) (h : CertHead) : Type 0 where
  pub n_is : h.n ≡ c.n
  pub lots_is : h.lots ≡ c.lots
  pub held_is : h.held ≡ c.held
  pub held_most_is : h.held_most ≡ c.held_most
  pub turnover_is : h.turnover ≡ c.turnover

-- the numbers of a head are in their ranges, as far as they came
pub record IsFront (h : CertHead) : Type 0 where
  pub few : 2 ≤ h.n
  pub many : h.n ≤ 256
  pub lots_least : 1 ≤ h.lots
  pub lots_most : h.lots ≤ most_lots
  pub held_least : 1 ≤ h.held
  pub held_range : h.held ≤ h.held_most
  pub held_most : h.held_most ≤ h.n
  pub turnover_most : ForSome h.turnover (λ t. t ≤ most_turnover)
  pub nodes_most : h.nodes ≤ 100000
  pub assets_are : All (IsAssetLine h.lots) h.assets
  pub correlations_are : All (λ rho. unsigned_abs rho ≤ most_millionths) h.correlations
  pub factor_are : All (λ r. unsigned_abs r ≤ most_factor) h.factor
  pub diagonal_are : All IsDiagonal h.diagonal

-- how many pairs and how many entries of R there are
abbrev pub pair_count : ℕ → ℕ
pair_count n = (n * (n - 1)) / 2

abbrev pub entry_count : ℕ → ℕ
entry_count n = (n * (n + 1)) / 2

-- so many items of each kind came, and so many of the present kind are to come
pub record AreCounts (h : CertHead) (assets correlations factor diagonal : ℕ) : Type 0 where
  pub assets_count : length h.assets ≡ assets
  pub correlations_count : length h.correlations ≡ correlations
  pub factor_count : length h.factor ≡ factor
  pub diagonal_count : length h.diagonal ≡ diagonal

-- a head that is read on
pub record IsHeadAt (c : Context) (h : CertHead) (assets correlations factor diagonal : ℕ) : Type 0 where
  pub same : IsSameHead c h
  pub front : IsFront h
  pub counts : AreCounts h assets correlations factor diagonal
  pub more : 1 ≤ c.left

-- a whole head
pub record IsWholeAt (c : Context) (h : CertHead) : Type 0 where
  pub same : IsSameHead c h
  pub head_is : IsHead h
  pub dominant : IsDominantHead h

-- a witness is in its ranges
pub record IsWitnessAt (n lots : ℕ) (turnover : Option ℕ) (w : Witness) : Type 0 where
  pub count : length w.y ≡ n
  pub most : sum w.y ≤ 8 * lots
  pub multipliers : AreMultipliers turnover w.alpha w.tau

-- a section that is read on: before its tree
pub record IsOpening (c : Context) (p : Progress) : Type 0 where
  pub whole : IsWholeAt c p.head
  pub begun : IsBegun p
  pub outcome_is : c.outcome ≡ p.outcome
  pub parts_are : p.parts ≡ root_in p.head ∷ []
  pub splits_are : p.splits ≡ 0
  pub least_is : p.least ≡ Empty
  pub last_is : c.last ≡ None

-- behind the objective
pub record HasBest (p : Progress) : Type 0 where
  pub best : Best
  pub best_is : p.best ≡ Some best
  pub portfolio : IsPortfolio (instance_in p.head) p.weight.p p.weight.q best

-- the portfolio is there exactly in the outcomes that have one
abbrev pub IsBestAt : Progress → Type 0
IsBestAt p = (((p.outcome ≡ 1) ⊎ (p.outcome ≡ 3)) × HasBest p) ⊎ (((p.outcome ≡ 2) ⊎ (p.outcome ≡ 4)) × (p.best ≡ None))

-- a tree that is read on
pub record IsNodeAt (c : Context) (p : Progress) : Type 0 where
  pub whole : IsWholeAt c p.head
  pub due : IsNodeDue p
  pub outcome_is : c.outcome ≡ p.outcome
  pub parts_are : length p.parts ≡ c.left
  pub last_is : ForSome c.last (IsWitnessAt c.n c.lots c.turnover)

-- where the items so far lead, by the phase
unfoldable pub IsStage : Phase → Context → Progress → Type 0
IsStage phase.Head c p = p ≡ fresh_progress
IsStage phase.Assets c p = IsHeadAt c p.head (c.n - c.left) 0 0 0 × (c.left ≤ c.n)
IsStage phase.Correlations c p = IsHeadAt c p.head c.n (pair_count c.n - c.left) 0 0 × (c.left ≤ pair_count c.n)
IsStage phase.Factor c p = IsHeadAt c p.head c.n (pair_count c.n) (entry_count c.n - c.left) 0 × (c.left ≤ entry_count c.n)
IsStage phase.Diagonal c p = IsHeadAt c p.head c.n (pair_count c.n) (entry_count c.n) (c.n - c.left) × (c.left ≤ c.n)
IsStage phase.Sections c p = IsWholeAt c p.head
IsStage phase.Section c p = IsWholeAt c p.head
IsStage phase.Portfolio c p = IsOpening c p × ((p.outcome ≡ 1) ⊎ (p.outcome ≡ 3)) × (p.best ≡ None)
IsStage phase.Objective c p = IsOpening c p × ((p.outcome ≡ 1) ⊎ (p.outcome ≡ 3)) × MeetsLimits (instance_in p.head) p.lots
IsStage phase.Bound c p = IsOpening c p × (((p.outcome ≡ 3) × HasBest p) ⊎ ((p.outcome ≡ 4) × (p.best ≡ None)))
IsStage phase.Overall c p =
    IsOpening c p × (((p.outcome ≡ 1) × HasBest p) ⊎ (((p.outcome ≡ 3) × HasBest p) ⊎ ((p.outcome ≡ 4) × (p.best ≡ None))))
IsStage phase.Node c p = IsNodeAt c p
IsStage phase.End c p = IsWholeAt c p.head
IsStage phase.Over c p = IsWholeAt c p.head

-- did the end mark come?
abbrev pub EndsAt : Phase → Progress → Type 0
EndsAt phase.Over p = p.ended ≡ true
EndsAt _ p = p.ended ≡ false

-- a context and what the items say agree
pub record IsAt (c : Context) (p : Progress) : Type 0 where
  pub stage : IsStage c.phase c p
  pub ends : EndsAt c.phase p
