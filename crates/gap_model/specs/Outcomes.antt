-- When what is known of a weight is right.
-- Source: the model of Chang, Meade, Beasley and Sharaiha, in whole lots; the outcomes are own to portgap.
use Rattle.std.specs.Prelude.{◌≡◌, ℕ, List, Option, Some, None, ℤ, ◌≤ℤ◌, ◌<ℤ◌}
use Rattle.gap_instance.specs.Instances.{InstanceValue}
use Rattle.gap_instance.specs.Limits.{MeetsLimits}
use Rattle.gap_instance.specs.Objective.{objective}
use Rattle.gap_model.specs.declared.outcome.Best.{Best}
use Rattle.gap_model.specs.declared.outcome.Told.{Told}
use Rattle.gap_model.specs.declared.outcome.Outcome.{Outcome}
use Rattle.gap_model.specs.declared.outcome.Outcome.TheVariants.{Closed, NoPortfolio, Bounded}

-- a list meets the limits and has this objective under the weight p/q
pub record IsPortfolio (I : InstanceValue) (p q : ℕ) (best : Best) : Type 0 where
  pub meets : MeetsLimits I best.lots
  pub value_is : best.value ≡ objective I p q best.lots

-- no list that meets the limits has an objective below this number
abbrev pub IsLowerBound : InstanceValue → ℕ → ℕ → ℤ → Type 0
IsLowerBound I p q bound = (x : List ℕ) → MeetsLimits I x → bound ≤ℤ objective I p q x

-- no list meets the limits
abbrev pub HasNone : InstanceValue → Type 0
HasNone I = (x : List ℕ) → MeetsLimits I x → ⊥

-- the portfolio that was found, if one was, is one with an objective above the bound
abbrev pub IsFoundAbove : InstanceValue → ℕ → ℕ → ℤ → Option Best → Type 0
IsFoundAbove I p q bound None = Unit {0}
IsFoundAbove I p q bound (Some best) = IsPortfolio I p q best × (bound <ℤ best.value)

-- an outcome is right: closed has a portfolio that none is below, none means that no list meets the limits, and
-- bounded has a number that no portfolio is below, with a portfolio above it where one was found
abbrev pub IsRight : InstanceValue → ℕ → ℕ → Outcome → Type 0
IsRight I p q (Closed best) = IsPortfolio I p q best × IsLowerBound I p q best.value
IsRight I p q NoPortfolio = HasNone I
IsRight I p q (Bounded best bound) = IsLowerBound I p q bound × IsFoundAbove I p q bound best

-- what is told of a weight is right for it
abbrev pub IsToldRight : InstanceValue → Told → Type 0
IsToldRight I told = IsRight I told.weight.p told.weight.q told.outcome
