-- The lines of what is told of weights, and what of it can be told from them. Own to portgap.
use Rattle.std.specs.Prelude.{◌≡◌, ℕ, ◌<◌, ◌^◌, List, [], ◌∷◌, ◌++◌, length, slice_index_or, unsigned_abs, Option, Some, None, IfSome}
use Rattle.gap_model.specs.declared.outcome.Best.{Best}
use Rattle.gap_model.specs.declared.outcome.Told.{Told}
use Rattle.gap_model.specs.declared.outcome.Outcome.{Outcome}
use Rattle.gap_model.specs.declared.outcome.Outcome.TheVariants.{Closed, NoPortfolio, Bounded}
use Rattle.gap_report.specs.Report.{weight_line, lots_line}

-- the portfolio of an outcome, where it has one
abbrev pub best_of : Outcome → Option Best
best_of (Closed best) = Some best
best_of NoPortfolio = None
best_of (Bounded best bound) = best

-- the line of the lots where there is a portfolio, and nothing where there is none
abbrev pub portfolio_text : Option Best → List ℕ
portfolio_text None = []
portfolio_text (Some best) = lots_line best.lots

-- the lines of a weight, for a budget of this many lots and a number of split nodes
unfoldable pub told_lines : ℕ → ℕ → Told → List ℕ
told_lines lots nodes told = weight_line lots told nodes ++ portfolio_text (best_of told.outcome)

-- the lines of weights one after another, each with this number of split nodes
unfoldable pub all_lines : ℕ → ℕ → List Told → List ℕ
all_lines lots nodes [] = []
all_lines lots nodes (told ∷ more) = told_lines lots nodes told ++ all_lines lots nodes more

-- a portfolio of so many assets whose numbers have at most 64 digits; those of 128 bits have at most 39
pub record IsShortBest (assets : ℕ) (best : Best) : Type 0 where
  pub value : unsigned_abs best.value < 10 ^ 64
  pub length_is : length best.lots ≡ assets
  pub lots : (k : ℕ) → slice_index_or best.lots k 0 < 10 ^ 64

-- the same of an outcome
abbrev pub IsShortOutcome : ℕ → Outcome → Type 0
IsShortOutcome assets (Closed best) = IsShortBest assets best
IsShortOutcome assets NoPortfolio = Unit {0}
IsShortOutcome assets (Bounded best bound) = (unsigned_abs bound < 10 ^ 64) × IfSome best (λ b. IsShortBest assets b)

-- the same of what is told of a weight
pub record IsShort (assets : ℕ) (told : Told) : Type 0 where
  pub p : told.weight.p < 10 ^ 64
  pub q : told.weight.q < 10 ^ 64
  pub outcome : IsShortOutcome assets told.outcome
