-- What a sweep is asked, what is known of each weight that it has done, and what is carried to the next. Own to portgap.

use Rattle.std.specs.Prelude.{◌≡◌, ℕ, ◌≤◌, List, [], ◌∷◌, slice_get, Option, Some, None, ℤ, ◌≤ℤ◌}
use Rattle.gap_base.specs.declared.weight.Weight.{Weight}
use Rattle.gap_base.specs.Sums.{sum_below}
use Rattle.gap_instance.specs.Instances.{InstanceValue}
use Rattle.gap_instance.specs.Objective.{cov_of}
use Rattle.gap_psd.specs.Shifts.{ShiftValue, IsShift, IsDominantShift, r_of, d_of, total_of}
use Rattle.gap_psd.specs.Factors.{AreLeast, no_factor, IsAtMostRounded, IsChosen}
use Rattle.gap_model.specs.declared.outcome.Best.{Best}
use Rattle.gap_solved.specs.Solveds.{SolvedValue, IsSectionOf}
use Rattle.gap_solve.specs.Ends.{best_in}
use Rattle.gap_solve.specs.Solving.{IsSolved}
use Rattle.gap_cert.specs.Certificates.{CertSection}
use Rattle.gap_valid.specs.Valid.{IsWeight}
use Rattle.gap_sweep.specs.declared.style.Style.{Style}

-- what a sweep is asked: the instance, how many numerals of its market were rounded, the weights in their order, the budget
-- of splits for each, and which lines come besides those of the weights
pub record Asked : Type 0 where
  pub instance : InstanceValue
  pub rounded : ℕ
  pub weights : List Weight
  pub nodes : ℕ
  pub style : Style

-- each weight is in its range
abbrev pub AreWeights : List Weight → Type 0
AreWeights weights = (k : ℕ) (weight : Weight) → slice_get weights k ≡ Some weight → IsWeight weight

-- a shift is the one of an instance: it is dominant, its D are the least for its R, its total is no more than the least for
-- R = 0, and no more than that of the rounded factor where this one will do; and it is one of the two
pub record IsShiftOf (I : InstanceValue) (shift : ShiftValue) : Type 0 where
  pub is_shift : IsShift shift
  pub assets_are : shift.assets ≡ I.market.assets
  pub dominant : IsDominantShift (cov_of I.market) shift
  pub least : AreLeast shift.assets (cov_of I.market) (r_of shift) (d_of shift)
  pub plain : (D : ℕ → ℤ) → AreLeast shift.assets (cov_of I.market) no_factor D → total_of shift ≤ℤ sum_below shift.assets D
  pub rounded : IsAtMostRounded shift.assets (cov_of I.market) (total_of shift)
  pub chosen : IsChosen (cov_of I.market) shift

-- a weight that was done: what is known of it, and the section of a certificate that says so
pub record Done : Type 0 where
  pub solved : SolvedValue
  pub section : CertSection

-- the lots of a portfolio, where there is one
abbrev pub lots_of : Option Best → Option (List ℕ)
lots_of None = None
lots_of (Some best) = Some best.lots

-- the portfolio of a weight that was done, where it has one
abbrev pub portfolio : Done → Option (List ℕ)
portfolio d = lots_of (best_in d.solved.outcome)

-- the list that the next weight begins with: the portfolio of the last weight, and before any is done this one
abbrev pub warm_behind : Option (List ℕ) → List Done → Option (List ℕ)
warm_behind warm [] = warm
warm_behind warm (d ∷ done) = warm_behind (portfolio d) done

-- a weight was done as it should be with a budget of splits, from the list of the weight before where there was one
pub record IsDone (I : InstanceValue) (shift : ShiftValue) (nodes : ℕ) (warm : Option (List ℕ)) (weight : Weight)
    (d : Done) : Type 0 where
  pub solved_is : IsSolved I shift weight nodes warm d.solved
  pub section_is : IsSectionOf I.market.assets d.solved d.section

-- at most one for each weight, in the order of the weights, was done as it should be, each from the list of the one before
abbrev pub AreDone : InstanceValue → ShiftValue → ℕ → Option (List ℕ) → List Weight → List Done → Type 0
AreDone I shift nodes warm weights [] = Unit {0}
AreDone I shift nodes warm [] (d ∷ done) = ⊥
AreDone I shift nodes warm (weight ∷ weights) (d ∷ done) =
    IsDone I shift nodes warm weight d × AreDone I shift nodes (portfolio d) weights done
