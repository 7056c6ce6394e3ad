-- What a run of `quick`, `solve` or `demo` has written. Own to portgap.
use Rattle.std.specs.Prelude.{◌≡◌, ℕ, List, [], ◌∷◌, ◌++◌, map}
use Rattle.gap_base.specs.declared.weight.Weight.{Weight}
use Rattle.gap_files.specs.Outside.{SinkNow}
use Rattle.gap_instance.specs.Instances.{InstanceValue}
use Rattle.gap_psd.specs.Shifts.{ShiftValue}
use Rattle.gap_solve.specs.Ends.{best_in}
use Rattle.gap_sweep.specs.declared.style.Style.{Style}
use Rattle.gap_sweep.specs.Asked.{Done}
use Rattle.gap_sweep.specs.Texts.{market_text, weight_text, portfolio_text, frontier_text}
use Rattle.gap_top.specs.Printing.{IfWritten, WritesAll, WritesFront}

-- the lines of weights one after the other, for a budget of this many lots: that of the weight, then that of its lots
abbrev pub weights_text : ℕ → List Done → List ℕ
weights_text lots [] = []
weights_text lots (d ∷ done) =
    (weight_text lots d.solved ++ portfolio_text (best_in d.solved.outcome)) ++ weights_text lots done

-- the report of weights that were done: the line of the market, the lines of the weights, those of the frontier; of
-- `quick` the lines of its weight alone
abbrev pub report : Style → InstanceValue → (rounded : ℕ) → ShiftValue → List Done → List ℕ
report style I rounded shift done =
    market_text style I rounded shift ++ (weights_text I.lots done ++ frontier_text I style done)

-- behind what was written before came a front of a report and nothing else, and all of it where the status is 0
pub record IsReported (text : List ℕ) (s t : SinkNow) (status : ℕ) : Type 0 where
  pub front : IfWritten (WritesFront text) s t
  pub whole : status ≡ 0 → IfWritten (WritesAll text) s t

-- the weights that were done are the first ones of a job, in its order, and all of them where the status is 0
pub record AreInOrder (weights : List Weight) (done : List Done) (status : ℕ) : Type 0 where
  pub rest : List Weight
  pub first : weights ≡ map (λ (d : Done). d.solved.weight) done ++ rest
  pub all : status ≡ 0 → rest ≡ []
