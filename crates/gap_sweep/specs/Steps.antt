-- What the steps of a sweep say. Own to portgap.

use Rattle.std.specs.Prelude.{◌≡◌, ℕ, List, [], ◌∷◌, ◌++◌, length, Option, None, Result, Ok, Err, IsOk, IsErr}
use Rattle.gap_base.specs.declared.weight.Weight.{Weight}
use Rattle.gap_files.specs.Outside.{FilesNow, SinkNow}
use Rattle.gap_instance.specs.Instances.{InstanceValue}
use Rattle.gap_psd.specs.Shifts.{ShiftValue}
use Rattle.gap_files.specs.Marks.{Mark, streams, DidLess}
use Rattle.gap_files.specs.Steps.{Step, HasCause, Keeps}
use Rattle.gap_files.specs.declared.halt.Halt.{Halt}
use Rattle.gap_sweep.specs.declared.carried.Carried.{Carried}
use Rattle.gap_sweep.specs.Asked.{Asked, Done, AreDone, warm_behind}
use Rattle.gap_sweep.specs.Texts.{front_rows, front_numbers}
use Rattle.gap_sweep.specs.Traces.{weights_trace}
use Rattle.gap_sweep.specs.Runs.{Finished, Stopped}

-- what is carried behind these weights: the portfolio of the last one, and the rows of all with their numbers
pub record IsCarried (I : InstanceValue) (carried : Carried) (done : List Done) : Type 0 where
  pub warm_is : carried.warm ≡ warm_behind None done
  pub numbers_are : carried.numbers.items ≡ front_numbers 1 done
  pub rows_are : carried.rows.items ≡ front_rows I done

-- what is carried on over these weights, of which the first has this number
pub record IsCarriedOn (I : InstanceValue) (number : ℕ) (old new : Carried) (done : List Done) : Type 0 where
  pub warm_is : new.warm ≡ warm_behind old.warm done
  pub numbers_are : new.numbers.items ≡ old.numbers.items ++ front_numbers number done
  pub rows_are : new.rows.items ≡ old.rows.items ++ front_rows I done

-- a weight was tried: it was done and put out, or it stopped, before it was solved or behind
pub record Tries (I : InstanceValue) (shift : ShiftValue) (nodes : ℕ) (weight : Weight) (number : ℕ) (old new : Carried)
    (name : List ℕ) (f : FilesNow) (s : SinkNow) (g : FilesNow) (t : SinkNow) (result : Result (Unit {0}) Halt) : Type
    0 where
  pub done : List Done
  pub right : AreDone I shift nodes old.warm (weight ∷ []) done
  pub all : IsOk result → length done ≡ 1
  pub carries : IsOk result → IsCarriedOn I number old new done
  pub step : Step name f s g t (weights_trace I.lots done) result

-- the first `count` weights were done and put out
pub record SweptTo (I : InstanceValue) (shift : ShiftValue) (nodes : ℕ) (weights : List Weight) (count : ℕ)
    (carried : Carried)
    (name : List ℕ) (f : FilesNow) (s : SinkNow) (g : FilesNow) (t : SinkNow) : Type 0 where
  pub done : List Done
  pub right : AreDone I shift nodes None weights done
  pub each : length done ≡ count
  pub carries : IsCarried I carried done
  pub step : Step name f s g t (weights_trace I.lots done) (Ok tt)

-- the weights were done and put out, or it stopped on the way
pub record Sweeps (I : InstanceValue) (shift : ShiftValue) (nodes : ℕ) (weights : List Weight) (carried : Carried)
    (name : List ℕ) (f : FilesNow) (s : SinkNow) (g : FilesNow) (t : SinkNow) (result : Result (Unit {0}) Halt) : Type
    0 where
  pub done : List Done
  pub right : AreDone I shift nodes None weights done
  pub all : IsOk result → length done ≡ length weights
  pub carries : IsOk result → IsCarried I carried done
  pub step : Step name f s g t (weights_trace I.lots done) result

abbrev pub Ends : Asked → List ℕ → FilesNow → SinkNow → FilesNow → SinkNow → Result (Unit {0}) Halt → Type 0
Ends asked name f s g t (Ok value) = Finished asked (streams name f s) (streams name g t)
Ends asked name f s g t (Err halt) = Stopped asked (streams name f s) (streams name g t)

-- a sweep behind the start of its file
pub record GoesOn (asked : Asked) (name : List ℕ) (f : FilesNow) (s : SinkNow) (g : FilesNow) (t : SinkNow)
    (result : Result (Unit {0}) Halt) : Type 0 where
  pub ends : Ends asked name f s g t result
  pub cause : HasCause name f s g t result
  pub keeps : Keeps name f s g t
