-- The contract of a sweep. Own to portgap.

use Rattle.std.specs.Prelude.{◌≡◌, ℕ, List, length, Option, None, Result, Ok, Err, IsOk}
use Rattle.gap_files.specs.Outside.{FilesNow, SinkNow}
use Rattle.gap_psd.specs.Shifts.{ShiftValue}
use Rattle.gap_files.specs.Marks.{Streams, streams, started, Did, DidFront, DidLess}
use Rattle.gap_files.specs.Steps.{HasCause, Keeps, IsUnstarted}
use Rattle.gap_files.specs.declared.halt.Halt.{Halt}
use Rattle.gap_sweep.specs.Asked.{Asked, Done, IsShiftOf, AreDone}
use Rattle.gap_sweep.specs.Traces.{begun_trace, whole_trace}

-- weights were done as they should be, with the shift of the instance
pub record HasDone (asked : Asked) (shift : ShiftValue) (done : List Done) : Type 0 where
  pub shift_is : IsShiftOf asked.instance shift
  pub right : AreDone asked.instance shift asked.nodes None asked.weights done

-- a sweep did all: each weight was done, and the whole was put out
pub record Finished (asked : Asked) (old new : Streams) : Type 0 where
  pub shift : ShiftValue
  pub done : List Done
  pub has_done : HasDone asked shift done
  pub all : length done ≡ length asked.weights
  pub did : Did old new (whole_trace asked shift done)

-- a sweep stopped behind the start of its file: it put out a front of what is due for weights that were done, without the
-- end; or, when all of them were done, a proper front of the whole
pub data Stopped (asked : Asked) (old new : Streams) : Type 0 where
  under_way : (shift : ShiftValue) (done : List Done) → HasDone asked shift done
      → DidFront old new (begun_trace asked shift done) → Stopped asked old new
  at_the_end : (shift : ShiftValue) (done : List Done) → HasDone asked shift done → length done ≡ length asked.weights
      → DidLess old new (whole_trace asked shift done) → Stopped asked old new

-- what a sweep that stopped has left, from the files f and the sink s to g and t: the file as it was or empty, and nothing
-- printed; or what was put out behind the start of the file
pub data Leaves (asked : Asked) (name : List ℕ) (f : FilesNow) (s : SinkNow) (g : FilesNow) (t : SinkNow) : Type 0 where
  unstarted : IsUnstarted name f s g t → Leaves asked name f s g t
  stopped : Stopped asked (started name f s) (streams name g t) → Leaves asked name f s g t

abbrev pub Solves : Asked → List ℕ → FilesNow → SinkNow → FilesNow → SinkNow → Result (Unit {0}) Halt → Type 0
Solves asked name f s g t (Ok value) = Finished asked (started name f s) (streams name g t)
Solves asked name f s g t (Err halt) = Leaves asked name f s g t

-- a sweep over the named file, from the files f and the sink s to g and t: what it has put out; why it stopped, where it
-- did: a write fault only where the count of the sink rose or the file's count of write faults; and what stays
pub record Runs (asked : Asked) (name : List ℕ) (f : FilesNow) (s : SinkNow) (g : FilesNow) (t : SinkNow)
    (result : Result (Unit {0}) Halt) : Type 0 where
  pub solves : Solves asked name f s g t result
  pub cause : HasCause name f s g t result
  pub keeps : Keeps name f s g t
