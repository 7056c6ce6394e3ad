-- Bytes that go into a file through a buffer, which is drained piece by piece. Own to portgap.
use Rattle.std.specs.Prelude.{◌≡◌, ℕ, List, ◌++◌, Result, Ok, Err}
use Rattle.gap_files.specs.Outside.{FilesNow, SinkNow}
use Rattle.gap_files.specs.Marks.{appends, streams, DidLess}
use Rattle.gap_files.specs.Steps.{Step}
use Rattle.gap_files.specs.declared.halt.Halt.{Halt}

-- of all these bytes a front was appended to the named file, from the files f to g; the rest is left
pub record Flows (name : List ℕ) (f g : FilesNow) (sink : SinkNow) (all left : List ℕ) : Type 0 where
  pub taken : List ℕ
  pub split : all ≡ taken ++ left
  pub step : Step name f sink g sink (appends taken) (Ok tt)

-- of bytes that were due a proper front was appended, and then it stopped
pub record Breaks (name : List ℕ) (f g : FilesNow) (sink : SinkNow) (due : List ℕ) (halt : Halt) : Type 0 where
  pub step : Step name f sink g sink (appends due) (Err halt)
  pub less : DidLess (streams name f sink) (streams name g sink) (appends due)

-- what draining a buffer leaves: a front of it was appended and the rest is in the buffer, or it stopped, and something
-- of it wasn't appended
abbrev pub Drains : List ℕ → FilesNow → FilesNow → SinkNow → List ℕ → List ℕ → Result (Unit {0}) Halt → Type 0
Drains name f g sink old new (Ok value) = Flows name f g sink old new
Drains name f g sink old new (Err halt) = Breaks name f g sink old halt

-- all of the bytes were appended, or it stopped with a proper front of them
abbrev pub Fills : List ℕ → FilesNow → FilesNow → SinkNow → List ℕ → Result (Unit {0}) Halt → Type 0
Fills name f g sink due (Ok value) = Step name f sink g sink (appends due) (Ok value)
Fills name f g sink due (Err halt) = Breaks name f g sink due halt
