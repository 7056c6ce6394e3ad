-- A writer's bytes that are appended to a file. Own to portgap.
use Rattle.std.specs.Prelude.{ℕ, List, Result, Ok, Err}
use Rattle.gap_files.specs.Outside.{FilesNow, SinkNow}
use Rattle.gap_files.specs.Drains.{Flows}
use Rattle.gap_files.specs.Marks.{appends}
use Rattle.gap_files.specs.Steps.{Step}
use Rattle.gap_files.specs.declared.halt.Halt.{Halt}

-- a front of the bytes was appended to the named file and the rest is left, or it stopped in them
abbrev pub Pours : List ℕ → FilesNow → FilesNow → SinkNow → List ℕ → List ℕ → Result (Unit {0}) Halt → Type 0
Pours name f g sink all left (Ok done) = Flows name f g sink all left
Pours name f g sink all left (Err halt) = Step name f sink g sink (appends all) (Err halt)
