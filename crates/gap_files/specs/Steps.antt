-- Steps of a run: what is put out, why a step stopped, and what stays. Own to portgap.
use Rattle.std.specs.Prelude.{◌≡◌, ℕ, ◌≤◌, List, [], Some, Result, Ok, Err, IsErr, ◌⊎◌}
use Rattle.std.specs.Option.{ForSome}
use Rattle.gap_files.specs.Outside.{FilesNow, SinkNow, Rose, NoneFell, SameElsewhere, SameEverywhere}
use Rattle.gap_files.specs.Marks.{Mark, Streams, streams, Did, DidFront, DidLess}
use Rattle.gap_files.specs.declared.halt.Halt.{Halt}
use Rattle.gap_files.specs.declared.halt.Halt.TheVariants.{WriteFault, OutOfMemory}

-- what a step puts out of the trace that is due: all of it, or a front of it where it stopped
abbrev pub Does : Streams → Streams → List Mark → Result (Unit {0}) Halt → Type 0
Does old new due (Ok value) = Did old new due
Does old new due (Err halt) = DidFront old new due

-- why a step stopped, from the files f and the sink s to g and t: a write fault only where the sink's count rose, or the
-- named file's count of write faults; want of memory is free
abbrev pub HasCause : List ℕ → FilesNow → SinkNow → FilesNow → SinkNow → Result (Unit {0}) Halt → Type 0
HasCause name f s g t (Ok value) = Unit {0}
HasCause name f s g t (Err WriteFault) = Rose s.faults t.faults ⊎ Rose (f.write_faults name) (g.write_faults name)
HasCause name f s g t (Err OutOfMemory) = Unit {0}

-- what stays where a run puts out into the named file and to the sink: all other contents, all counts of read faults, and
-- the counts of write faults of all other names; no count falls
pub record Keeps (name : List ℕ) (f : FilesNow) (s : SinkNow) (g : FilesNow) (t : SinkNow) : Type 0 where
  pub contents : SameElsewhere name f.content g.content
  pub reads : SameEverywhere f.read_faults g.read_faults
  pub others : SameElsewhere name f.write_faults g.write_faults
  pub later_files : NoneFell f.write_faults g.write_faults
  pub later_sink : s.faults ≤ t.faults

-- a step of a run, from the files f and the sink s to g and t, for which a trace is due
pub record Step (name : List ℕ) (f : FilesNow) (s : SinkNow) (g : FilesNow) (t : SinkNow) (due : List Mark)
    (result : Result (Unit {0}) Halt) : Type 0 where
  pub does : Does (streams name f s) (streams name g t) due result
  pub cause : HasCause name f s g t result
  pub keeps : Keeps name f s g t

-- a last step: what is due was put out, or it stopped with a proper front of it
pub record Closes (name : List ℕ) (f : FilesNow) (s : SinkNow) (g : FilesNow) (t : SinkNow) (due : List Mark)
    (result : Result (Unit {0}) Halt) : Type 0 where
  pub step : Step name f s g t due result
  pub less : IsErr result → DidLess (streams name f s) (streams name g t) due

-- a file wasn't started: it is as it was or empty, and nothing was printed
pub record IsUnstarted (name : List ℕ) (f : FilesNow) (s : SinkNow) (g : FilesNow) (t : SinkNow) : Type 0 where
  pub file : ForSome (f.content name) (λ before. (g.content name ≡ Some before) ⊎ (g.content name ≡ Some (Some [])))
  pub sink : ForSome s.written (λ before. t.written ≡ Some before)

-- what the start of a file leaves of it: an empty file, or where it stopped the file as it was or empty
abbrev pub MakesEmpty : List ℕ → FilesNow → SinkNow → FilesNow → SinkNow → Result (Unit {0}) Halt → Type 0
MakesEmpty name f s g t (Ok value) = ForSome (f.content name) (λ before. g.content name ≡ Some (Some []))
MakesEmpty name f s g t (Err halt) = IsUnstarted name f s g t

-- the start of a file, from the files f and the sink s to g and t
pub record Opens (name : List ℕ) (f : FilesNow) (s : SinkNow) (g : FilesNow) (t : SinkNow)
    (result : Result (Unit {0}) Halt) : Type 0 where
  pub empty : MakesEmpty name f s g t result
  pub cause : HasCause name f s g t result
  pub keeps : Keeps name f s g t
