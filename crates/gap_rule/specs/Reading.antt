-- Reading files through the outside, piece by piece, into what takes their bytes in. Own to portgap.
use Rattle.std.specs.Prelude.{◌≡◌, ℕ, ◌<◌, ◌≤◌, List, length, take, Result, Ok, Err}
use Rattle.std.specs.Option.{ForSome}
use Rattle.gap_files.specs.Outside.{FilesNow, NoneFell, SameElsewhere, SameEverywhere, bytes_of}
use Rattle.gap_rule.specs.declared.consumer.ReadStop.{ReadStop}
use Rattle.gap_rule.specs.declared.job.JobFile.{JobFile}
use Rattle.gap_rule.specs.declared.job.TooLong.{TooLong}
use Rattle.gap_rule.specs.declared.consumer.ReadStop.TheVariants.{ReadFault, Refused, OutOfMemory}

-- a fact on the bytes of a name, where its content is told: a missing file has none
abbrev pub IfTold : FilesNow → List ℕ → (List ℕ → Type 0) → Type 0
IfTold files name P = ForSome (files.content name) (λ content. P (bytes_of content))

-- what reading under a name leaves: all contents, all counts of write faults, and all counts of read faults but that of
-- the name; none falls
pub record OnlyReads (name : List ℕ) (f g : FilesNow) : Type 0 where
  pub contents : SameEverywhere f.content g.content
  pub others : SameElsewhere name f.read_faults g.read_faults
  pub later : NoneFell f.read_faults g.read_faults
  pub writes : SameEverywhere f.write_faults g.write_faults

-- the first `at` bytes of a content were taken in
pub record IsFed (held : List ℕ) (at : ℕ) (has_read : List ℕ → Type 0) : Type 0 where
  pub inside : at ≤ length held
  pub front : has_read (take at held)

-- `at` bytes were taken in
pub record WasFed (at : ℕ) (has_read : List ℕ → Type 0) : Type 0 where
  pub fed : List ℕ
  pub taken : has_read fed
  pub count : length fed ≡ at

-- why a reading stopped: a read fault only where the count of read faults rose; a refusal and want of memory have no
-- cause in the outside
abbrev pub StopCause : {F : Type 0} → Type 0 → ReadStop F → Type 0
StopCause rose ReadFault = rose
StopCause rose (Refused fault) = Unit {0}
StopCause rose OutOfMemory = Unit {0}

-- what a reading answers is said of the bytes; a read fault and want of memory say nothing of them
abbrev pub Says : {T F : Type 0} → (Result T F → Type 0) → Result T (ReadStop F) → Type 0
Says said (Ok made) = said (Ok made)
Says said (Err ReadFault) = Unit {0}
Says said (Err (Refused fault)) = said (Err fault)
Says said (Err OutOfMemory) = Unit {0}

-- what was made was made of some bytes
pub record WasSaid {T F : Type 0} (said : List ℕ → Result T F → Type 0) (made : T) : Type 0 where
  pub bytes : List ℕ
  pub told : said bytes (Ok made)

-- a job file that is kept whole: its bytes, where they are at most so many
abbrev pub IsWithin : ℕ → List ℕ → Result JobFile TooLong → Type 0
IsWithin most bytes (Ok file) = file.bytes.items ≡ bytes
IsWithin most bytes (Err fault) = most < length bytes
