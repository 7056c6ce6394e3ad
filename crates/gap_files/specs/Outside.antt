-- What files and a sink tell at a moment, and what a call leaves of it. Own to portgap.
use Rattle.std.specs.Prelude.{◌≡◌, ℕ, ◌+◌, ◌-◌, ◌^◌, ◌<◌, ◌≤◌, ◌≢◌, min, List, [], ◌++◌, length, take, drop, ◌⊎◌}
use Rattle.std.specs.Prelude.{Ok, Err, Some, None, Option, Result}
use Rattle.gap_files.specs.declared.trouble.Trouble.{Trouble}
use Rattle.gap_files.specs.declared.trouble.Trouble.TheVariants.{Failed, OutOfMemory}

-- what files tell: of each name its content (None: not told, Some None: the file is missing, Some (Some bytes): its
-- bytes), how many reads of it failed, and how many writes
pub record FilesNow : Type 0 where
  pub content : List ℕ → Option (Option (List ℕ))
  pub read_faults : List ℕ → ℕ
  pub write_faults : List ℕ → ℕ

-- what a sink tells: the bytes written (None: not told) and how many writes failed
pub record SinkNow : Type 0 where
  pub written : Option (List ℕ)
  pub faults : ℕ

-- a count after one more: it stays at its last value, 2^64 - 1
abbrev pub one_more : ℕ → ℕ
one_more count = min (count + 1) (2 ^ 64 - 1)

-- a count rose by at least one, or stands at its last value, where it can rise no more
abbrev pub Rose : ℕ → ℕ → Type 0
Rose before now = one_more before ≤ now

-- what a call that gives up leaves of the count of its faults: a failure is counted once, want of memory isn't
abbrev pub Counted : ℕ → ℕ → Trouble → Type 0
Counted before now Failed = now ≡ one_more before
Counted before now OutOfMemory = now ≡ before

-- what a call leaves of the count of its faults: it changes by nothing but a failure
abbrev pub Counts : {T : Type 0} → ℕ → ℕ → Result T Trouble → Type 0
Counts before now (Ok value) = now ≡ before
Counts before now (Err trouble) = Counted before now trouble

-- two functions of a name agree at every name but this one
abbrev pub SameElsewhere : {T : Type 0} → List ℕ → (List ℕ → T) → (List ℕ → T) → Type 0
SameElsewhere name old new = (other : List ℕ) → other ≢ name → new other ≡ old other

-- two functions of a name agree at every name
abbrev pub SameEverywhere : {T : Type 0} → (List ℕ → T) → (List ℕ → T) → Type 0
SameEverywhere old new = (name : List ℕ) → new name ≡ old name

-- no count of a name fell
abbrev pub NoneFell : (List ℕ → ℕ) → (List ℕ → ℕ) → Type 0
NoneFell old new = (name : List ℕ) → old name ≤ new name

-- the bytes of a content: a missing file reads as an empty one
abbrev pub bytes_of : Option (List ℕ) → List ℕ
bytes_of None = []
bytes_of (Some bytes) = bytes

-- the first `count` bytes of a buffer are those that the content `held` has from `at` on, and there are none only
-- where the buffer has no room or the content ends at or before `at`
pub record ReadsAt (held : List ℕ) (at : ℕ) (buffer : List ℕ) (count : ℕ) : Type 0 where
  pub same : take count buffer ≡ take count (drop at held)
  pub ends : count ≡ 0 → 0 < length buffer → length held ≤ at

-- a front of the bytes came behind what was there, and not all of them unless there are none
pub record AppendsFront (before bytes : List ℕ) (after : Option (List ℕ)) : Type 0 where
  pub part : List ℕ
  pub rest : List ℕ
  pub split : bytes ≡ part ++ rest
  pub proper : 0 < length bytes → 0 < length rest
  pub now : after ≡ Some (before ++ part)

-- what a write of these bytes leaves, where what was there is told: all of them behind it where it succeeds, a front
-- of them where it fails, and what was there where memory is refused
abbrev pub Writes : {T : Type 0} → Option (List ℕ) → Option (List ℕ) → List ℕ → Result T Trouble → Type 0
Writes None after bytes result = Unit {0}
Writes (Some before) after bytes (Ok value) = after ≡ Some (before ++ bytes)
Writes (Some before) after bytes (Err Failed) = AppendsFront before bytes after
Writes (Some before) after bytes (Err OutOfMemory) = after ≡ Some before

-- what the start of a file leaves of its content, where that is told: an empty file where it succeeds, the content or an
-- empty file where it fails, and the content where memory is refused
abbrev pub Starts : {T : Type 0} → Option (Option (List ℕ)) → Option (Option (List ℕ)) → Result T Trouble → Type 0
Starts None after result = Unit {0}
Starts (Some before) after (Ok value) = after ≡ Some (Some [])
Starts (Some before) after (Err Failed) = (after ≡ Some before) ⊎ (after ≡ Some (Some []))
Starts (Some before) after (Err OutOfMemory) = after ≡ Some before

-- what an append that fails leaves of a content: a missing file stays missing, else a front of the bytes came behind it
abbrev pub KeepsFront : Option (List ℕ) → List ℕ → Option (Option (List ℕ)) → Type 0
KeepsFront None bytes after = after ≡ Some None
KeepsFront (Some before) bytes None = ⊥
KeepsFront (Some before) bytes (Some after) = AppendsFront before bytes after

-- what an append of these bytes leaves of a content, where that is told: all of them behind it where it succeeds, which
-- starts a missing file; a front of them where it fails; and the content where memory is refused
abbrev pub Appends : {T : Type 0} → Option (Option (List ℕ)) → Option (Option (List ℕ)) → List ℕ → Result T Trouble → Type 0
Appends None after bytes result = Unit {0}
Appends (Some before) after bytes (Ok value) = after ≡ Some (Some (bytes_of before ++ bytes))
Appends (Some before) after bytes (Err Failed) = KeepsFront before bytes after
Appends (Some before) after bytes (Err OutOfMemory) = after ≡ Some before
