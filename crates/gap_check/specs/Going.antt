-- What a checker keeps while it reads on. Own to portgap.

use Rattle.std.specs.Prelude.{◌≡◌, ℕ, ◌+◌, ◌≤◌, ◌^◌, Bool, true, false, List, length, Option, Some, None, Result, Ok, Err}
use Rattle.gap_cert.specs.Bytes.{AreBytes}
use Rattle.gap_scan.specs.Scans.{Scan}
use Rattle.gap_judge.specs.declared.stop.CertStop.{CertStop}
use Rattle.gap_judge.specs.declared.stop.CertStop.TheVariants.{Fault, OutOfMemory}
use Rattle.gap_judge.specs.Progress.{Progress}
use Rattle.gap_check.specs.Histories.{HasJudged, IsReadTo, IsFaultIn}
use Rattle.gap_check.specs.Stages.{IsAt}
use Rattle.gap_check.specs.States.{State, reading, stopped, no_memory}

-- the scanner and what the items say agree, the bytes that aren't in an item yet are bytes, and no fault was found
pub record IsOn (scan : Scan) (progress : Progress) : Type 0 where
  pub at : IsAt scan.context progress
  pub bytes_are : AreBytes scan.rest
  pub sound : scan.fault ≡ None

-- the same, and so many bytes were fed, not more than a scanner takes
pub record IsGoing (scan : Scan) (progress : Progress) (fed : ℕ) : Type 0 where
  pub on : IsOn scan progress
  pub fed_is : scan.place + length scan.rest ≡ fed
  pub most : fed ≤ 2 ^ 62

-- behind one item, where there was one: it is right; else all items are read; or a fault was found, or memory refused
abbrev pub Steps : Result Bool CertStop → List ℕ → Scan → Progress → Type 0
Steps (Ok true) seen scan progress = HasJudged seen scan progress
Steps (Ok false) seen scan progress = IsReadTo scan progress seen
Steps (Err (Fault f)) seen scan progress = IsFaultIn seen f
Steps (Err OutOfMemory) seen scan progress = Unit {0}

-- behind all items of the bytes so far
abbrev pub Reads : Result Unit CertStop → List ℕ → Scan → Progress → Type 0
Reads (Ok u) seen scan progress = IsReadTo scan progress seen
Reads (Err (Fault f)) seen scan progress = IsFaultIn seen f
Reads (Err OutOfMemory) seen scan progress = Unit {0}

-- where a checker stands, by what it keeps
abbrev pub standing : Scan → Progress → Option CertStop → State
standing scan progress None = reading scan progress
standing scan progress (Some (Fault f)) = stopped f
standing scan progress (Some OutOfMemory) = no_memory

-- what always holds of a checker
abbrev pub FitsChecker : Scan → Progress → ℕ → Option CertStop → Type 0
FitsChecker scan progress fed None = IsGoing scan progress fed
FitsChecker scan progress fed (Some stop) = Unit {0}
