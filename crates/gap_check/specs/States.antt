-- Where a checker stands. Own to portgap.

use Rattle.std.specs.Prelude.{ℕ, List, Result, Ok, Err}
use Rattle.gap_model.specs.declared.cert_fault.CertFault.{CertFault}
use Rattle.gap_scan.specs.Scans.{Scan}
use Rattle.gap_judge.specs.Progress.{Progress}
use Rattle.gap_judge.specs.declared.stop.CertStop.{CertStop}
use Rattle.gap_judge.specs.declared.stop.CertStop.TheVariants.{Fault, OutOfMemory}
use Rattle.gap_check.specs.Histories.{IsReadTo, IsFaultIn}

-- a checker reads on, behind the items so far; or it has the first fault; or it was refused memory
pub data State : Type 0 where
  reading : Scan → Progress → State
  stopped : CertFault → State
  no_memory : State

-- where a checker may stand that was fed these bytes: behind all their items, or with the first fault that they decide; or
-- it was refused memory
abbrev pub HasRead : State → List ℕ → Type 0
HasRead (reading scan progress) fed = IsReadTo scan progress fed
HasRead (stopped f) fed = IsFaultIn fed f
HasRead no_memory fed = Unit {0}

-- a checker that doesn't read on
abbrev pub IsStopped : State → Type 0
IsStopped (reading scan progress) = ⊥
IsStopped (stopped f) = Unit {0}
IsStopped no_memory = Unit {0}

-- what a checker answers where it stands
abbrev pub answer_of : State → Result Unit CertStop
answer_of (reading scan progress) = Ok tt
answer_of (stopped f) = Err (Fault f)
answer_of no_memory = Err OutOfMemory
