-- What the steps of a ruling say. Own to portgap.
use Rattle.std.specs.Prelude.{◌≡◌, ℕ, ◌≤◌, List, length, slice_get, Some, Result, Ok, Err}
use Rattle.gap_files.specs.Outside.{FilesNow, NoneFell, SameEverywhere}
use Rattle.gap_words.specs.Forms.{FormValue, faulty, quick, solve, check, verify, demo, upgrade}
use Rattle.gap_words.specs.Names.{reads}
use Rattle.gap_words.specs.Refusals.{refusal_status}
use Rattle.gap_words.specs.declared.refusal.Refusal.{Refusal}
use Rattle.gap_words.specs.declared.refusal.Refusal.TheVariants.{Words, Port, Job, HeldRange, Certificate, Differs}
use Rattle.gap_rule.specs.Names.{AreHeld, RoseAt, RoseIn, SameOutside}
use Rattle.gap_rule.specs.Reading.{IfTold, OnlyReads}
use Rattle.gap_rule.specs.Rules.{Rules, looks}
use Rattle.gap_rule.specs.declared.stop.Halt.{Halt}
use Rattle.gap_rule.specs.declared.stop.Halt.TheVariants.{Refused, ReadFault, OutOfMemory}
use Rattle.gap_rule.specs.declared.task.Task.{Task}
use Rattle.gap_rule.specs.declared.task.Work.{Work}
use Rattle.gap_base.specs.declared.weight.Weight.{Weight}
use Rattle.gap_valid.specs.Said.{IsSaid}
use Rattle.gap_instance.specs.Instances.{IsInstance}
use Rattle.gap_valid.specs.Valid.{IsWeight}
use Rattle.gap_rule.specs.Certificates.{WasAccepted}
use Rattle.gap_rule.specs.declared.task.Task.TheVariants.{Quick, Solve, Demo, Check, Verify, Upgrade}

-- two rulings come to the same: to the same task, or to refusals with the same status
abbrev pub IsLike : {T : Type 0} → Result T Refusal → Result T Refusal → Type 0
IsLike (Ok a) (Ok b) = a ≡ b
IsLike (Ok a) (Err why) = ⊥
IsLike (Err why) (Ok b) = ⊥
IsLike (Err why) (Err other) = refusal_status why ≡ refusal_status other

-- a ruling holds, and every other one that does comes to the same
pub record IsRuling {T : Type 0} (ruling : Result T Refusal → Type 0) (r : Result T Refusal) : Type 0 where
  pub holds : ruling r
  pub only : (other : Result T Refusal) → ruling other → IsLike r other

-- what a step's answer says of what was to be ruled; a fault and want of memory say nothing
abbrev pub TellsRuling : {T : Type 0} → (Result T Refusal → Type 0) → Result T Halt → Type 0
TellsRuling ruling (Ok value) = IsRuling ruling (Ok value)
TellsRuling ruling (Err (Refused why)) = IsRuling ruling (Err why)
TellsRuling ruling (Err ReadFault) = Unit {0}
TellsRuling ruling (Err OutOfMemory) = Unit {0}

-- why a step stopped: a read fault only where a count rose; a refusal and want of memory have no cause in the outside
abbrev pub HaltCause : {T : Type 0} → Type 0 → Result T Halt → Type 0
HaltCause rose (Ok value) = Unit {0}
HaltCause rose (Err (Refused why)) = Unit {0}
HaltCause rose (Err ReadFault) = rose
HaltCause rose (Err OutOfMemory) = Unit {0}

-- a file was read, and its bytes ruled
pub record IsLooked {T : Type 0} (name : List ℕ) (ruling : List ℕ → Result T Refusal → Type 0) (f g : FilesNow)
    (result : Result T Halt) : Type 0 where
  pub told : IfTold f name (λ bytes. TellsRuling (ruling bytes) result)
  pub cause : HaltCause (RoseAt name f g) result
  pub frame : OnlyReads name f g

-- files were read under these names, of which those that `looked` says were looked at, and ruled
pub record IsRuled {T : Type 0} (names : List (List ℕ)) (looked : (List ℕ → List ℕ) → List (List ℕ))
    (ruling : (List ℕ → List ℕ) → Result T Refusal → Type 0) (f g : FilesNow) (result : Result T Halt) : Type 0 where
  pub tells : (holds : List ℕ → List ℕ) → AreHeld names holds f → TellsRuling (ruling holds) result
  pub cause : HaltCause (RoseIn names f g) result
  pub looks_cause : (holds : List ℕ → List ℕ) → AreHeld names holds f → HaltCause (RoseIn (looked holds) f g) result
  pub contents : SameEverywhere f.content g.content
  pub others : SameOutside names f.read_faults g.read_faults
  pub later : NoneFell f.read_faults g.read_faults
  pub writes : SameEverywhere f.write_faults g.write_faults

-- a form was ruled
abbrev pub IsRuledForm : FormValue → FilesNow → FilesNow → Result Task Halt → Type 0
IsRuledForm asked f g result = IsRuled (reads asked) (looks asked) (Rules asked) f g result

-- a stop is a fault, want of memory, or one of these refusals
abbrev pub MayHalt : {T : Type 0} → (Refusal → Type 0) → Result T Halt → Type 0
MayHalt may (Ok value) = Unit {0}
MayHalt may (Err (Refused why)) = may why
MayHalt may (Err ReadFault) = Unit {0}
MayHalt may (Err OutOfMemory) = Unit {0}

-- a refusal is that of a port file, of a job file, of a certificate, of the words of `quick` over a market, of a
-- certificate that isn't of a market and a job
abbrev pub IsOfPort : Refusal → Type 0
IsOfPort (Port fault) = Unit {0}
IsOfPort _ = ⊥

abbrev pub IsOfJob : Refusal → Type 0
IsOfJob (Job fault) = Unit {0}
IsOfJob _ = ⊥

abbrev pub IsOfCertificate : Refusal → Type 0
IsOfCertificate (Certificate fault) = Unit {0}
IsOfCertificate _ = ⊥

abbrev pub IsOfQuick : Refusal → Type 0
IsOfQuick HeldRange = Unit {0}
IsOfQuick _ = ⊥

abbrev pub IsOfClaim : Refusal → Type 0
IsOfClaim (Differs difference) = Unit {0}
IsOfClaim _ = ⊥

-- the refusals of a certificate and of what it is of, and those of a job file too
abbrev pub IsOfPair : Refusal → Type 0
IsOfPair (Certificate fault) = Unit {0}
IsOfPair (Differs difference) = Unit {0}
IsOfPair _ = ⊥

abbrev pub IsOfFile : Refusal → Type 0
IsOfFile (Job fault) = Unit {0}
IsOfFile (Certificate fault) = Unit {0}
IsOfFile (Differs difference) = Unit {0}
IsOfFile _ = ⊥

-- the refusals that a form may have, whatever its files hold
abbrev pub MayRefuse : FormValue → Refusal → Type 0
MayRefuse faulty why = why ≡ Words
MayRefuse (quick port asked) (Port fault) = Unit {0}
MayRefuse (quick port asked) HeldRange = Unit {0}
MayRefuse (solve port job cert) (Port fault) = Unit {0}
MayRefuse (solve port job cert) (Job fault) = Unit {0}
MayRefuse (check cert) (Certificate fault) = Unit {0}
MayRefuse (verify port job cert) (Port fault) = Unit {0}
MayRefuse (verify port job cert) (Job fault) = Unit {0}
MayRefuse (verify port job cert) (Certificate fault) = Unit {0}
MayRefuse (verify port job cert) (Differs difference) = Unit {0}
MayRefuse (upgrade cert new) (Certificate fault) = Unit {0}
MayRefuse _ _ = ⊥

-- what is to be done can be: its instance is one, as a certificate's head says it, there are 1 to 101 weights in
-- their ranges,
-- and so are the nodes and the workers
pub record IsReady (work : Work) : Type 0 where
  pub instance_is : IsInstance work.inst
  pub said : IsSaid work.inst
  pub some : 1 ≤ length work.weights
  pub few : length work.weights ≤ 101
  pub weights : (k : ℕ) (weight : Weight) → slice_get work.weights k ≡ Some weight → IsWeight weight
  pub most_nodes : work.nodes ≤ 100000
  pub least_workers : 1 ≤ work.workers
  pub most_workers : work.workers ≤ 16

-- a task can be done: work is ready, and what is to be told was accepted
abbrev pub CanBeDone : Task → Type 0
CanBeDone (Quick work) = IsReady work
CanBeDone (Solve work) = IsReady work
CanBeDone (Demo work) = IsReady work
CanBeDone (Check v) = WasAccepted v
CanBeDone (Verify v) = WasAccepted v
CanBeDone (Upgrade v) = WasAccepted v

-- a task of `quick`, of `solve`, of `demo`, of `check`, of `verify`, of `upgrade` that can be done
abbrev pub IsQuick : Task → Type 0
IsQuick (Quick work) = IsReady work
IsQuick _ = ⊥

abbrev pub IsSolve : Task → Type 0
IsSolve (Solve work) = IsReady work
IsSolve _ = ⊥

abbrev pub IsDemo : Task → Type 0
IsDemo (Demo work) = IsReady work
IsDemo _ = ⊥

abbrev pub IsCheck : Task → Type 0
IsCheck (Check v) = WasAccepted v
IsCheck _ = ⊥

abbrev pub IsVerify : Task → Type 0
IsVerify (Verify v) = WasAccepted v
IsVerify _ = ⊥

abbrev pub IsUpgrade : Task → Type 0
IsUpgrade (Upgrade v) = WasAccepted v
IsUpgrade _ = ⊥

-- the tasks that a form may have
abbrev pub MayDo : FormValue → Task → Type 0
MayDo faulty = λ task. ⊥
MayDo (quick port asked) = IsQuick
MayDo (solve port job cert) = IsSolve
MayDo (check cert) = IsCheck
MayDo (verify port job cert) = IsVerify
MayDo (demo asked) = IsDemo
MayDo (upgrade cert new) = IsUpgrade

-- what a ruling's answer says of the form, whatever its files hold
abbrev pub FitsForm : FormValue → Result Task Halt → Type 0
FitsForm asked (Ok task) = MayDo asked task
FitsForm asked (Err (Refused why)) = MayRefuse asked why
FitsForm asked (Err ReadFault) = Unit {0}
FitsForm asked (Err OutOfMemory) = Unit {0}
