-- What is to be done for a task, and what came of it. Own to portgap.
use Rattle.std.specs.Prelude.{◌≡◌, ℕ, List, Result, Ok, Err}
use Rattle.gap_files.specs.Outside.{FilesNow, SinkNow, SameEverywhere}
use Rattle.gap_words.specs.Forms.{FormValue, faulty, quick, solve, check, verify, demo, upgrade}
use Rattle.gap_words.specs.Names.{unnamed}
use Rattle.gap_model.specs.declared.outcome.Told.{Told}
use Rattle.gap_rule.specs.Steps.{CanBeDone}
use Rattle.gap_rule.specs.declared.task.Task.{Task}
use Rattle.gap_rule.specs.declared.task.Task.TheVariants.{Quick, Solve, Demo, Check, Verify, Upgrade}
use Rattle.gap_rule.specs.declared.task.Work.{Work}
use Rattle.gap_sweep.specs.declared.style.Style.{Style}
use Rattle.gap_sweep.specs.declared.style.Style.TheVariants.{Whole, Single}
use Rattle.gap_sweep.specs.Asked.{Asked, Done}
use Rattle.gap_sweep.specs.Runs.{Runs}
use Rattle.gap_files.specs.declared.halt.Halt.{Halt}
use Rattle.gap_files.specs.declared.halt.Halt.TheVariants as halt
use Rattle.gap_top.specs.Statuses.{status_number}
use Rattle.gap_top.specs.Steps.{Refuses}
use Rattle.gap_top.specs.Telling.{Tells}
use Rattle.gap_top.specs.declared.stop.Stop.{Stop}
use Rattle.gap_top.specs.declared.stop.Stop.TheVariants.{ReadFault, WriteFault, OutOfMemory}
use Rattle.gap_upgrade.specs.declared.stop.Stop.{Stop as UpgradeStop}
use Rattle.gap_upgrade.specs.declared.stop.Stop.TheVariants as renewal
use Rattle.gap_upgrade.specs.Upgrading.{Upgrades}
use Rattle.gap_words.specs.declared.refusal.Refusal.TheVariants.{Certificate}

-- the name of the file into which a command's certificate goes: CERT, NEW, or the unnamed file
abbrev pub cert_in : FormValue → List ℕ
cert_in faulty = unnamed
cert_in (quick port asked) = unnamed
cert_in (solve port job cert) = cert
cert_in (check cert) = unnamed
cert_in (verify port job cert) = unnamed
cert_in (demo asked) = unnamed
cert_in (upgrade cert new) = new

-- the name of the file that is read again for a task: CERT of `upgrade`
abbrev pub source_in : FormValue → List ℕ
source_in faulty = unnamed
source_in (quick port asked) = unnamed
source_in (solve port job cert) = unnamed
source_in (check cert) = unnamed
source_in (verify port job cert) = unnamed
source_in (demo asked) = unnamed
source_in (upgrade cert new) = cert

-- what a sweep is asked for some work, in a style
abbrev pub asked_for : Style → Work → Asked
asked_for style work =
    record { instance = work.inst; rounded = work.rounded; weights = work.weights; nodes = work.nodes; style = style }

-- what a run ends with, by what its sweep ended with
abbrev pub ended_by : Result (Unit {0}) Halt → Result (Unit {0}) Stop
ended_by (Ok done) = Ok done
ended_by (Err halt.WriteFault) = Err WriteFault
ended_by (Err halt.OutOfMemory) = Err OutOfMemory

-- a sweep was run, from the files f and the sink s to g and t, and this is what the run ends with
pub record Sweeps (asked : Asked) (name : List ℕ) (f : FilesNow) (s : SinkNow) (g : FilesNow) (t : SinkNow)
    (result : Result (Unit {0}) Stop) : Type 0 where
  pub swept : Result (Unit {0}) Halt
  pub runs : Runs asked name f s g t swept
  pub ended : result ≡ ended_by swept

-- what a run ends with whose upgrade ended so with the sink at h: a refusal, which comes where the bytes changed between
-- the two readings, writes its line
abbrev pub EndsRenewal : Result (Unit {0}) UpgradeStop → SinkNow → SinkNow → Result (Unit {0}) Stop → Type 0
EndsRenewal (Ok done) h t result = (result ≡ Ok done) × (t ≡ h)
EndsRenewal (Err (renewal.Refused fault)) h t result =
    (stop : Stop) × (result ≡ Err stop) × Refuses (Certificate fault) h t stop
EndsRenewal (Err renewal.ReadFault) h t result = (result ≡ Err ReadFault) × (t ≡ h)
EndsRenewal (Err renewal.WriteFault) h t result = (result ≡ Err WriteFault) × (t ≡ h)
EndsRenewal (Err renewal.OutOfMemory) h t result = (result ≡ Err OutOfMemory) × (t ≡ h)

-- the certificate of the file `source` was written anew to the named file, from the files f and the sink s to g and t, and
-- this is what the run ends with
pub record Renews (source name : List ℕ) (f : FilesNow) (s : SinkNow) (g : FilesNow) (t : SinkNow)
    (result : Result (Unit {0}) Stop) : Type 0 where
  pub h : SinkNow
  pub renewed : Result (Unit {0}) UpgradeStop
  pub runs : Upgrades source name f s g h renewed
  pub ended : EndsRenewal renewed h t result

-- a task was done, or stopped on the way: its work was swept, where `quick` prints the lines of its weight alone; or its
-- verdict was told; or its certificate was written anew
abbrev pub Does : Task → (source name : List ℕ) → FilesNow → SinkNow → FilesNow → SinkNow → Result (Unit {0}) Stop → Type 0
Does (Quick work) source name f s g t result = Sweeps (asked_for Single work) name f s g t result
Does (Solve work) source name f s g t result = Sweeps (asked_for Whole work) name f s g t result
Does (Demo work) source name f s g t result = Sweeps (asked_for Whole work) name f s g t result
Does (Check v) source name f s g t result = Tells v f s g t result
Does (Verify v) source name f s g t result = Tells v f s g t result
Does (Upgrade v) source name f s g t result = Renews source name f s g t result

-- a task ended with a status: it could be done, and it was, from the files m on, which have the contents and the counts of
-- write faults that f has, since between the two files were read alone
pub record Performs (task : Task) (source name : List ℕ) (f : FilesNow) (s : SinkNow) (g : FilesNow) (t : SinkNow)
    (status : ℕ) : Type 0 where
  pub ready : CanBeDone task
  pub m : FilesNow
  pub contents : SameEverywhere f.content m.content
  pub write_faults : SameEverywhere f.write_faults m.write_faults
  pub result : Result (Unit {0}) Stop
  pub does : Does task source name m s g t result
  pub status_is : status ≡ status_number result

-- what is told of a weight that was done
abbrev pub told_of : Done → Told
told_of d = record { weight = d.solved.weight; outcome = d.solved.outcome }
