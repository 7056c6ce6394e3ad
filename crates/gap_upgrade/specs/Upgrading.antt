-- The contract of an upgrade. Own to portgap.
use Rattle.std.specs.Prelude.{◌≡◌, ◌≢◌, ℕ, ◌<◌, ◌≤◌, ◌⊎◌, List, ◌++◌, length, Option, Some, Result, Ok, Err, IsErr}
use Rattle.gap_cert.specs.declared.field.Version.TheVariants.{Two}
use Rattle.gap_cert.specs.Certificates.{Certificate, spelling}
use Rattle.gap_check.specs.Accepting.{Accepted}
use Rattle.gap_files.specs.Outside.{FilesNow, SinkNow, Rose}
use Rattle.gap_check.specs.Telling.{verdict_report}
use Rattle.gap_files.specs.Marks.{Mark, appends, prints, streams, started, Did, DidLess}
use Rattle.gap_files.specs.Steps.{Step, IsUnstarted}
use Rattle.gap_files.specs.declared.halt.Halt.{Halt}
use Rattle.gap_writer.specs.Writing.{end_bytes}
use Rattle.gap_valid.specs.Verdicts.{VerdictValue, verdict_of}
use Rattle.gap_upgrade.specs.Copying.{body_bytes}
use Rattle.gap_upgrade.specs.Copies.{IfTold, KeepsFiles}
use Rattle.gap_upgrade.specs.Stops.{IsUnrefused}
use Rattle.gap_upgrade.specs.declared.stop.Stop.{Stop}
use Rattle.gap_upgrade.specs.declared.stop.Stop.TheVariants.{Refused, ReadFault, WriteFault, OutOfMemory}

-- what is put out behind the items: the report of what the certificate tells, and then the end mark into the new file
unfoldable pub closing_trace : VerdictValue → List Mark
closing_trace v = prints (verdict_report v) ++ appends end_bytes

-- what is put out for a certificate: all but its end mark into the new file, and then the closing
unfoldable pub upgrade_trace : Certificate → List Mark
upgrade_trace c = appends (body_bytes c) ++ closing_trace (verdict_of c)

-- an upgrade did all, from the files f and the sink s to g and t: the bytes that it read are accepted, they are those of the
-- file where that is told, and what is due for their certificate was put out behind the start of the new file
pub record Finished (cert new : List ℕ) (f : FilesNow) (s : SinkNow) (g : FilesNow) (t : SinkNow) : Type 0 where
  pub bytes : List ℕ
  pub verdict : VerdictValue
  pub accepted : Accepted bytes verdict
  pub told : cert ≢ new → IfTold f cert (λ held. held ≡ bytes)
  pub did : Did (started new f s) (streams new g t) (upgrade_trace accepted.certificate)

-- what an upgrade of a certificate leaves that stopped: the new file as it was or empty and nothing printed, or a proper
-- front of what is due behind the start of the new file
pub data Leaves (c : Certificate) (new : List ℕ) (f : FilesNow) (s : SinkNow) (g : FilesNow) (t : SinkNow) : Type 0 where
  unstarted : IsUnstarted new f s g t → Leaves c new f s g t
  stopped : DidLess (started new f s) (streams new g t) (upgrade_trace c) → Leaves c new f s g t

-- an upgrade stopped: where the bytes of the file are told and accepted it isn't refused, and this is left of it
pub record Unfinished (cert new : List ℕ) (f : FilesNow) (s : SinkNow) (g : FilesNow) (t : SinkNow) (stop : Stop) : Type
    0 where
  pub told : cert ≢ new → IfTold f cert (λ held. (v : VerdictValue) (a : Accepted held v)
      → Leaves a.certificate new f s g t × IsUnrefused stop)

abbrev pub Ends : List ℕ → List ℕ → FilesNow → SinkNow → FilesNow → SinkNow → Result (Unit {0}) Stop → Type 0
Ends cert new f s g t (Ok done) = Finished cert new f s g t
Ends cert new f s g t (Err stop) = Unfinished cert new f s g t stop

-- why an upgrade stopped: a fault only where a count rose; with a refusal and a read fault nothing was printed
abbrev pub UpgradeCause : List ℕ → List ℕ → FilesNow → SinkNow → FilesNow → SinkNow → Result (Unit {0}) Stop → Type 0
UpgradeCause cert new f s g t (Ok done) = Unit {0}
UpgradeCause cert new f s g t (Err (Refused fault)) = t ≡ s
UpgradeCause cert new f s g t (Err ReadFault) = Rose (f.read_faults cert) (g.read_faults cert) × (t ≡ s)
UpgradeCause cert new f s g t (Err WriteFault) =
    Rose s.faults t.faults ⊎ Rose (f.write_faults new) (g.write_faults new)
UpgradeCause cert new f s g t (Err OutOfMemory) = Unit {0}

-- an upgrade of the file `cert` into the file `new`, from the files f and the sink s to g and t
pub record Upgrades (cert new : List ℕ) (f : FilesNow) (s : SinkNow) (g : FilesNow) (t : SinkNow)
    (result : Result (Unit {0}) Stop) : Type 0 where
  pub ends : Ends cert new f s g t result
  pub cause : UpgradeCause cert new f s g t result
  pub keeps : KeepsFiles cert new f g
  pub later : s.faults ≤ t.faults

-- the new file holds the encoding in version 2 of a certificate
abbrev pub HoldsUpgrade : Certificate → Option (List ℕ) → Type 0
HoldsUpgrade c now = now ≡ Some (spelling Two c)

-- the new file holds a front of that, and not all of it
pub record HoldsFront (c : Certificate) (now : Option (List ℕ)) : Type 0 where
  pub bytes : List ℕ
  pub rest : List ℕ
  pub now_is : now ≡ Some bytes
  pub left : 0 < length rest
  pub split : spelling Two c ≡ bytes ++ rest
