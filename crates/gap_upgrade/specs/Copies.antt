-- What copying a certificate into a new file leaves. Own to portgap.
use Rattle.std.specs.Prelude.{◌≡◌, ◌≢◌, ℕ, List, ◌++◌, Result, Ok, Err}
use Rattle.std.specs.Option.{ForSome}
use Rattle.gap_check.specs.Accepting.{Accepted}
use Rattle.gap_files.specs.Outside.{FilesNow, SinkNow, Rose, NoneFell, SameElsewhere, bytes_of}
use Rattle.gap_files.specs.Marks.{streams, appends, Did, DidFront}
use Rattle.gap_valid.specs.Verdicts.{VerdictValue}
use Rattle.gap_upgrade.specs.Copying.{body_bytes}
use Rattle.gap_upgrade.specs.Stops.{IsUnrefused}
use Rattle.gap_upgrade.specs.declared.stop.Stop.{Stop}
use Rattle.gap_upgrade.specs.declared.stop.Stop.TheVariants.{Refused, ReadFault, WriteFault, OutOfMemory}

-- a fact on the bytes of a name, where its content is told: a missing file has none
abbrev pub IfTold : FilesNow → List ℕ → (List ℕ → Type 0) → Type 0
IfTold files name P = ForSome (files.content name) (λ content. P (bytes_of content))

-- what stays of the files where one is read and another one written: all contents but that of the new file, the counts of
-- read faults of all others than the one that is read, and the counts of write faults of all others than the new one; no
-- count falls
pub record KeepsFiles (cert new : List ℕ) (f g : FilesNow) : Type 0 where
  pub contents : SameElsewhere new f.content g.content
  pub read_others : SameElsewhere cert f.read_faults g.read_faults
  pub read_later : NoneFell f.read_faults g.read_faults
  pub write_others : SameElsewhere new f.write_faults g.write_faults
  pub write_later : NoneFell f.write_faults g.write_faults

-- why copying stopped: a fault only where a count rose; a refusal and want of memory have no cause in the outside
abbrev pub CopyCause : List ℕ → List ℕ → FilesNow → FilesNow → Stop → Type 0
CopyCause cert new f g (Refused fault) = Unit {0}
CopyCause cert new f g ReadFault = Rose (f.read_faults cert) (g.read_faults cert)
CopyCause cert new f g WriteFault = Rose (f.write_faults new) (g.write_faults new)
CopyCause cert new f g OutOfMemory = Unit {0}

-- copying stopped while these bytes were due for the new file: a front of them was appended
pub record Stands (cert new : List ℕ) (f g : FilesNow) (due : List ℕ) (stop : Stop) : Type 0 where
  pub front : (sink : SinkNow) → DidFront (streams new f sink) (streams new g sink) (appends due)
  pub cause : CopyCause cert new f g stop
  pub keeps : KeepsFiles cert new f g

-- these bytes were appended to the new file, and no call on the files failed
pub record Appended (cert new : List ℕ) (f g : FilesNow) (bytes : List ℕ) : Type 0 where
  pub did : (sink : SinkNow) → Did (streams new f sink) (streams new g sink) (appends bytes)
  pub keeps : KeepsFiles cert new f g

-- bytes are a front of others
pub record IsFront (bytes whole : List ℕ) : Type 0 where
  pub rest : List ℕ
  pub split : whole ≡ bytes ++ rest

-- what was due where copying stopped, over bytes that are accepted: a front of their certificate; and it isn't refused
abbrev pub StopsIn : List ℕ → Stop → List ℕ → Type 0
StopsIn due stop held =
    (v : VerdictValue) (a : Accepted held v) → IsFront due (body_bytes a.certificate) × IsUnrefused stop

-- a certificate was read and accepted, and all of its items but the end mark were appended to the new file
pub record Copied (cert new : List ℕ) (f g : FilesNow) (v : VerdictValue) : Type 0 where
  pub bytes : List ℕ
  pub accepted : Accepted bytes v
  pub told : cert ≢ new → IfTold f cert (λ held. held ≡ bytes)
  pub appended : Appended cert new f g (body_bytes accepted.certificate)

-- copying stopped
pub record CopyStopped (cert new : List ℕ) (f g : FilesNow) (stop : Stop) : Type 0 where
  pub due : List ℕ
  pub stands : Stands cert new f g due stop
  pub told : cert ≢ new → IfTold f cert (StopsIn due stop)

-- a certificate was copied, or it stopped
abbrev pub Copies : List ℕ → List ℕ → FilesNow → FilesNow → Result VerdictValue Stop → Type 0
Copies cert new f g (Ok v) = Copied cert new f g v
Copies cert new f g (Err stop) = CopyStopped cert new f g stop
