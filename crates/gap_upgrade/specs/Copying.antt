-- What is written of the items of a certificate, and what a copier has read and written. Own to portgap.
use Rattle.std.specs.Prelude.{◌≡◌, ℕ, Bool, true, false, if◌then◌else◌, List, [], ◌∷◌, ◌++◌, map, None, Result, Ok, Err}
use Rattle.gap_model.specs.declared.cert_fault.CertFault.{CertFault}
use Rattle.gap_cert.specs.declared.field.Field.{Field}
use Rattle.gap_cert.specs.declared.field.Field.TheVariants as field
use Rattle.gap_cert.specs.declared.field.Group.{Group}
use Rattle.gap_cert.specs.declared.field.Version.TheVariants.{Two}
use Rattle.gap_cert.specs.Bytes.{AreBytes}
use Rattle.gap_cert.specs.Certificates.{Certificate, fields_of, spelled}
use Rattle.gap_scan.specs.Scans.{Scan, HasScanned, next_of}
use Rattle.gap_check.specs.Accepting.{Accepted}
use Rattle.gap_check.specs.States.{State, HasRead}
use Rattle.gap_valid.specs.Verdicts.{VerdictValue}
use Rattle.gap_writer.specs.Writing.{Written, blank, put, put_all}
use Rattle.gap_upgrade.specs.declared.stop.Stop.{Stop}
use Rattle.gap_upgrade.specs.declared.stop.Stop.TheVariants.{Refused, ReadFault, WriteFault, OutOfMemory}

-- is it the end mark?
abbrev pub is_end : Field → Bool
is_end field.End = true
is_end _ = false

-- items without end marks
abbrev pub unended : List Field → List Field
unended [] = []
unended (f ∷ fields) = if is_end f then unended fields else f ∷ unended fields

-- the bytes of a certificate in version 2 but for the end mark
unfoldable pub body_bytes : Certificate → List ℕ
body_bytes c = spelled Two None (unended (fields_of c))

-- behind an item, where an end mark isn't written
abbrev pub put_unended : Written → Field → Written
put_unended w f = if is_end f then w else put w f

-- what a writer has behind groups, where nothing was dropped
unfoldable pub written : List Group → Written
written groups = put_all blank (unended (map (λ (g : Group). g.field) groups))

-- a scanner was fed these bytes, and its items so far were written but for end marks: bytes that are gone, and then those
-- that the writer has
pub record HasWritten (scan : Scan) (w : Written) (fed gone : List ℕ) : Type 0 where
  pub bytes_are : AreBytes fed
  pub groups : List Group
  pub scanned : HasScanned scan fed groups
  pub written_is : written groups ≡ record { bytes = gone ++ w.bytes; last = w.last }

-- all items of the bytes were written, and no number behind them is at fault
pub record HasWrittenAll (scan : Scan) (w : Written) (fed gone : List ℕ) : Type 0 where
  pub has_written : HasWritten scan w fed gone
  pub done : (next_of scan).answer ≡ Ok None

-- a number of the bytes is at fault by the grammar
pub record IsAtFault (fed : List ℕ) (f : CertFault) : Type 0 where
  pub bytes_are : AreBytes fed
  pub scan : Scan
  pub groups : List Group
  pub scanned : HasScanned scan fed groups
  pub found : (next_of scan).answer ≡ Err f

-- behind one item, where there was one: it is written; else all are; or a number is at fault, or memory was refused
abbrev pub Steps : Result Bool Stop → List ℕ → List ℕ → Scan → Written → Type 0
Steps (Ok true) fed gone scan w = HasWritten scan w fed gone
Steps (Ok false) fed gone scan w = HasWrittenAll scan w fed gone
Steps (Err (Refused f)) fed gone scan w = IsAtFault fed f
Steps (Err ReadFault) fed gone scan w = ⊥
Steps (Err WriteFault) fed gone scan w = ⊥
Steps (Err OutOfMemory) fed gone scan w = Unit {0}

-- behind all items of the bytes
abbrev pub Writes : Result (Unit {0}) Stop → List ℕ → List ℕ → Scan → Written → Type 0
Writes (Ok done) fed gone scan w = HasWrittenAll scan w fed gone
Writes (Err (Refused f)) fed gone scan w = IsAtFault fed f
Writes (Err ReadFault) fed gone scan w = ⊥
Writes (Err WriteFault) fed gone scan w = ⊥
Writes (Err OutOfMemory) fed gone scan w = Unit {0}

-- a checker and a scanner were fed these bytes, and the items were written
pub record HasCopied (state : State) (scan : Scan) (w : Written) (fed gone : List ℕ) : Type 0 where
  pub read : HasRead state fed
  pub all : HasWrittenAll scan w fed gone

-- bytes aren't accepted, and neither are any that begin with them
abbrev pub IsNone : List ℕ → Type 0
IsNone bytes = (v : VerdictValue) → Accepted bytes v → ⊥

abbrev pub IsNoFront : List ℕ → Type 0
IsNoFront bytes = (more : List ℕ) → IsNone (bytes ++ more)

-- all bytes of a certificate were fed, and all of its items but the end mark are gone
pub record IsWhole (fed gone : List ℕ) (v : VerdictValue) : Type 0 where
  pub accepted : Accepted fed v
  pub gone_is : gone ≡ body_bytes accepted.certificate
