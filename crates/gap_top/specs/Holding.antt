-- What the file of the certificate holds after a run of `quick`, `solve` or `demo`. Own to portgap.
use Rattle.std.specs.Prelude.{◌≡◌, ◌≢◌, ℕ, ◌+◌, List, ◌++◌, length, All, Option, Some}
use Rattle.gap_base.specs.declared.job.Job.{Job}
use Rattle.gap_base.specs.Markets.{MarketValue}
use Rattle.gap_cert.specs.declared.field.Version.TheVariants.{Two}
use Rattle.gap_cert.specs.Certificates.{CertSection, Certificate, Encodes, spelling}
use Rattle.gap_check.specs.Accepting.{Accepted}
use Rattle.gap_check.specs.Histories.{IsFaultOf}
use Rattle.gap_valid.specs.HeadOf.{head_of}
use Rattle.gap_model.specs.declared.cert_fault.CertFault.{CertFault}
use Rattle.gap_model.specs.declared.cert_fault.CertKind.TheVariants.{Short}
use Rattle.gap_model.specs.declared.outcome.Best.{Best}
use Rattle.gap_model.specs.declared.outcome.Outcome.TheVariants.{Bounded}
use Rattle.gap_model.specs.declared.shown.Shown.TheVariants.{AtLeast}
use Rattle.gap_model.specs.Nodes.{splits_of}
use Rattle.gap_model.specs.Settings.{Setting}
use Rattle.gap_psd.specs.Shifts.{ShiftValue}
use Rattle.gap_rule.specs.Certificates.{IsOfFiles}
use Rattle.gap_solve.specs.Ended.{root_of}
use Rattle.gap_sweep.specs.Asked.{Asked, Done, IsShiftOf}
use Rattle.gap_sweep.specs.Certified.{sections_of, certificate, IsProperFront}
use Rattle.gap_tangent.specs.Bounds.{setting_with}
use Rattle.gap_valid.specs.CertTrees.{cert_splits, shown_bound}
use Rattle.gap_valid.specs.Valid.{IsValid, IsValidSection}
use Rattle.gap_valid.specs.Verdicts.{VerdictValue, told_in, verdict_of}
use Rattle.gap_top.specs.Working.{told_of}

-- the section of a weight tells what is said of it, has as many splits as are printed, and shows just the bound of an
-- open one
pub record IsSectionOfDone (s : Setting) (d : Done) : Type 0 where
  pub tells : told_in d.section ≡ told_of d
  pub splits : cert_splits d.section.tree ≡ splits_of d.solved.nodes
  pub shown : (best : Option Best) (bound : _) → d.solved.outcome ≡ Bounded best bound
      → shown_bound s (root_of s) d.solved.overall d.section.tree ≡ AtLeast bound

-- a file holds the encoding, in version 2, of a certificate that is valid, and of a market and a job
pub record HoldsCertificate (market : MarketValue) (job : Job) (c : Certificate) (now : Option (List ℕ)) : Type 0 where
  pub bytes : now ≡ Some (spelling Two c)
  pub encodes : Encodes Two (spelling Two c) c
  pub valid : IsValid c
  pub of : IsOfFiles market job (verdict_of c)

-- bytes are short: they are accepted with no verdict, and have no fault but that they end at their length
pub record AreShort (bytes : List ℕ) : Type 0 where
  pub unaccepted : (v : VerdictValue) → Accepted bytes v → ⊥
  pub short : (f : CertFault) → IsFaultOf bytes f → f ≡ record { place = length bytes; kind = Short }

-- a file holds a front, and not all, of the encoding of each certificate that goes on behind these sections, which
-- are valid; to a checker it is short
pub record HoldsFrontOf (asked : Asked) (shift : ShiftValue) (done : List Done) (now : Option (List ℕ)) : Type 0 where
  pub bytes : List ℕ
  pub now_is : now ≡ Some bytes
  pub proper : (more : List CertSection) → length done + length more ≡ length asked.weights
      → IsProperFront bytes (spelling Two (certificate asked shift (sections_of done ++ more)))
  pub valid : All (IsValidSection (head_of asked.instance shift asked.nodes)) (sections_of done)
  pub short : AreShort bytes

-- what a run has put into the file of its certificate:
-- shift: the shift of its head is that of the instance;
-- sections: its sections are those of the weights that were done;
-- whole: with the status 0 the file holds all of the certificate;
-- front: with another one a front of it, and not all
pub record IsCertified (market : MarketValue) (job : Job) (asked : Asked) (shift : ShiftValue) (done : List Done)
    (now : Option (List ℕ)) (status : ℕ) : Type 0 where
  pub shift_is : IsShiftOf asked.instance shift
  pub sections : All (λ d. IsSectionOfDone (setting_with asked.instance shift d.solved.weight) d) done
  pub whole : status ≡ 0 → HoldsCertificate market job (certificate asked shift (sections_of done)) now
  pub front : status ≢ 0 → HoldsFrontOf asked shift done now
