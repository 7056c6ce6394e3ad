-- The items of bytes judged in their order, and the first fault of bytes. Own to portgap.

use Rattle.std.specs.Prelude.{◌≡◌, ◌≢◌, ℕ, ◌⊎◌, true, List, [], ◌∷◌, length, Some, None, Ok, Err}
use Rattle.gap_model.specs.declared.cert_fault.CertFault.{CertFault}
use Rattle.gap_model.specs.declared.cert_fault.CertKind.TheVariants as kind
use Rattle.gap_cert.specs.declared.field.Group.{Group}
use Rattle.gap_cert.specs.declared.field.Item.{Item}
use Rattle.gap_cert.specs.Bytes.{AreBytes}
use Rattle.gap_scan.specs.Scans.{Scan, HasScanned, next_of}
use Rattle.gap_judge.specs.Progress.{Progress, fresh_progress, progress_behind}
use Rattle.gap_judge.specs.Faults.{IsItemRight, IsItemFault}

-- items are right one behind another, and lead from one progress to another
unfoldable pub Judged : Progress → List Group → Progress → Type 0
Judged p [] end = p ≡ end
Judged p (group ∷ groups) end = IsItemRight p group.field × Judged (progress_behind p group.field) groups end

-- the items at the front of bytes are right: what they say, and the scanner behind them
pub record HasJudged (fed : List ℕ) (scan : Scan) (progress : Progress) : Type 0 where
  pub bytes_are : AreBytes fed
  pub groups : List Group
  pub scanned : HasScanned scan fed groups
  pub judged : Judged fresh_progress groups progress

-- all items of bytes are right, as far as they go, and no number behind them is at fault
pub record IsReadTo (scan : Scan) (progress : Progress) (fed : List ℕ) : Type 0 where
  pub items : HasJudged fed scan progress
  pub done : (next_of scan).answer ≡ Ok None

-- a fault that bytes decide: the items before it are right, and then a number is at fault by the grammar, or an item is
pub record IsFaultIn (fed : List ℕ) (f : CertFault) : Type 0 where
  pub scan : Scan
  pub progress : Progress
  pub items : HasJudged fed scan progress
  pub found :
      ((next_of scan).answer ≡ Err f)
      ⊎ ((item : Item) × ((next_of scan).answer ≡ Ok (Some item))
      × IsItemFault progress item.field item.place (next_of scan).stands.place f)

-- the bytes end inside the certificate: no fault is decided, and the end mark didn't come
pub record IsCutOff (fed : List ℕ) (f : CertFault) : Type 0 where
  pub scan : Scan
  pub progress : Progress
  pub read : IsReadTo scan progress fed
  pub unended : progress.ended ≢ true
  pub fault_is : f ≡ record { place = length fed; kind = kind.Short }

-- the first fault of bytes
abbrev pub IsFaultOf : List ℕ → CertFault → Type 0
IsFaultOf fed f = IsFaultIn fed f ⊎ IsCutOff fed f
