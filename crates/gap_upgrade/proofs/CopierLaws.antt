-- A copier that is fed, and at the end of its bytes.
use Rattle.std.proofs.Common.{◌≡◌, ℕ, ◌⊎◌, inl, inr, List, [], ◌++◌, Result, Ok, Err, OnOk, sym, ap, ◌∙◌, subst}
use Rattle.gap_cert.specs.Bytes.{AreBytes}
use Rattle.gap_check.specs.Accepting.{Accepted}
use Rattle.gap_check.specs.States.{State, HasRead, answer_of}
use Rattle.gap_judge.specs.declared.stop.CertStop.{CertStop}
use Rattle.gap_judge.specs.declared.stop.CertStop.TheVariants as cert
use Rattle.gap_model.specs.declared.cert_fault.CertFault.{CertFault}
use Rattle.gap_scan.specs.Scans.{Scan, fed_more}
use Rattle.gap_valid.specs.Verdicts.{VerdictValue}
use Rattle.gap_writer.specs.Writing.{Written}
use Rattle.gap_upgrade.specs.Copying.{HasWritten, Steps, Writes, HasCopied, IsNone, IsNoFront, IsWhole}
use Rattle.gap_upgrade.specs.Stops.{refused_by, IsInner}
use Rattle.gap_upgrade.specs.declared.stop.Stop.{Stop}
use Rattle.gap_upgrade.specs.declared.stop.Stop.TheVariants.{Refused, ReadFault, WriteFault, OutOfMemory}
use Rattle.gap_upgrade.proofs.ItemLaws.{written_fed}
use Rattle.gap_upgrade.proofs.BodyLaws.{fault_none, refused_none, whole_is}

-- a stop at one item is one of all
pub steps_stop : (stop : Stop) (fed gone : List ℕ) (scan : Scan) (w : Written) → Steps (Err stop) fed gone scan w → Writes (Err stop) fed gone scan w
steps_stop (Refused fault) fed gone scan w h = h
steps_stop ReadFault fed gone scan w h = h
steps_stop WriteFault fed gone scan w h = h
steps_stop OutOfMemory fed gone scan w h = h

pub refused_inner : (stop : CertStop) → IsInner (refused_by stop)
refused_inner (cert.Fault fault) = tt
refused_inner cert.OutOfMemory = tt

-- a checker found a fault in the bytes
pub checker_refused : (state : State) (fed : List ℕ) (stop : CertStop) (fault : CertFault) → HasRead state fed → ◌≡◌ {A = Result (Unit {0}) CertStop} (Err stop) (answer_of state) → refused_by stop ≡ Refused fault → IsNoFront fed
checker_refused state fed (cert.Fault f) fault h e r = refused_none state fed f h (sym e)
checker_refused state fed cert.OutOfMemory fault h e r = absurd (cc)

-- a piece was read and its items written
pub feed_ok : (r : Result (Unit {0}) Stop) (state more : State) (scan next last : Scan) (w v : Written) (piece : List ℕ) → AreBytes piece → next ≡ fed_more scan piece
    → ((fed : List ℕ) → HasRead state fed → HasRead more (fed ++ piece)) → ((fed gone : List ℕ) → HasWritten next w fed gone → Writes r fed gone last v)
    → OnOk r ((fed gone : List ℕ) → HasCopied state scan w fed gone → HasCopied more last v (fed ++ piece) gone)
feed_ok (Ok u) state more scan next last w v piece b e read writes = λ fed gone h. record {
  read = read fed h.read;
  all = writes (fed ++ piece) gone (written_fed scan next w fed gone piece b e h.all.has_written);
}
feed_ok (Err stop) state more scan next last w v piece b e read writes = tt

-- a number of a piece is at fault
pub feed_refused : (r : Result (Unit {0}) Stop) (fault : CertFault) (state : State) (scan next last : Scan) (w v : Written) (fed gone piece : List ℕ) → AreBytes piece → next ≡ fed_more scan piece
    → ((fed gone : List ℕ) → HasWritten next w fed gone → Writes r fed gone last v) → r ≡ Err (Refused fault) → HasCopied state scan w fed gone → IsNoFront (fed ++ piece)
feed_refused r fault state scan next last w v fed gone piece b e writes is h =
    fault_none (fed ++ piece) fault (subst (λ (x : Result (Unit {0}) Stop). Writes x (fed ++ piece) gone last v) is (writes (fed ++ piece) gone (written_fed scan next w fed gone piece b e h.all.has_written)))

pub same_stop : (a b : Stop) → ◌≡◌ {A = Result (Unit {0}) Stop} (Err a) (Err b) → a ≡ b
same_stop a b e = cc

pub same_err : (a b : Stop) → ◌≡◌ {A = Result VerdictValue Stop} (Err a) (Err b) → a ≡ b
same_err a b e = cc

-- all was accepted
pub finish_whole : (state : State) (scan : Scan) (w : Written) (fed gone : List ℕ) (v : VerdictValue) → w.bytes ≡ [] → HasCopied state scan w fed gone → Accepted fed v → IsWhole fed gone v
finish_whole state scan w fed gone v empty h accepted = record { accepted = accepted; gone_is = whole_is scan w fed gone v empty h.all accepted }

out_of : (stop : CertStop) → ◌≡◌ {A = Result VerdictValue CertStop} (Err stop) (Err cert.OutOfMemory) → stop ≡ cert.OutOfMemory
out_of stop e = cc

never_out : (stop : CertStop) (fault : CertFault) → refused_by stop ≡ Refused fault → stop ≡ cert.OutOfMemory → ⊥
never_out stop fault is e = let f = sym (ap refused_by e) ∙ is in cc

finish_never : (stop : CertStop) (fault : CertFault) (v : VerdictValue) → refused_by stop ≡ Refused fault → (◌≡◌ {A = Result VerdictValue CertStop} (Err stop) (Ok v)) ⊎ (◌≡◌ {A = Result VerdictValue CertStop} (Err stop) (Err cert.OutOfMemory)) → ⊥
finish_never stop fault v is (inl e) = cc
finish_never stop fault v is (inr e) = never_out stop fault is (out_of stop e)

-- it wasn't
pub finish_refused : (stop : CertStop) (fault : CertFault) (fed : List ℕ) → ((v : VerdictValue) → Accepted fed v → (◌≡◌ {A = Result VerdictValue CertStop} (Err stop) (Ok v)) ⊎ (◌≡◌ {A = Result VerdictValue CertStop} (Err stop) (Err cert.OutOfMemory)))
    → refused_by stop ≡ Refused fault → IsNone fed
finish_refused stop fault fed all is = λ v accepted. finish_never stop fault v is (all v accepted)
