-- What the bytes of a certificate say: they are accepted with one verdict, and then no fault is theirs.
use Rattle.std.proofs.Common.{◌≡◌, ℕ, inl, inr, List, [], ◌∷◌, ◌++◌, map, Result, Ok, Err, refl, sym, ap, ◌∙◌, subst}
use Rattle.gap_cert.specs.declared.field.Field.{Field}
use Rattle.gap_cert.specs.declared.field.Group.{Group}
use Rattle.gap_cert.specs.declared.context.Context.{Context}
use Rattle.gap_cert.specs.Bytes.{AreBytes, be, raw_of}
use Rattle.gap_cert.specs.Formats.{Format, natural, signed, guard, says, Spells}
use Rattle.gap_cert.specs.Contexts.{start, after, Runs}
use Rattle.gap_cert.specs.Certificates.{CertHead, Certificate, fields_of, group_in}
use Rattle.gap_cert.proofs.Numbers.{bytes_of_be, raw_fits}
use Rattle.gap_cert.proofs.WholeLaws.{one_encoding}
use Rattle.gap_scan.proofs.ScanLaws.{bytes_append}
use Rattle.gap_model.specs.declared.cert_fault.CertFault.{CertFault}
use Rattle.gap_model.specs.declared.outcome.Told.{Told}
use Rattle.gap_valid.specs.Heads.{instance_in}
use Rattle.gap_valid.specs.Verdicts.{VerdictValue, verdict_of}
use Rattle.gap_judge.specs.Progress.{Progress, fresh_progress, progress_behind}
use Rattle.gap_judge.specs.declared.stop.CertStop.TheVariants.{Fault}
use Rattle.gap_check.specs.Accepting.{Accepted}
use Rattle.gap_check.specs.Histories.{IsFaultIn, IsCutOff, IsFaultOf}
use Rattle.gap_check.specs.States.{State, HasRead, reading, stopped, no_memory, answer_of}
use Rattle.gap_check.proofs.AcceptLaws.{completes, faultless}
use Rattle.gap_check.proofs.Complete.{Judges, WholeTells, whole_tells}
use Rattle.gap_check.proofs.HistoryLaws.{fault_stays}
use Rattle.gap_check.proofs.OnceLaws.{accepted_bytes, accepted_once}
use Rattle.gap_words.specs.declared.refusal.Refusal.{Refusal}
use Rattle.gap_words.specs.declared.refusal.Refusal.TheVariants.{Words, Port, Job, HeldRange, Certificate as BadCertificate, Differs}
use Rattle.gap_rule.specs.Certificates.{SaysCertificate, RulesCertificate}
use Rattle.gap_rule.specs.Rules.{refused_as}
use Rattle.gap_rule.specs.Steps.{IsLike, IsRuling}

-- ---- a verdict, or a fault

uncut : (bytes : List ℕ) (f : CertFault) (v : VerdictValue) → IsCutOff bytes f → Accepted bytes v → ⊥
uncut bytes f v cut a = absurd (cut.unended (completes bytes cut.scan cut.progress v cut.read a).ended_is)

no_fault : (bytes : List ℕ) (f : CertFault) (v : VerdictValue) → IsFaultOf bytes f → Accepted bytes v → ⊥
no_fault bytes f v (inl found) a = faultless bytes f v found a
no_fault bytes f v (inr cut) a = uncut bytes f v cut a

said_only : (bytes : List ℕ) (z : Result VerdictValue CertFault) (other : Result VerdictValue Refusal) → SaysCertificate bytes z → RulesCertificate bytes other → IsLike (refused_as BadCertificate z) other
said_only bytes (Ok v) (Ok w) a b = accepted_once bytes v w a b
said_only bytes (Ok v) (Err (BadCertificate f)) a b = no_fault bytes f v (b (accepted_bytes bytes v a)) a
said_only bytes (Ok v) (Err Words) a b = b
said_only bytes (Ok v) (Err (Port f)) a b = b
said_only bytes (Ok v) (Err (Job f)) a b = b
said_only bytes (Ok v) (Err HeldRange) a b = b
said_only bytes (Ok v) (Err (Differs d)) a b = b
said_only bytes (Err f) (Ok w) a b = no_fault bytes f w (a (accepted_bytes bytes w b)) b
said_only bytes (Err f) (Err (BadCertificate g)) a b = refl
said_only bytes (Err f) (Err Words) a b = absurd b
said_only bytes (Err f) (Err (Port g)) a b = absurd b
said_only bytes (Err f) (Err (Job g)) a b = absurd b
said_only bytes (Err f) (Err HeldRange) a b = absurd b
said_only bytes (Err f) (Err (Differs d)) a b = absurd b

said_ruled : (bytes : List ℕ) (z : Result VerdictValue CertFault) → SaysCertificate bytes z → RulesCertificate bytes (refused_as BadCertificate z)
said_ruled bytes (Ok v) a = a
said_ruled bytes (Err f) a = a

-- what the checker says is the one ruling
pub ruled_certificate : (bytes : List ℕ) (z : Result VerdictValue CertFault) → SaysCertificate bytes z → IsRuling (RulesCertificate bytes) (refused_as BadCertificate z)
ruled_certificate bytes z told = record {
  holds = said_ruled bytes z told;
  only = λ other ruled. said_only bytes z other told ruled;
}

-- ---- a checker that is fed

tail_bytes : (xs ys : List ℕ) → AreBytes (xs ++ ys) → AreBytes ys
tail_bytes [] ys h = h
tail_bytes (x ∷ xs) ys h = tail_bytes xs ys h.1

-- a fault that was found over some bytes is that of any bytes that begin with them
pub refused_certificate : (state : State) (fed rest : List ℕ) (f : CertFault) → HasRead state fed → answer_of state ≡ Err (Fault f) → SaysCertificate (fed ++ rest) (Err f)
refused_certificate (reading scan progress) fed rest f h e = cc
refused_certificate (stopped k) fed rest f h e = λ bytes. let same : k ≡ f = cc in inl (fault_stays fed rest f (tail_bytes fed rest bytes) (subst (IsFaultIn fed) same h))
refused_certificate no_memory fed rest f h e = cc
