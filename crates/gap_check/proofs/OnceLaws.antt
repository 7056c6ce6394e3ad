-- Bytes are accepted with one verdict.
use Rattle.std.proofs.Common.{◌≡◌, ℕ, List, [], ◌∷◌, map, refl, sym, ap, ◌∙◌, subst}
use Rattle.gap_cert.specs.declared.field.Field.{Field}
use Rattle.gap_cert.specs.declared.field.Group.{Group}
use Rattle.gap_cert.specs.declared.context.Context.{Context}
use Rattle.gap_cert.specs.Bytes.{AreBytes, be, raw_of}
use Rattle.gap_cert.specs.Formats.{Format, natural, signed, guard, says, Spells}
use Rattle.gap_cert.specs.Contexts.{start, after, Runs}
use Rattle.gap_cert.specs.Certificates.{CertHead, Certificate, fields_of, group_in}
use Rattle.gap_cert.proofs.Numbers.{bytes_of_be, raw_fits}
use Rattle.gap_cert.proofs.WholeLaws.{one_encoding}
use Rattle.gap_scan.proofs.ScanLaws.{bytes_append}
use Rattle.gap_model.specs.declared.outcome.Told.{Told}
use Rattle.gap_valid.specs.Heads.{instance_in}
use Rattle.gap_valid.specs.Verdicts.{VerdictValue, verdict_of}
use Rattle.gap_judge.specs.Progress.{Progress, fresh_progress, progress_behind}
use Rattle.gap_check.specs.Accepting.{Accepted}
use Rattle.gap_check.proofs.AcceptLaws.{verdict_at}
use Rattle.gap_check.proofs.Complete.{Judges, WholeTells, whole_tells}

-- ---- an encoding is bytes

spelled_bytes : (F : Format) (g : Group) (bytes : List ℕ) → Spells F g bytes → AreBytes bytes
unfolding Spells
spelled_bytes (natural w wrong least greatest next) g bytes h =
    rw h.bytes_are (bytes_append (be w h.value) h.more (bytes_of_be w h.value h.fits) (spelled_bytes (next h.value) g h.more h.behind))
spelled_bytes (signed w least greatest next) g bytes h =
    rw h.bytes_are (bytes_append (be w (raw_of w h.value)) h.more (bytes_of_be w (raw_of w h.value) (raw_fits w h.value h.fits)) (spelled_bytes (next h.value) g h.more h.behind))
spelled_bytes (guard test back wrong format) g bytes h = spelled_bytes format g bytes h.1
spelled_bytes (says said) g bytes h = rw h.1 tt

run_bytes : (groups : List Group) (c end : Context) (bytes : List ℕ) → Runs c groups end bytes → AreBytes bytes
unfolding Runs
run_bytes [] c end bytes h = rw h.1 tt
run_bytes (g ∷ groups) c end bytes h = rw h.4 (bytes_append h.0 h.1 (spelled_bytes _ g h.0 h.2) (run_bytes groups (after c g) end h.1 h.3))

pub accepted_bytes : (bytes : List ℕ) (v : VerdictValue) → Accepted bytes v → AreBytes bytes
accepted_bytes bytes v a = run_bytes (map (group_in a.version) (fields_of a.certificate)) start a.encodes.end bytes a.encodes.run

-- ---- one verdict

judged_once : (fields : List Field) (p q r : Progress) → Judges p fields q → Judges p fields r → q ≡ r
unfolding Judges
judged_once [] p q r h k = sym h ∙ k
judged_once (f ∷ fields) p q r h k = judged_once fields (progress_behind p f) q r h.1 k.1

verdict_told : (c : Certificate) (t : WholeTells c) → verdict_at t.end ≡ verdict_of c
verdict_told c t =
    ap (λ (h : CertHead). record { instance = instance_in h; nodes = h.nodes; sections = t.end.told }) t.head_is
    ∙ ap (λ (l : List Told). record { instance = instance_in c.head; nodes = c.head.nodes; sections = l }) t.told_is

pub told_once : (c d : Certificate) (t : WholeTells c) (u : WholeTells d) → fields_of c ≡ fields_of d → verdict_of c ≡ verdict_of d
told_once c d t u same =
    sym (verdict_told c t)
    ∙ ap verdict_at (judged_once (fields_of d) fresh_progress t.end u.end (subst (λ (fields : List Field). Judges fresh_progress fields t.end) same t.judges) u.judges)
    ∙ verdict_told d u

pub accepted_once : (bytes : List ℕ) (v w : VerdictValue) → Accepted bytes v → Accepted bytes w → v ≡ w
accepted_once bytes v w a b =
    let one = one_encoding a.version b.version bytes bytes [] [] a.certificate b.certificate a.encodes b.encodes refl in
    a.verdict_is ∙ told_once a.certificate b.certificate (whole_tells a.certificate a.valid) (whole_tells b.certificate b.valid) one.1 ∙ sym b.verdict_is
