-- A whole upgrade, and what follows of it.
use Rattle.std.proofs.Common.{◌≡◌, ◌≢◌, ℕ, ◌<◌, ◌≤◌, ◌⊎◌, inl, inr, List, [], ◌∷◌, ◌++◌, length, Option, Some, None, Result, Ok, Err, refl, sym, ap, ◌∙◌, subst, arith}
use Rattle.std.specs.Option.{option_map, ForSome}
use Rattle.std.proofs.lemmas.Option.{none-some, same_Some}
use Rattle.std.proofs.lemmas.List.{append_assoc, length-append}
use Rattle.gap_cert.specs.declared.field.Version.TheVariants.{Two}
use Rattle.gap_cert.specs.Certificates.{Certificate, spelling}
use Rattle.gap_check.specs.Accepting.{Accepted}
use Rattle.gap_files.specs.Outside.{FilesNow, SinkNow, Rose, bytes_of}
use Rattle.gap_files.specs.Marks.{Mark, to_file, to_sink, appends, prints, filed, Streams, stream, streams, started, Did, DidFront, DidLess}
use Rattle.gap_files.specs.Steps.{IsUnstarted, Opens, HasCause, Closes}
use Rattle.gap_files.specs.declared.halt.Halt.{Halt}
use Rattle.gap_files.specs.declared.halt.Halt.TheVariants as halt
use Rattle.gap_writer.specs.Writing.{end_bytes}
use Rattle.gap_writer.proofs.ItemLaws.{end_some}
use Rattle.gap_files.proofs.MarkLaws.{did_both, appends-append, filed-append, filed-appends, filed-prints, front_of_more, length-appends, less_of_front, less_behind, last_filed}
use Rattle.gap_valid.specs.Verdicts.{VerdictValue, verdict_of}
use Rattle.gap_check.specs.Telling.{verdict_report}
use Rattle.gap_upgrade.specs.Copying.{body_bytes}
use Rattle.gap_upgrade.specs.Copies.{IfTold, KeepsFiles, CopyCause, IsFront, Copied, CopyStopped}
use Rattle.gap_upgrade.specs.Stops.{stopped_by, IsUnrefused}
use Rattle.gap_upgrade.specs.Upgrading.{closing_trace, upgrade_trace, Leaves, unstarted, stopped, UpgradeCause, Upgrades, HoldsUpgrade, HoldsFront}
use Rattle.gap_upgrade.specs.declared.stop.Stop.{Stop}
use Rattle.gap_upgrade.specs.declared.stop.Stop.TheVariants.{Refused, ReadFault, WriteFault, OutOfMemory}
use Rattle.gap_upgrade.proofs.BodyLaws.{spelling_is, AreSame, same_certificate}
use Rattle.gap_upgrade.proofs.CloseLaws.{closing_some}
use Rattle.gap_upgrade.proofs.CopyLaws.{keeps_of, keeps_on, cause_on, put_ok, put_err}

-- ---- behind the start of the new file

started_file : (content : Option (Option (List ℕ))) (now : Option (List ℕ)) (P : List ℕ → Type 0) → ForSome content (λ before. now ≡ Some []) → ForSome now P
    → ForSome (option_map (λ (before : List ℕ). []) (option_map bytes_of content)) P
started_file None now P empty holds = λ before told. absurd (none-some before told)
started_file (Some content) now P empty holds = λ before told. subst P (same_Some [] before told) (holds [] (empty content refl))

started_did : (name : List ℕ) (f g : FilesNow) (s : SinkNow) (new : Streams) (trace : List Mark)
    → ForSome (f.content name) (λ before. g.content name ≡ Some (Some [])) → Did (streams name g s) new trace → Did (started name f s) new trace
started_did name f g s new trace empty did = record {
  file = started_file (f.content name) (stream name g) (λ before. new.file ≡ Some (before ++ filed trace)) (λ before told. ap (option_map bytes_of) (empty before told)) did.file;
  sink = did.sink;
}

started_less : (name : List ℕ) (f g : FilesNow) (s : SinkNow) (new : Streams) (trace : List Mark)
    → ForSome (f.content name) (λ before. g.content name ≡ Some (Some [])) → DidLess (streams name g s) new trace → DidLess (started name f s) new trace
started_less name f g s new trace empty less = record { part = less.part; rest = less.rest; split = less.split; left = less.left; did = started_did name f g s new less.part empty less.did }

unrefused_put : (put : Halt) (stop : Stop) → ◌≡◌ {A = Result (Unit {0}) Stop} (Err stop) (stopped_by (Err put)) → IsUnrefused stop
unrefused_put halt.WriteFault stop e = let same : WriteFault ≡ stop = cc in subst IsUnrefused same tt
unrefused_put halt.OutOfMemory stop e = let same : OutOfMemory ≡ stop = cc in subst IsUnrefused same tt

put_cause : (cert new : List ℕ) (f : FilesNow) (s : SinkNow) (g : FilesNow) (t : SinkNow) (put : Halt) (stop : Stop) → ◌≡◌ {A = Result (Unit {0}) Stop} (Err stop) (stopped_by (Err put))
    → HasCause new f s g t (Err put) → UpgradeCause cert new f s g t (Err stop)
put_cause cert new f s g t halt.WriteFault stop e cause = let same : WriteFault ≡ stop = cc in subst (λ (x : Stop). UpgradeCause cert new f s g t (Err x)) same cause
put_cause cert new f s g t halt.OutOfMemory stop e cause = let same : OutOfMemory ≡ stop = cc in subst (λ (x : Stop). UpgradeCause cert new f s g t (Err x)) same tt

-- the new file wasn't started
upgrade_unstarted : (cert new : List ℕ) (f g : FilesNow) (s : SinkNow) (put : Halt) (stop : Stop) → ◌≡◌ {A = Result (Unit {0}) Stop} (Err stop) (stopped_by (Err put))
    → Opens new f s g s (Err put) → Upgrades cert new f s g s (Err stop)
upgrade_unstarted cert new f g s put stop e opens = record {
  ends = record { told = λ apart content told v accepted. (unstarted opens.empty, unrefused_put put stop e) };
  cause = put_cause cert new f s g s put stop e opens.cause;
  keeps = keeps_of cert new f s g s opens.keeps;
  later = opens.keeps.later_sink;
}

pub upgrade_unopened : (cert new : List ℕ) (f g : FilesNow) (s : SinkNow) (r : Result (Unit {0}) Halt) (stop : Stop) → ◌≡◌ {A = Result (Unit {0}) Stop} (Err stop) (stopped_by r)
    → Opens new f s g s r → Upgrades cert new f s g s (Err stop)
upgrade_unopened cert new f g s r stop e opens =
    let put = put_err r stop e in
    upgrade_unstarted cert new f g s put.0 stop (e ∙ ap stopped_by put.1) (subst (Opens new f s g s) put.1 opens)

pub opened : (new : List ℕ) (f g : FilesNow) (s : SinkNow) (r : Result (Unit {0}) Halt) (u : Unit {0}) → ◌≡◌ {A = Result (Unit {0}) Stop} (Ok u) (stopped_by r) → Opens new f s g s r → Opens new f s g s (Ok tt)
opened new f g s r u e opens = subst (Opens new f s g s) (put_ok r u e) opens

copy_cause : (cert new : List ℕ) (f g : FilesNow) (s : SinkNow) (stop : Stop) → CopyCause cert new f g stop → UpgradeCause cert new f s g s (Err stop)
copy_cause cert new f g s (Refused fault) cause = refl
copy_cause cert new f g s ReadFault cause = (cause, refl)
copy_cause cert new f g s WriteFault cause = inr cause
copy_cause cert new f g s OutOfMemory cause = tt

-- a front of the body is a proper front of the whole
front_less : (new : List ℕ) (g h : FilesNow) (s : SinkNow) (c : Certificate) (due : List ℕ) → IsFront due (body_bytes c) → DidFront (streams new g s) (streams new h s) (appends due)
    → DidLess (streams new g s) (streams new h s) (upgrade_trace c)
unfolding upgrade_trace
front_less new g h s c due front did =
    less_of_front (streams new g s) (streams new h s) (appends (body_bytes c)) (closing_trace (verdict_of c)) (closing_some (verdict_of c))
    (longer (appends due) (appends front.rest) (appends (body_bytes c)) (ap appends front.split ∙ both due front.rest) did)
  where
    both : (a b : List ℕ) → appends (a ++ b) ≡ appends a ++ appends b
    both a b = appends-append a b

    longer : (a b whole : List Mark) → whole ≡ a ++ b → DidFront (streams new g s) (streams new h s) a → DidFront (streams new g s) (streams new h s) whole
    longer a b whole e d = subst (λ (x : List Mark). DidFront (streams new g s) (streams new h s) x) (sym e) (front_of_more (streams new g s) (streams new h s) a b d)

-- copying stopped
pub upgrade_uncopied : (cert new : List ℕ) (f g h : FilesNow) (s : SinkNow) (stop : Stop) → Opens new f s g s (Ok tt) → CopyStopped cert new g h stop → Upgrades cert new f s h s (Err stop)
upgrade_uncopied cert new f g h s stop opens c =
    let keeps = keeps_of cert new f s g s opens.keeps in
    record {
      ends = record {
        told = λ apart content told v accepted.
            let in_copy = c.told apart content (keeps.contents cert apart ∙ told) v accepted in
            (stopped (started_less new f g s (streams new h s) (upgrade_trace accepted.certificate) opens.empty (front_less new g h s accepted.certificate c.due in_copy.0 (c.stands.front s))), in_copy.1);
      };
      cause = copy_cause cert new f h s stop (cause_on cert new f g h stop keeps c.stands.cause);
      keeps = keeps_on cert new f g h keeps c.stands.keeps;
      later = omega arith;
    }

-- it was copied, and then it stopped, or all was done
closed_less : (new : List ℕ) (g h : FilesNow) (s : SinkNow) (k : FilesNow) (t : SinkNow) (c d : Certificate) → AreSame c d → Did (streams new g s) (streams new h s) (appends (body_bytes c))
    → DidLess (streams new h s) (streams new k t) (closing_trace (verdict_of c)) → DidLess (streams new g s) (streams new k t) (upgrade_trace d)
unfolding upgrade_trace
closed_less new g h s k t c d same did less =
    subst (λ (x : List ℕ). DidLess (streams new g s) (streams new k t) (appends x ++ closing_trace (verdict_of d))) same.body
    (subst (λ (v : VerdictValue). DidLess (streams new g s) (streams new k t) (appends (body_bytes c) ++ closing_trace v)) same.verdict
    (less_behind (streams new g s) (streams new h s) (streams new k t) (appends (body_bytes c)) (closing_trace (verdict_of c)) did less))

closed_did : (new : List ℕ) (g h : FilesNow) (s : SinkNow) (k : FilesNow) (t : SinkNow) (c : Certificate) → Did (streams new g s) (streams new h s) (appends (body_bytes c))
    → Did (streams new h s) (streams new k t) (closing_trace (verdict_of c)) → Did (streams new g s) (streams new k t) (upgrade_trace c)
unfolding upgrade_trace
closed_did new g h s k t c first second = did_both (streams new g s) (streams new h s) (streams new k t) (appends (body_bytes c)) (closing_trace (verdict_of c)) first second

rose_later : (a b c : ℕ) → a ≤ b → Rose b c → Rose a c
rose_later a b c h r = omega arith

later_cause : (cert new : List ℕ) (f h : FilesNow) (s : SinkNow) (k : FilesNow) (t : SinkNow) (put : Halt) → KeepsFiles cert new f h → HasCause new h s k t (Err put) → HasCause new f s k t (Err put)
later_cause cert new f h s k t halt.WriteFault keeps (inl rose) = inl rose
later_cause cert new f h s k t halt.WriteFault keeps (inr rose) = inr (rose_later _ _ _ (keeps.write_later new) rose)
later_cause cert new f h s k t halt.OutOfMemory keeps cause = tt

pub upgrade_closed : (cert new : List ℕ) (f g h : FilesNow) (s : SinkNow) (k : FilesNow) (t : SinkNow) (v : VerdictValue) (put : Result (Unit {0}) Halt) (r : Result (Unit {0}) Stop) → r ≡ stopped_by put
    → Opens new f s g s (Ok tt) → Copied cert new g h v → Closes new h s k t (closing_trace v) put → Upgrades cert new f s k t r
upgrade_closed cert new f g h s k t v (Ok done) r is opens c closes =
    let start = keeps_of cert new f s g s opens.keeps in
    let copied = keeps_on cert new f g h start c.appended.keeps in
    subst (Upgrades cert new f s k t) (sym is) (record {
      ends = record {
        bytes = c.bytes;
        verdict = v;
        accepted = c.accepted;
        told = λ apart content told. c.told apart content (start.contents cert apart ∙ told);
        did = started_did new f g s (streams new k t) (upgrade_trace c.accepted.certificate) opens.empty
            (closed_did new g h s k t c.accepted.certificate (c.appended.did s)
            (subst (λ (x : VerdictValue). Did (streams new h s) (streams new k t) (closing_trace x)) c.accepted.verdict_is closes.step.does));
      };
      cause = tt;
      keeps = keeps_on cert new f h k copied (keeps_of cert new h s k t closes.step.keeps);
      later = closes.step.keeps.later_sink;
    })
upgrade_closed cert new f g h s k t v (Err put) (Ok done) is opens c closes = absurd (never put is)
  where
    never : (put : Halt) → ◌≡◌ {A = Result (Unit {0}) Stop} (Ok done) (stopped_by (Err put)) → ⊥
    never halt.WriteFault e = cc
    never halt.OutOfMemory e = cc
upgrade_closed cert new f g h s k t v (Err put) (Err stop) is opens c closes =
    let start = keeps_of cert new f s g s opens.keeps in
    let copied = keeps_on cert new f g h start c.appended.keeps in
    record {
      ends = record {
        told = λ apart content told w accepted.
            let same = same_certificate c.bytes (bytes_of content) v w (c.told apart content (start.contents cert apart ∙ told)) c.accepted accepted in
            let less = subst (λ (x : VerdictValue). DidLess (streams new h s) (streams new k t) (closing_trace x)) c.accepted.verdict_is (closes.less refl) in
            (stopped (started_less new f g s (streams new k t) (upgrade_trace accepted.certificate) opens.empty (closed_less new g h s k t c.accepted.certificate accepted.certificate same (c.appended.did s) less)), unrefused_put put stop is);
      };
      cause = put_cause cert new f s k t put stop is (later_cause cert new f h s k t put copied closes.step.cause);
      keeps = keeps_on cert new f h k copied (keeps_of cert new h s k t closes.step.keeps);
      later = closes.step.keeps.later_sink;
    }

-- ---- what the new file holds

filed_closing : (v : VerdictValue) → filed (closing_trace v) ≡ end_bytes
unfolding closing_trace
filed_closing v = filed-append (prints (verdict_report v)) (appends end_bytes) ∙ ap (λ (x : List ℕ). x ++ filed (appends end_bytes)) (filed-prints (verdict_report v)) ∙ filed-appends end_bytes

filed_upgrade : (c : Certificate) → filed (upgrade_trace c) ≡ body_bytes c ++ end_bytes
unfolding upgrade_trace
filed_upgrade c =
    filed-append (appends (body_bytes c)) (closing_trace (verdict_of c)) ∙ ap (λ (x : List ℕ). x ++ filed (closing_trace (verdict_of c))) (filed-appends (body_bytes c))
    ∙ ap (λ (x : List ℕ). body_bytes c ++ x) (filed_closing (verdict_of c))

file_is : (name : List ℕ) (f : FilesNow) (s : SinkNow) (new : Streams) (trace : List Mark) (was : List ℕ) → stream name f ≡ Some was → Did (started name f s) new trace → new.file ≡ Some (filed trace)
file_is name f s new trace was told did = did.file [] (ap (option_map (λ (before : List ℕ). [])) told)

pub holds_all : (cert new : List ℕ) (f : FilesNow) (s : SinkNow) (g : FilesNow) (t : SinkNow) → Upgrades cert new f s g t (Ok tt) → cert ≢ new
    → ForSome (stream new f) (λ was. IfTold f cert (λ held. (v : VerdictValue) (a : Accepted held v) → HoldsUpgrade a.certificate (stream new g)))
holds_all cert new f s g t u apart = λ was started content told v accepted.
    let e = u.ends in
    let same = same_certificate e.bytes (bytes_of content) e.verdict v (e.told apart content told) e.accepted accepted in
    file_is new f s (streams new g t) (upgrade_trace e.accepted.certificate) was started e.did
    ∙ ap Some (filed_upgrade e.accepted.certificate ∙ ap (λ (x : List ℕ). x ++ end_bytes) same.body
    ∙ sym (spelling_is accepted.version (bytes_of content) accepted.certificate accepted.encodes))

trace_ends : (c : Certificate) → upgrade_trace c ≡ (appends (body_bytes c) ++ prints (verdict_report (verdict_of c))) ++ appends end_bytes
unfolding upgrade_trace closing_trace
trace_ends c = sym (append_assoc (appends (body_bytes c)) (prints (verdict_report (verdict_of c))) (appends end_bytes))

holds_front : (new : List ℕ) (f : FilesNow) (s : SinkNow) (now : Streams) (c : Certificate) (was : List ℕ) → spelling Two c ≡ body_bytes c ++ end_bytes → stream new f ≡ Some was
    → DidLess (started new f s) now (upgrade_trace c) → HoldsFront c now.file
holds_front new f s now c was is told less = record {
  bytes = filed less.part;
  rest = filed less.rest;
  now_is = file_is new f s now less.part was told less.did;
  left = last_filed (appends (body_bytes c) ++ prints (verdict_report (verdict_of c))) less.part less.rest end_bytes end_some less.left (sym (trace_ends c) ∙ less.split);
  split = is ∙ sym (filed_upgrade c) ∙ ap filed less.split ∙ filed-append less.part less.rest;
}

leaves_front : (new : List ℕ) (f : FilesNow) (s : SinkNow) (g : FilesNow) (t : SinkNow) (c : Certificate) (was : List ℕ) → spelling Two c ≡ body_bytes c ++ end_bytes → stream new f ≡ Some was
    → Leaves c new f s g t → IsUnstarted new f s g t ⊎ HoldsFront c (stream new g)
leaves_front new f s g t c was is told (unstarted left) = inl left
leaves_front new f s g t c was is told (stopped less) = inr (holds_front new f s (streams new g t) c was is told less)

pub holds_less : (cert new : List ℕ) (f : FilesNow) (s : SinkNow) (g : FilesNow) (t : SinkNow) (stop : Stop) → Upgrades cert new f s g t (Err stop) → cert ≢ new
    → ForSome (stream new f) (λ was. IfTold f cert (λ held. (v : VerdictValue) (a : Accepted held v) → IsUnstarted new f s g t ⊎ HoldsFront a.certificate (stream new g)))
holds_less cert new f s g t stop u apart = λ was started content told v accepted.
    leaves_front new f s g t accepted.certificate was (spelling_is accepted.version (bytes_of content) accepted.certificate accepted.encodes) started (u.ends.told apart content told v accepted).0
