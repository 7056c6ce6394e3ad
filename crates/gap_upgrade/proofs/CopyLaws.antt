-- Copying, piece by piece.
use Rattle.std.proofs.Common.{◌≡◌, ◌≢◌, ℕ, ◌+◌, ◌≤◌, ◌⊎◌, inl, inr, List, [], ◌∷◌, ◌++◌, length, take, drop, Option, Some, None, Result, Ok, Err, OnOk, IfErr, IfOk, refl, sym, ap, ◌∙◌, subst, arith}
use Rattle.std.proofs.Math.Seq.{take-add}
use Rattle.std.proofs.lemmas.List.{append-nil, length-take, length-drop, take-append-drop, take_all}
use Rattle.std.specs.Option.{option_map, ForSome}
use Rattle.gap_check.specs.Accepting.{Accepted}
use Rattle.gap_check.specs.States.{State}
use Rattle.gap_files.specs.Outside.{FilesNow, SinkNow, Rose, ReadsAt, SameElsewhere, SameEverywhere, NoneFell, bytes_of}
use Rattle.gap_files.proofs.FrontLaws.{front_more, inside_more}
use Rattle.gap_model.specs.declared.cert_fault.CertFault.{CertFault}
use Rattle.gap_scan.specs.Scans.{Scan}
use Rattle.gap_files.specs.Marks.{Mark, appends, streams, Did, DidFront}
use Rattle.gap_files.specs.Steps.{Step, Keeps}
use Rattle.gap_files.specs.declared.halt.Halt.{Halt}
use Rattle.gap_files.specs.declared.halt.Halt.TheVariants as halt
use Rattle.gap_files.proofs.MarkLaws.{appends-append, appends-none, did_none, did_both, front_behind}
use Rattle.gap_valid.specs.Verdicts.{VerdictValue}
use Rattle.gap_writer.specs.Writing.{Written}
use Rattle.gap_upgrade.specs.Copying.{body_bytes, HasCopied, IsNone, IsNoFront, IsWhole}
use Rattle.gap_upgrade.specs.Copies.{IfTold, KeepsFiles, CopyCause, Stands, Appended, IsFront, CopyStopped, Copies}
use Rattle.gap_upgrade.specs.Stops.{stopped_by, IsInner, IsUnrefused}
use Rattle.gap_upgrade.specs.declared.stop.Stop.{Stop}
use Rattle.gap_upgrade.specs.declared.stop.Stop.TheVariants.{Refused, ReadFault, WriteFault, OutOfMemory}
use Rattle.gap_upgrade.proofs.ItemLaws.{written_gone}
use Rattle.gap_upgrade.proofs.BodyLaws.{front_is}

-- ---- what stays

same_le : (a b : ℕ) → b ≡ a → a ≤ b
same_le a b e = omega arith

fell_on : (a b c : ℕ) → a ≤ b → b ≤ c → a ≤ c
fell_on a b c h k = omega arith

rose_later : (a b c : ℕ) → a ≤ b → Rose b c → Rose a c
rose_later a b c h r = omega arith

pub keeps_of : (cert new : List ℕ) (f : FilesNow) (s : SinkNow) (g : FilesNow) (t : SinkNow) → Keeps new f s g t → KeepsFiles cert new f g
keeps_of cert new f s g t keeps = record {
  contents = keeps.contents;
  read_others = λ other ne. keeps.reads other;
  read_later = λ other. same_le _ _ (keeps.reads other);
  write_others = keeps.others;
  write_later = keeps.later_files;
}

pub keeps_on : (cert new : List ℕ) (f g h : FilesNow) → KeepsFiles cert new f g → KeepsFiles cert new g h → KeepsFiles cert new f h
keeps_on cert new f g h first second = record {
  contents = λ other ne. second.contents other ne ∙ first.contents other ne;
  read_others = λ other ne. second.read_others other ne ∙ first.read_others other ne;
  read_later = λ other. fell_on _ _ _ (first.read_later other) (second.read_later other);
  write_others = λ other ne. second.write_others other ne ∙ first.write_others other ne;
  write_later = λ other. fell_on _ _ _ (first.write_later other) (second.write_later other);
}

keeps_same : (cert new : List ℕ) (f : FilesNow) → KeepsFiles cert new f f
keeps_same cert new f = record {
  contents = λ other ne. refl;
  read_others = λ other ne. refl;
  read_later = λ other. same_le _ _ refl;
  write_others = λ other ne. refl;
  write_later = λ other. same_le _ _ refl;
}

keeps_read : (cert new : List ℕ) (f g : FilesNow) → SameEverywhere f.content g.content → SameElsewhere cert f.read_faults g.read_faults → NoneFell f.read_faults g.read_faults
    → SameEverywhere f.write_faults g.write_faults → KeepsFiles cert new f g
keeps_read cert new f g contents others later writes = record {
  contents = λ other ne. contents other;
  read_others = others;
  read_later = later;
  write_others = λ other ne. writes other;
  write_later = λ other. same_le _ _ (writes other);
}

-- any sink
abbrev some_sink : SinkNow
some_sink = record { written = None; faults = 0 }

-- ---- what was appended

pub appended_none : (cert new : List ℕ) (f : FilesNow) → Appended cert new f f []
appended_none cert new f = record {
  did = λ sink. subst (λ (x : List Mark). Did (streams new f sink) (streams new f sink) x) (sym appends-none) (did_none (streams new f sink));
  keeps = keeps_same cert new f;
}

pub appended_both : (cert new : List ℕ) (f g h : FilesNow) (a b : List ℕ) → Appended cert new f g a → Appended cert new g h b → Appended cert new f h (a ++ b)
appended_both cert new f g h a b first second = record {
  did = λ sink. subst (λ (x : List Mark). Did (streams new f sink) (streams new h sink) x) (sym (appends-append a b))
      (did_both (streams new f sink) (streams new g sink) (streams new h sink) (appends a) (appends b) (first.did sink) (second.did sink));
  keeps = keeps_on cert new f g h first.keeps second.keeps;
}

-- nothing was due behind it
pub appended_calm : (cert new : List ℕ) (f g h : FilesNow) (a : List ℕ) → Appended cert new f g a → Appended cert new g h [] → Appended cert new f h a
appended_calm cert new f g h a first second = subst (Appended cert new f h) (append-nil a) (appended_both cert new f g h a [] first second)

-- a reading that succeeded
pub appended_read : (cert new : List ℕ) (f g : FilesNow) → SameEverywhere f.content g.content → SameElsewhere cert f.read_faults g.read_faults → NoneFell f.read_faults g.read_faults
    → SameEverywhere f.write_faults g.write_faults → Appended cert new f g []
appended_read cert new f g contents others later writes = record {
  did = λ sink. subst (λ (x : List Mark). Did (streams new f sink) (streams new g sink) x) (sym appends-none) (unread_did new f g sink contents);
  keeps = keeps_read cert new f g contents others later writes;
}
  where
    unread_did : (new : List ℕ) (f g : FilesNow) (sink : SinkNow) → SameEverywhere f.content g.content → Did (streams new f sink) (streams new g sink) []
    unread_did new f g sink contents =
        subst (λ (x : Option (Option (List ℕ))). Did (streams new f sink) (record { file = option_map bytes_of x; sink = sink.written }) []) (sym (contents new)) (did_none (streams new f sink))

pub appended_step : (cert new : List ℕ) (f g : FilesNow) (bytes : List ℕ) (u : Unit {0}) → ((sink : SinkNow) → Step new f sink g sink (appends bytes) (Ok u)) → Appended cert new f g bytes
appended_step cert new f g bytes u step = record { did = λ sink. (step sink).does; keeps = keeps_of cert new f some_sink g some_sink (step some_sink).keeps }

-- ---- why it stopped

pub cause_on : (cert new : List ℕ) (f g h : FilesNow) (stop : Stop) → KeepsFiles cert new f g → CopyCause cert new g h stop → CopyCause cert new f h stop
cause_on cert new f g h (Refused fault) keeps cause = tt
cause_on cert new f g h ReadFault keeps cause = rose_later _ _ _ (keeps.read_later cert) cause
cause_on cert new f g h WriteFault keeps cause = rose_later _ _ _ (keeps.write_later new) cause
cause_on cert new f g h OutOfMemory keeps cause = tt

inner_cause : (cert new : List ℕ) (f : FilesNow) (stop : Stop) → IsInner stop → CopyCause cert new f f stop
inner_cause cert new f (Refused fault) inner = tt
inner_cause cert new f ReadFault inner = absurd inner
inner_cause cert new f WriteFault inner = absurd inner
inner_cause cert new f OutOfMemory inner = tt

pub unrefused_by : (stop : Stop) → ((fault : CertFault) → stop ≡ Refused fault → ⊥) → IsUnrefused stop
unrefused_by (Refused fault) never = absurd (never fault refl)
unrefused_by ReadFault never = tt
unrefused_by WriteFault never = tt
unrefused_by OutOfMemory never = tt

-- it stopped for no cause in the outside
pub stands_inner : (cert new : List ℕ) (f : FilesNow) (stop : Stop) → IsInner stop → Stands cert new f f [] stop
stands_inner cert new f stop inner = record {
  front = λ sink. record { part = []; rest = appends []; split = refl; did = did_none (streams new f sink) };
  cause = inner_cause cert new f stop inner;
  keeps = keeps_same cert new f;
}

-- it stopped behind bytes that were appended
stands_on : (cert new : List ℕ) (f g h : FilesNow) (gone due : List ℕ) (stop : Stop) → Appended cert new f g gone → Stands cert new g h due stop → Stands cert new f h (gone ++ due) stop
stands_on cert new f g h gone due stop went stands = record {
  front = λ sink. subst (λ (x : List Mark). DidFront (streams new f sink) (streams new h sink) x) (sym (appends-append gone due))
      (front_behind (streams new f sink) (streams new g sink) (streams new h sink) (appends gone) (appends due) (went.did sink) (stands.front sink));
  cause = cause_on cert new f g h stop went.keeps stands.cause;
  keeps = keeps_on cert new f g h went.keeps stands.keeps;
}

-- a reading that failed
pub stands_unread : (cert new : List ℕ) (f g : FilesNow) (stop : Stop) → SameEverywhere f.content g.content → SameElsewhere cert f.read_faults g.read_faults → NoneFell f.read_faults g.read_faults
    → SameEverywhere f.write_faults g.write_faults → CopyCause cert new f g stop → Stands cert new f g [] stop
stands_unread cert new f g stop contents others later writes cause =
    let calm = appended_read cert new f g contents others later writes in
    record { front = λ sink. record { part = appends []; rest = []; split = sym (append_none (appends [])); did = calm.did sink }; cause = cause; keeps = calm.keeps }
  where
    append_none : (a : List Mark) → a ++ [] ≡ a
    append_none [] = refl
    append_none (m ∷ a) = ap (λ (l : List Mark). m ∷ l) (append_none a)

-- an append that failed
stands_unwritten : (cert new : List ℕ) (f g : FilesNow) (bytes : List ℕ) (h : Halt) (stop : Stop) → ◌≡◌ {A = Result (Unit {0}) Stop} (Err stop) (stopped_by (Err h)) → ((sink : SinkNow) → Step new f sink g sink (appends bytes) (Err h)) → Stands cert new f g bytes stop
stands_unwritten cert new f g bytes halt.WriteFault stop e step =
    let same : WriteFault ≡ stop = cc in
    subst (Stands cert new f g bytes) same (record {
      front = λ sink. (step sink).does;
      cause = written_cause (f.write_faults new) (g.write_faults new) (step some_sink).cause;
      keeps = keeps_of cert new f some_sink g some_sink (step some_sink).keeps;
    })
  where
    written_cause : (a b : ℕ) → Rose 0 0 ⊎ Rose a b → Rose a b
    written_cause a b (inl rose) = absurd (omega arith)
    written_cause a b (inr rose) = rose
stands_unwritten cert new f g bytes halt.OutOfMemory stop e step =
    let same : OutOfMemory ≡ stop = cc in
    subst (Stands cert new f g bytes) same (record { front = λ sink. (step sink).does; cause = tt; keeps = keeps_of cert new f some_sink g some_sink (step some_sink).keeps })

unrefused_put : (h : Halt) (stop : Stop) → ◌≡◌ {A = Result (Unit {0}) Stop} (Err stop) (stopped_by (Err h)) → IsUnrefused stop
unrefused_put halt.WriteFault stop e = let same : WriteFault ≡ stop = cc in subst IsUnrefused same tt
unrefused_put halt.OutOfMemory stop e = let same : OutOfMemory ≡ stop = cc in subst IsUnrefused same tt

-- what a step that puts out ended with, by what the run goes on with
pub put_ok : (r : Result (Unit {0}) Halt) (u : Unit {0}) → ◌≡◌ {A = Result (Unit {0}) Stop} (Ok u) (stopped_by r) → r ≡ Ok tt
put_ok (Ok done) u e = refl
put_ok (Err halt.WriteFault) u e = absurd (cc)
put_ok (Err halt.OutOfMemory) u e = absurd (cc)

pub put_err : (r : Result (Unit {0}) Halt) (stop : Stop) → ◌≡◌ {A = Result (Unit {0}) Stop} (Err stop) (stopped_by r) → (put : Halt) × (r ≡ Err put)
put_err (Ok done) stop e = absurd (cc)
put_err (Err put) stop e = (put, refl)

pub put_fact : (r : Result (Unit {0}) Halt) (P : Type 0) (u : Unit {0}) → ◌≡◌ {A = Result (Unit {0}) Stop} (Ok u) (stopped_by r) → OnOk r P → P
put_fact r P u e h = subst (λ (x : Result (Unit {0}) Halt). OnOk x P) (put_ok r u e) h

-- ---- pieces of the file

-- bytes are the first of a content, so many
pub record IsFed (fed : List ℕ) (at : ℕ) (held : List ℕ) : Type 0 where
  pub inside : at ≤ length held
  pub fed_is : fed ≡ take at held

pub fed_none : (held : List ℕ) → IsFed [] 0 held
fed_none held = record { inside = omega arith; fed_is = refl }

fed_more : (fed held buffer piece : List ℕ) (at count : ℕ) → count ≤ length buffer → piece ≡ take count buffer → ReadsAt held at buffer count → IsFed fed at held → IsFed (fed ++ piece) (at + count) held
fed_more fed held buffer piece at count room is reads before = record {
  inside = inside_more held buffer at count room before.inside reads.same;
  fed_is = ap (λ (x : List ℕ). x ++ piece) before.fed_is ∙ ap (λ (x : List ℕ). take at held ++ x) is ∙ sym (front_more held buffer at count reads.same);
}

-- the content behind the first bytes
behind_fed : (fed held : List ℕ) (at : ℕ) → IsFed fed at held → held ≡ fed ++ drop at held
behind_fed fed held at h = sym (take-append-drop at held) ∙ ap (λ (x : List ℕ). x ++ drop at held) (sym h.fed_is)

whole_fed : (fed held : List ℕ) (at : ℕ) → length held ≤ at → IsFed fed at held → held ≡ fed
whole_fed fed held at ends h = sym (h.fed_is ∙ take_all at held ends)

-- ---- a copier on its way

-- the first bytes of a file were copied, so many
pub record IsAlong (cert new : List ℕ) (f g : FilesNow) (at : ℕ) (state : State) (scan : Scan) (w : Written) : Type 0 where
  pub fed : List ℕ
  pub gone : List ℕ
  pub copied : HasCopied state scan w fed gone
  pub appended : Appended cert new f g gone
  pub told : cert ≢ new → IfTold f cert (IsFed fed at)

pub along_none : (cert new : List ℕ) (f : FilesNow) (state : State) (scan : Scan) (w : Written) → HasCopied state scan w [] [] → IsAlong cert new f f 0 state scan w
along_none cert new f state scan w copied = record { fed = []; gone = []; copied = copied; appended = appended_none cert new f; told = λ apart content told. fed_none (bytes_of content) }

-- the content of the file that is read stays, unless it is the new one
content_kept : (cert new : List ℕ) (f g : FilesNow) (content : Option (List ℕ)) → KeepsFiles cert new f g → cert ≢ new → f.content cert ≡ Some content → g.content cert ≡ Some content
content_kept cert new f g content keeps apart told = keeps.contents cert apart ∙ told

-- a piece was read and its items were written
pub along_fed : (cert new : List ℕ) (f g h : FilesNow) (at count : ℕ) (state more : State) (scan next : Scan) (w v : Written) (buffer piece : List ℕ)
    → count ≤ length buffer → piece ≡ take count buffer → ForSome (g.content cert) (λ held. ReadsAt (bytes_of held) at buffer count) → Appended cert new g h []
    → ((fed gone : List ℕ) → HasCopied state scan w fed gone → HasCopied more next v (fed ++ piece) gone)
    → IsAlong cert new f g at state scan w → IsAlong cert new f h (at + count) more next v
along_fed cert new f g h at count state more scan next w v buffer piece room is reads calm feed a = record {
  fed = a.fed ++ piece;
  gone = a.gone;
  copied = feed a.fed a.gone a.copied;
  appended = appended_calm cert new f g h a.gone a.appended calm;
  told = λ apart content told. fed_more a.fed (bytes_of content) buffer piece at count room is (reads content (content_kept cert new f g content a.appended.keeps apart told)) (a.told apart content told);
}

-- the writer's bytes were appended
pub along_poured : (cert new : List ℕ) (f g h : FilesNow) (at : ℕ) (state : State) (scan : Scan) (w v : Written) → v.bytes ≡ [] → v.last ≡ w.last → Appended cert new g h w.bytes
    → IsAlong cert new f g at state scan w → IsAlong cert new f h at state scan v
along_poured cert new f g h at state scan w v empty last went a = record {
  fed = a.fed;
  gone = a.gone ++ w.bytes;
  copied = record { read = a.copied.read; all = written_gone scan w v a.fed a.gone empty last a.copied.all };
  appended = appended_both cert new f g h a.gone w.bytes a.appended went;
  told = a.told;
}

pub along_put : (cert new : List ℕ) (f g h : FilesNow) (at : ℕ) (state : State) (scan : Scan) (w v : Written) (r : Result (Unit {0}) Halt) (u : Unit {0}) → ◌≡◌ {A = Result (Unit {0}) Stop} (Ok u) (stopped_by r)
    → v.bytes ≡ [] → v.last ≡ w.last → ((sink : SinkNow) → Step new g sink h sink (appends w.bytes) r) → IsAlong cert new f g at state scan w → IsAlong cert new f h at state scan v
along_put cert new f g h at state scan w v r u e empty last step a =
    let ok = put_ok r u e in
    along_poured cert new f g h at state scan w v empty last (appended_step cert new g h w.bytes tt (λ sink. subst (λ (x : Result (Unit {0}) Halt). Step new g sink h sink (appends w.bytes) x) ok (step sink))) a

-- nothing was due
pub along_calm : (cert new : List ℕ) (f g h : FilesNow) (at : ℕ) (state : State) (scan : Scan) (w : Written) → Appended cert new g h [] → IsAlong cert new f g at state scan w → IsAlong cert new f h at state scan w
along_calm cert new f g h at state scan w calm a = record { fed = a.fed; gone = a.gone; copied = a.copied; appended = appended_calm cert new f g h a.gone a.appended calm; told = a.told }

-- ---- it stopped on the way

-- where the file's bytes are told and accepted it isn't refused
abbrev pub CalmAt : List ℕ → List ℕ → FilesNow → ℕ → List ℕ → Stop → Type 0
CalmAt cert new f at fed stop = cert ≢ new → (content : Option (List ℕ)) → f.content cert ≡ Some content → IsFed fed at (bytes_of content) → (v : VerdictValue) → Accepted (bytes_of content) v → IsUnrefused stop

-- it stopped while the writer's bytes were due
pub stopped_at : (cert new : List ℕ) (f g h : FilesNow) (at : ℕ) (state : State) (scan : Scan) (w : Written) (due : List ℕ) (stop : Stop) → due ≡ w.bytes → Stands cert new g h due stop
    → (a : IsAlong cert new f g at state scan w) → CalmAt cert new f at a.fed stop → CopyStopped cert new f h stop
stopped_at cert new f g h at state scan w due stop same stands a calm = record {
  due = a.gone ++ due;
  stands = stands_on cert new f g h a.gone due stop a.appended stands;
  told = λ apart content told v accepted.
      let held = bytes_of content in
      let fed = a.told apart content told in (
        subst (λ (x : List ℕ). IsFront (a.gone ++ x) (body_bytes accepted.certificate)) (sym same)
            (front_is scan w a.fed a.gone (drop at held) held v (behind_fed a.fed held at fed) a.copied.all.has_written accepted),
        calm apart content told fed v accepted,
      );
}

-- in a reading
pub stopped_reading : (cert new : List ℕ) (f g h : FilesNow) (at : ℕ) (state : State) (scan : Scan) (w : Written) (stop : Stop) → w.bytes ≡ [] → Stands cert new g h [] stop → IsUnrefused stop
    → IsAlong cert new f g at state scan w → CopyStopped cert new f h stop
stopped_reading cert new f g h at state scan w stop empty stands unrefused a = stopped_at cert new f g h at state scan w [] stop (sym empty) stands a (λ apart content told fed v accepted. unrefused)

-- in an append
stopped_putting : (cert new : List ℕ) (f g h : FilesNow) (at : ℕ) (state : State) (scan : Scan) (w : Written) (put : Halt) (stop : Stop) → ◌≡◌ {A = Result (Unit {0}) Stop} (Err stop) (stopped_by (Err put))
    → ((sink : SinkNow) → Step new g sink h sink (appends w.bytes) (Err put)) → IsAlong cert new f g at state scan w → CopyStopped cert new f h stop
stopped_putting cert new f g h at state scan w put stop e step a =
    stopped_at cert new f g h at state scan w w.bytes stop refl (stands_unwritten cert new g h w.bytes put stop e step) a (λ apart content told fed v accepted. unrefused_put put stop e)

pub stopped_pouring : (cert new : List ℕ) (f g h : FilesNow) (at : ℕ) (state : State) (scan : Scan) (w : Written) (r : Result (Unit {0}) Halt) (stop : Stop) → ◌≡◌ {A = Result (Unit {0}) Stop} (Err stop) (stopped_by r)
    → ((sink : SinkNow) → Step new g sink h sink (appends w.bytes) r) → IsAlong cert new f g at state scan w → CopyStopped cert new f h stop
stopped_pouring cert new f g h at state scan w r stop e step a =
    let put = put_err r stop e in
    stopped_putting cert new f g h at state scan w put.0 stop (e ∙ ap stopped_by put.1) (λ sink. subst (λ (x : Result (Unit {0}) Halt). Step new g sink h sink (appends w.bytes) x) put.1 (step sink)) a

-- before the first piece
pub stopped_before : (cert new : List ℕ) (f : FilesNow) (stop : Stop) → IsInner stop → IsUnrefused stop → CopyStopped cert new f f stop
stopped_before cert new f stop inner unrefused = record {
  due = [];
  stands = stands_inner cert new f stop inner;
  told = λ apart content told v accepted. (record { rest = body_bytes accepted.certificate; split = refl }, unrefused);
}

-- behind the longest file
pub stopped_long : (cert new : List ℕ) (f g : FilesNow) (at : ℕ) (state : State) (scan : Scan) (w : Written) → w.bytes ≡ [] → IsAlong cert new f g at state scan w → CopyStopped cert new f g OutOfMemory
stopped_long cert new f g at state scan w empty a =
    stopped_at cert new f g g at state scan w [] OutOfMemory (sym empty) (stands_inner cert new g OutOfMemory tt) a (λ apart content told fed v accepted. tt)

-- in a piece that was read
pub stopped_feeding : (cert new : List ℕ) (f g h : FilesNow) (at count : ℕ) (state : State) (scan : Scan) (w : Written) (buffer piece : List ℕ) (stop : Stop) → w.bytes ≡ []
    → count ≤ length buffer → piece ≡ take count buffer → ForSome (g.content cert) (λ held. ReadsAt (bytes_of held) at buffer count) → Appended cert new g h []
    → IsInner stop → ((fault : CertFault) → stop ≡ Refused fault → (fed gone : List ℕ) → HasCopied state scan w fed gone → IsNoFront (fed ++ piece))
    → IsAlong cert new f g at state scan w → CopyStopped cert new f h stop
unfolding along_calm
stopped_feeding cert new f g h at count state scan w buffer piece stop empty room is reads calm inner refused a =
    stopped_at cert new f h h at state scan w [] stop (sym empty) (stands_inner cert new h stop inner) (along_calm cert new f g h at state scan w calm a)
    (λ apart content told fed v accepted.
    let held = bytes_of content in
    let more = fed_more a.fed held buffer piece at count room is (reads content (content_kept cert new f g content a.appended.keeps apart told)) fed in
    unrefused_by stop (λ fault e. refused fault e a.fed a.gone a.copied (drop (at + count) held) v
    (subst (λ (x : List ℕ). Accepted x v) (behind_fed (a.fed ++ piece) held (at + count) more) accepted)))

-- ---- at the end of the file

ends_at : (cert new : List ℕ) (f g : FilesNow) (at : ℕ) (state : State) (scan : Scan) (w : Written) (a : IsAlong cert new f g at state scan w)
    → ForSome (g.content cert) (λ held. length (bytes_of held) ≤ at) → cert ≢ new → IfTold f cert (λ held. held ≡ a.fed)
ends_at cert new f g at state scan w a ends apart = λ content told. whole_fed a.fed (bytes_of content) at (ends content (content_kept cert new f g content a.appended.keeps apart told)) (a.told apart content told)

-- all was read: it is a certificate, or not
pub ended : (cert new : List ℕ) (f g h : FilesNow) (at : ℕ) (state : State) (scan : Scan) (w : Written) (r : Result VerdictValue Stop) → w.bytes ≡ []
    → ForSome (g.content cert) (λ held. length (bytes_of held) ≤ at) → Appended cert new g h []
    → ((fed gone : List ℕ) → HasCopied state scan w fed gone → w.bytes ≡ [] → IfOk r (IsWhole fed gone))
    → ((fault : CertFault) → r ≡ Err (Refused fault) → (fed gone : List ℕ) → HasCopied state scan w fed gone → IsNone fed)
    → IfErr r IsInner → IsAlong cert new f g at state scan w → Copies cert new f h r
unfolding along_calm
ended cert new f g h at state scan w (Ok v) empty ends calm whole refused inner a =
    let is = whole a.fed a.gone a.copied empty in
    record {
      bytes = a.fed;
      accepted = is.accepted;
      told = ends_at cert new f g at state scan w a ends;
      appended = subst (Appended cert new f h) is.gone_is (appended_calm cert new f g h a.gone a.appended calm);
    }
ended cert new f g h at state scan w (Err stop) empty ends calm whole refused inner a =
    stopped_at cert new f h h at state scan w [] stop (sym empty) (stands_inner cert new h stop inner) (along_calm cert new f g h at state scan w calm a)
    (λ apart content told fed v accepted. unrefused_by stop (λ fault e. refused fault (ap (λ (x : Stop). Err x) e) a.fed a.gone a.copied v
    (subst (λ (x : List ℕ). Accepted x v) (ends_at cert new f g at state scan w a ends apart content told) accepted)))
