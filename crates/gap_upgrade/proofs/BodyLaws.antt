-- What is written of the items so far is a front of what is due for the certificate that the bytes encode.
use Rattle.std.proofs.Common.{◌≡◌, ℕ, ◌⊎◌, inl, inr, false, List, [], ◌∷◌, ◌++◌, map, length, Option, Some, None, Result, Ok, Err, refl, sym, ap, ◌∙◌, subst, arith}
use Rattle.std.proofs.lemmas.List.{append_assoc, append-nil, map-append}
use Rattle.gap_model.specs.declared.cert_fault.CertFault.{CertFault}
use Rattle.gap_model.specs.declared.outcome.Told.{Told}
use Rattle.gap_cert.specs.declared.context.Context.{Context}
use Rattle.gap_cert.specs.declared.context.Phase.{Phase}
use Rattle.gap_cert.specs.declared.context.Phase.TheVariants as phase
use Rattle.gap_cert.specs.declared.field.Field.{Field}
use Rattle.gap_cert.specs.declared.field.Field.TheVariants as field
use Rattle.gap_cert.specs.declared.field.Group.{Group}
use Rattle.gap_cert.specs.declared.field.Item.{Item}
use Rattle.gap_cert.specs.declared.field.Version.{Version}
use Rattle.gap_cert.specs.declared.field.Version.TheVariants.{Two}
use Rattle.gap_cert.specs.Bytes.{AreBytes, be, raw_of}
use Rattle.gap_cert.specs.Formats.{Format, natural, signed, guard, says, Spells}
use Rattle.gap_cert.specs.Contexts.{format_of, after, behind_field, start, Runs}
use Rattle.gap_cert.specs.Certificates.{CertHead, Certificate, Encodes, fields_of, group_in, head_fields, sections_fields, spelled, spelling}
use Rattle.gap_cert.proofs.Numbers.{bytes_of_be, raw_fits}
use Rattle.gap_cert.proofs.WholeLaws.{one_encoding}
use Rattle.gap_scan.specs.Scans.{Scan, Scanned, HasScanned, fed_more, next_of}
use Rattle.gap_scan.proofs.MoreLaws.{answers_stay, none_spelled}
use Rattle.gap_scan.proofs.ScanLaws.{bytes_append}
use Rattle.gap_valid.specs.Heads.{instance_in}
use Rattle.gap_valid.specs.Verdicts.{VerdictValue, verdict_of}
use Rattle.gap_judge.specs.Progress.{Progress, fresh_progress, progress_behind}
use Rattle.gap_judge.specs.declared.stop.CertStop.TheVariants as cert
use Rattle.gap_check.specs.Accepting.{Accepted}
use Rattle.gap_check.specs.States.{State, reading, stopped, no_memory, HasRead, answer_of}
use Rattle.gap_check.proofs.AcceptLaws.{faultless}
use Rattle.gap_check.proofs.Complete.{Judges, WholeTells, whole_tells}
use Rattle.gap_check.proofs.Follows.{Rest, follow, gives, gives_none}
use Rattle.gap_check.proofs.HistoryLaws.{fault_stays}
use Rattle.gap_check.proofs.OnceLaws.{accepted_bytes, told_once}
use Rattle.gap_writer.specs.Writing.{Written, last_of, end_bytes}
use Rattle.gap_writer.proofs.ItemLaws.{spelled_behind}
use Rattle.gap_upgrade.specs.Copies.{IsFront}
use Rattle.gap_upgrade.specs.Copying.{is_end, unended, body_bytes, written, HasWritten, HasWrittenAll, IsAtFault, IsNoFront}
use Rattle.gap_upgrade.proofs.ItemLaws.{unended-append, field_of, tail_bytes}

-- ---- the end mark comes last alone

over_nothing : (c : Context) (g : Group) (bytes : List ℕ) → Spells (format_of c phase.Over) g bytes → ⊥
unfolding Spells
over_nothing c g bytes k = omega arith

over_none : (c : Context) (g : Group) (bytes : List ℕ) (p : Phase) → p ≡ phase.Over → Spells (format_of c p) g bytes → ⊥
over_none c g bytes p e h = over_nothing c g bytes (subst (λ (q : Phase). Spells (format_of c q) g bytes) e h)

over_last : (v : Version) (fields : List Field) (c end : Context) (bytes : List ℕ) → c.phase ≡ phase.Over → Runs c (map (group_in v) (fields ++ field.End ∷ [])) end bytes → ⊥
unfolding Runs
over_last v [] c end bytes o h = over_none c (group_in v field.End) h.0 c.phase o h.2
over_last v (f ∷ fields) c end bytes o h = over_none c (group_in v f) h.0 c.phase o h.2

after_end : (v : Version) (c : Context) (f : Field) → f ≡ field.End → (after c (group_in v f)).phase ≡ phase.Over
unfolding behind_field
after_end v c f e = rw e refl

end_or_not : (f : Field) → (f ≡ field.End) ⊎ (is_end f ≡ false)
end_or_not (field.Head n lots held held_most turnover nodes) = inr refl
end_or_not (field.Asset mean dev least greatest present) = inr refl
end_or_not (field.Correlation rho) = inr refl
end_or_not (field.FactorEntry r) = inr refl
end_or_not (field.ShiftEntry d) = inr refl
end_or_not (field.Sections count) = inr refl
end_or_not (field.SectionStart p q outcome) = inr refl
end_or_not (field.Portfolio x) = inr refl
end_or_not (field.Objective value) = inr refl
end_or_not (field.Bound value) = inr refl
end_or_not (field.Overall w) = inr refl
end_or_not field.CountLeaf = inr refl
end_or_not (field.VoidLeaf alpha tau) = inr refl
end_or_not (field.TangentLeaf w) = inr refl
end_or_not (field.Split split) = inr refl
end_or_not field.End = inl refl

kept : (f : Field) (fields : List Field) → (f ≡ field.End) ⊎ (is_end f ≡ false) → (f ≡ field.End → ⊥) → unended fields ≡ fields → unended (f ∷ fields) ≡ f ∷ fields
kept f fields (inl e) never h = absurd (never e)
kept f fields (inr e) never h = rw e (ap (λ (l : List Field). f ∷ l) h)

-- no item before the last is an end mark
body_is : (v : Version) (fields : List Field) (c end : Context) (bytes : List ℕ) → Runs c (map (group_in v) (fields ++ field.End ∷ [])) end bytes → unended fields ≡ fields
unfolding Runs
body_is v [] c end bytes h = refl
body_is v (f ∷ fields) c end bytes h =
    kept f fields (end_or_not f) (λ e. over_last v fields (after c (group_in v f)) end h.1 (after_end v c f e) h.3) (body_is v fields (after c (group_in v f)) end h.1 h.3)

-- the items of a certificate before its end mark
abbrev body_of : Certificate → List Field
body_of c = head_fields c.head ++ (field.Sections (length c.sections) ∷ sections_fields c.sections)

fields_end : (c : Certificate) → fields_of c ≡ body_of c ++ field.End ∷ []
unfolding fields_of
fields_end c = sym (append_assoc (head_fields c.head) (field.Sections (length c.sections) ∷ sections_fields c.sections) (field.End ∷ []))

unended_fields : (v : Version) (bytes : List ℕ) (c : Certificate) → Encodes v bytes c → unended (fields_of c) ≡ body_of c
unended_fields v bytes c e =
    ap unended (fields_end c) ∙ unended-append (body_of c) (field.End ∷ []) ∙ append-nil (unended (body_of c))
    ∙ body_is v (body_of c) start e.end bytes (subst (λ (fields : List Field). Runs start (map (group_in v) fields) e.end bytes) (fields_end c) e.run)

-- a certificate's bytes are those of its items before the end mark, and the end mark
pub spelling_is : (v : Version) (bytes : List ℕ) (c : Certificate) → Encodes v bytes c → spelling Two c ≡ body_bytes c ++ end_bytes
unfolding body_bytes end_bytes spelled
spelling_is v bytes c e =
    ap (spelled Two None) (fields_end c) ∙ spelled_behind None (body_of c) (field.End ∷ [])
    ∙ ap (λ (x : List Field). spelled Two None x ++ end_bytes) (sym (unended_fields v bytes c e))

-- ---- items so far

field_group : (v : Version) (fields : List Field) → map field_of (map (group_in v) fields) ≡ fields
field_group v [] = refl
field_group v (f ∷ fields) = ap (λ (l : List Field). f ∷ l) (field_group v fields)

written_bytes : (groups : List Group) → (written groups).bytes ≡ spelled Two None (unended (map field_of groups))
unfolding written
written_bytes groups = refl

-- where groups are the first of a certificate, what is written of them is a front of its body
front_by : (v : Version) (c : Certificate) (groups rest : List Group) → map (group_in v) (fields_of c) ≡ groups ++ rest → IsFront (written groups).bytes (body_bytes c)
unfolding body_bytes
front_by v c groups rest e =
    let a = unended (map field_of groups) in
    let b = unended (map field_of rest) in
    let fields : fields_of c ≡ map field_of groups ++ map field_of rest = sym (field_group v (fields_of c)) ∙ ap (map field_of) e ∙ map-append field_of groups rest in
    record {
      rest = spelled Two (last_of None a) b;
      split = ap (λ (l : List Field). spelled Two None (unended l)) fields ∙ ap (spelled Two None) (unended-append (map field_of groups) (map field_of rest)) ∙ spelled_behind None a b
          ∙ ap (λ (x : List ℕ). x ++ spelled Two (last_of None a) b) (sym (written_bytes groups));
    }

whole_by : (v : Version) (c : Certificate) (groups : List Group) → map (group_in v) (fields_of c) ≡ groups ++ [] → (written groups).bytes ≡ body_bytes c
unfolding body_bytes
whole_by v c groups e =
    let fields : map field_of groups ≡ fields_of c = sym (ap (map field_of) (e ∙ append-nil groups)) ∙ field_group v (fields_of c) in
    written_bytes groups ∙ ap (λ (l : List Field). spelled Two None (unended l)) fields

-- what is left of an encoding behind the items that were scanned of a front of it
rest_of : (s : Scan) (fed more held : List ℕ) (groups : List Group) (v : VerdictValue) → held ≡ fed ++ more → HasScanned s fed groups → (a : Accepted held v) →
    Rest (map (group_in a.version) (fields_of a.certificate)) groups s.context a.encodes.end (s.rest ++ more)
rest_of s fed more held groups v e h a =
    follow groups (map (group_in a.version) (fields_of a.certificate)) start s.context a.encodes.end h.bytes held (s.rest ++ more) h.run a.encodes.run a.encodes.over
    (sym (append_assoc h.bytes s.rest more) ∙ ap (λ (l : List ℕ). l ++ more) (sym h.fed_is) ∙ sym e)

pub front_is : (s : Scan) (w : Written) (fed gone more held : List ℕ) (v : VerdictValue) → held ≡ fed ++ more → HasWritten s w fed gone → (a : Accepted held v) → IsFront (gone ++ w.bytes) (body_bytes a.certificate)
front_is s w fed gone more held v e h a =
    let r = rest_of s fed more held h.groups v e h.scanned a in
    subst (λ (x : Written). IsFront x.bytes (body_bytes a.certificate)) h.written_is (front_by a.version a.certificate h.groups r.rest r.groups_are)

-- all items of whole bytes are those of the certificate
whole_rest : (s : Scan) (gs groups : List Group) (end : Context) (bytes : List ℕ) → bytes ≡ s.rest → (next_of s).answer ≡ Ok None → (r : Rest gs groups s.context end bytes) → (rest : List Group) → r.rest ≡ rest → rest ≡ []
unfolding Runs
whole_rest s gs groups end bytes b none r [] e = refl
whole_rest s gs groups end bytes b none r (g ∷ rest) e =
    let run : Runs s.context (g ∷ rest) end bytes = subst (λ (x : List Group). Runs s.context x end bytes) e r.run in
    absurd (none_spelled s g run.0 run.1 none run.2 (sym b ∙ run.4))

pub whole_is : (s : Scan) (w : Written) (fed gone : List ℕ) (v : VerdictValue) → w.bytes ≡ [] → HasWrittenAll s w fed gone → (a : Accepted fed v) → gone ≡ body_bytes a.certificate
whole_is s w fed gone v empty h a =
    let r = rest_of s fed [] fed h.has_written.groups v (sym (append-nil fed)) h.has_written.scanned a in
    let none = whole_rest s _ _ _ (s.rest ++ []) (append-nil s.rest) h.done r r.rest refl in
    sym (append-nil gone) ∙ ap (λ (x : List ℕ). gone ++ x) (sym empty) ∙ sym (ap (λ (x : Written). x.bytes) h.has_written.written_is)
    ∙ whole_by a.version a.certificate h.has_written.groups (r.groups_are ∙ ap (λ (x : List Group). h.has_written.groups ++ x) none)

-- ---- a fault isn't in what is accepted

nil_front : (a b : List ℕ) → a ++ b ≡ [] → a ≡ []
nil_front [] b e = refl
nil_front (x ∷ a) b e = cc

not_none : (r : Result (Option Item) CertFault) (f : CertFault) → r ≡ Err f → r ≡ Ok None → ⊥
not_none r f e n = cc

not_given : (r : Result (Option Item) CertFault) (f : CertFault) (i : Item) → r ≡ Err f → r ≡ Ok (Some i) → ⊥
not_given r f i e n = cc

no_fault_by : (s : Scan) (f : CertFault) (more : List ℕ) (gs groups : List Group) (end : Context) → s.fault ≡ None → (next_of s).answer ≡ Err f → end.phase ≡ phase.Over →
    (r : Rest gs groups s.context end (s.rest ++ more)) → (rest : List Group) → r.rest ≡ rest → ⊥
unfolding Runs
no_fault_by s f more gs groups end sound found o r [] e =
    let run : Runs s.context [] end (s.rest ++ more) = subst (λ (x : List Group). Runs s.context x end (s.rest ++ more)) e r.run in
    not_none (next_of s).answer f found (gives_none s sound (ap (λ (c : Context). c.phase) run.0 ∙ o) (nil_front s.rest more run.1))
no_fault_by s f more gs groups end sound found o r (g ∷ rest) e =
    let run : Runs s.context (g ∷ rest) end (s.rest ++ more) = subst (λ (x : List Group). Runs s.context x end (s.rest ++ more)) e r.run in
    let same = ap (λ (a : Scanned). a.answer) (answers_stay s more (not_none (next_of s).answer f found)) in
    not_given (next_of (fed_more s more)).answer f (record { place = s.place; field = g.field }) (same ∙ found) (gives (fed_more s more) g run.0 run.1 sound run.2 run.4)

-- a number of the bytes is at fault by the grammar
pub fault_none : (fed : List ℕ) (f : CertFault) → IsAtFault fed f → IsNoFront fed
fault_none fed f at = λ more v a.
    let r = rest_of at.scan fed more (fed ++ more) at.groups v refl at.scanned a in
    no_fault_by at.scan f more _ _ _ at.scanned.sound at.found a.encodes.over r r.rest refl

-- a checker found a fault
pub refused_none : (state : State) (fed : List ℕ) (f : CertFault) → HasRead state fed → answer_of state ≡ Err (cert.Fault f) → IsNoFront fed
refused_none (reading scan progress) fed f h e = cc
refused_none (stopped k) fed f h e = λ more v a. faultless (fed ++ more) k v (fault_stays fed more k (tail_bytes fed more (accepted_bytes (fed ++ more) v a)) h) a
refused_none no_memory fed f h e = cc

-- ---- one certificate

-- two certificates of the same bytes have the same bytes in version 2, and tell the same
pub record AreSame (c d : Certificate) : Type 0 where
  pub body : body_bytes c ≡ body_bytes d
  pub verdict : verdict_of c ≡ verdict_of d

pub same_certificate : (bytes held : List ℕ) (v w : VerdictValue) → held ≡ bytes → (a : Accepted bytes v) (b : Accepted held w) → AreSame a.certificate b.certificate
unfolding body_bytes
same_certificate bytes held v w e a b =
    let one = one_encoding a.version b.version bytes held [] [] a.certificate b.certificate a.encodes b.encodes (ap (λ (x : List ℕ). x ++ []) (sym e)) in
    record {
      body = ap (λ (fields : List Field). spelled Two None (unended fields)) one.1;
      verdict = told_once a.certificate b.certificate (whole_tells a.certificate a.valid) (whole_tells b.certificate b.valid) one.1;
    }
