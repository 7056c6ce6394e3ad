-- What a checker says of a front of the encoding of a certificate.
use Rattle.std.proofs.Common.{◌≡◌, ℕ, zero, suc, ◌+◌, ◌-◌, ◌<◌, ◌≤◌, ◌⊎◌, inl, inr, List, [], ◌∷◌, ◌++◌, length, length-append, replicate, map, All, Option, Some, None, Result, Ok, Err, refl, sym, ap, ◌∙◌, subst, arith}
use Rattle.std.proofs.lemmas.List.{length-replicate}
use Rattle.std.proofs.lemmas.List.Elements.{All-append, All-nil, All-cons, All-head}
use Rattle.gap_cert.specs.declared.field.Version.TheVariants.{Two}
use Rattle.gap_cert.specs.Bytes.{AreBytes, be}
use Rattle.gap_cert.specs.Certificates.{CertHead, CertSection, Certificate, Encodes, spelling, spelled, none, tip, count, group_in, head_fields, section_fields, sections_fields, tree_fields, fields_of, last_behind}
use Rattle.std.proofs.lemmas.List.{append_assoc}
use Rattle.gap_base.specs.declared.witness.Witness.{Witness}
use Rattle.gap_cert.specs.declared.context.Context.{Context}
use Rattle.gap_cert.specs.declared.field.Field.{Field}
use Rattle.gap_cert.specs.declared.field.Field.TheVariants as field
use Rattle.gap_cert.specs.declared.field.Group.{Group}
use Rattle.gap_cert.specs.declared.field.Item.{Item}
use Rattle.gap_cert.specs.Contexts.{format_of, start, after, Runs}
use Rattle.gap_cert.specs.Fields.{bytes_of}
use Rattle.gap_cert.specs.Formats.{Spells}
use Rattle.gap_cert.proofs.GrammarLaws.{bytes_are}
use Rattle.gap_cert.proofs.Numbers.{length-be}
use Rattle.gap_cert.proofs.RunLaws.{last_is}
use Rattle.gap_check.specs.Histories.{Judged}
use Rattle.gap_check.proofs.Complete.{Judges, head_judges}
use Rattle.gap_check.proofs.Faulty.{fault_apart}
use Rattle.gap_check.proofs.Follows.{follow, gives}
use Rattle.gap_valid.specs.Writable.{IsWritable, IsWritableSection}
use Rattle.gap_judge.specs.Faults.{IsItemRight, IsItemFault, IsDominantHead}
use Rattle.gap_judge.specs.Progress.{Progress, fresh_progress, progress_behind}
use Rattle.gap_scan.specs.Scans.{Scan, Scanned, fed_more, next_of}
use Rattle.gap_scan.proofs.MoreLaws.{answers_stay}
use Rattle.gap_valid.specs.Heads.{IsHead}
use Rattle.gap_writer.specs.Writing.{last_of}
use Rattle.gap_writer.proofs.ItemLaws.{spelled_behind}
use Rattle.gap_check.specs.Accepting.{Accepted}
use Rattle.gap_check.specs.Histories.{IsFaultIn, IsFaultOf}
use Rattle.gap_check.proofs.AcceptLaws.{faultless}
use Rattle.gap_check.proofs.HistoryLaws.{fault_stays}
use Rattle.gap_check.proofs.OnceLaws.{accepted_bytes}
use Rattle.gap_valid.proofs.Heads.{encodes, no_front}
use Rattle.gap_valid.proofs.Validity.{writable}
use Rattle.gap_valid.specs.HeadOf.{head_of}
use Rattle.gap_model.specs.declared.cert_fault.CertFault.{CertFault}
use Rattle.gap_model.specs.declared.cert_fault.CertKind.TheVariants.{Short}
use Rattle.gap_psd.specs.Shifts.{ShiftValue}
use Rattle.gap_sweep.specs.Asked.{Asked, Done, IsShiftOf}
use Rattle.gap_sweep.specs.Certified.{IsAsked, sections_of, certificate, IsProperFront}
use Rattle.gap_sweep.proofs.CertLaws.{valid_of, sections_count, head_valid}
use Rattle.gap_sweep.specs.Texts.{head_bytes}
use Rattle.gap_valid.specs.Valid.{IsValid, IsValidSection}
use Rattle.gap_valid.specs.Verdicts.{VerdictValue, verdict_of}
use Rattle.gap_top.specs.Holding.{AreShort}

tail_bytes : (xs ys : List ℕ) → AreBytes (xs ++ ys) → AreBytes ys
tail_bytes [] ys h = h
tail_bytes (x ∷ xs) ys h = tail_bytes xs ys h.1

none_left : (rest : List ℕ) → 0 < length rest → rest ≡ [] → ⊥
none_left rest some is = let e = ap length is in omega arith

-- the encoding of a valid certificate is accepted
accepted_whole : (c : Certificate) (whole : List ℕ) → IsValid c → spelling Two c ≡ whole → Accepted whole (verdict_of c)
accepted_whole c whole valid is = record { version = Two; certificate = c; encodes = subst (λ (x : List ℕ). Encodes Two x c) is (encodes Two c (writable c valid) tt); valid = valid; verdict_is = refl }

-- a proper front of it is accepted with no verdict, and has no fault but that it is short
pub short_of : (c : Certificate) (bytes rest : List ℕ) → IsValid c → 0 < length rest → spelling Two c ≡ bytes ++ rest → AreShort bytes
short_of c bytes rest valid some split = record {
  unaccepted = λ v a. none_left rest some (no_front a.version whole.version bytes rest a.certificate whole.certificate a.encodes whole.encodes);
  short = found;
}
  where
    whole : Accepted (bytes ++ rest) (verdict_of c)
    whole = accepted_whole c (bytes ++ rest) valid split

    found : (f : CertFault) → IsFaultOf bytes f → f ≡ record { place = length bytes; kind = Short }
    found f (inl fault) =
        absurd (faultless (bytes ++ rest) f (verdict_of c) (fault_stays bytes rest f (tail_bytes bytes rest (accepted_bytes (bytes ++ rest) (verdict_of c) whole)) fault) whole)
    found f (inr cut) = cut.fault_is

-- ---- a front of the encoding of each certificate that goes on behind sections that are valid

all_copies : (P : CertSection → Type 0) (n : ℕ) (s : CertSection) → P s → All P (replicate n s)
all_copies P zero s p = All-nil P
all_copies P (suc n) s p = All-cons P s (replicate n s) p (all_copies P n s p)

pub short_behind : (asked : Asked) (shift : ShiftValue) (d : Done) (done : List Done) (bytes : List ℕ) → IsAsked asked → IsShiftOf asked.instance shift → length (d ∷ done) ≤ length asked.weights
    → All (IsValidSection (head_of asked.instance shift asked.nodes)) (sections_of (d ∷ done))
    → ((more : List CertSection) → length (d ∷ done) + length more ≡ length asked.weights → IsProperFront bytes (spelling Two (certificate asked shift (sections_of (d ∷ done) ++ more)))) → AreShort bytes
short_behind asked shift d done bytes is shift_is within valid proper =
    let n : ℕ = length asked.weights - length (d ∷ done) in
    let more : List CertSection = replicate n d.section in
    let many : length more ≡ n = length-replicate n d.section in
    let sections : List CertSection = sections_of (d ∷ done) ++ more in
    let a = length-append (sections_of (d ∷ done)) more in
    let b = sections_count (d ∷ done) in
    let some = is.some in
    let few = is.few in
    let front = proper more (omega arith) in
    let P = IsValidSection (head_of asked.instance shift asked.nodes) in
    short_of (certificate asked shift sections) bytes front.rest
    (valid_of asked shift sections is shift_is (omega arith) (omega arith)
    (All-append P (sections_of (d ∷ done)) more valid (all_copies P n d.section (All-head P d.section (sections_of done) valid))))
    front.left front.split

-- ---- a front of the head alone

-- a section that has an encoding under each head
abbrev blank : CertSection
blank = record { weight = record { p = 0; q = 1 }; claim = none; tree = tip count }

blank_written : (h : CertHead) → IsWritableSection h blank
blank_written h = record { weight_is = record { least = omega arith; most = omega arith; within = omega arith }; claim_is = tt; tree_is = (tt, tt) }

-- the items of the head, and the start of a section behind them
abbrev head_items : CertHead → ℕ → List Field
head_items h n = head_fields h ++ (field.Sections n ∷ [])

abbrev started_items : CertHead → ℕ → List Field
started_items h n = head_items h n ++ (field.SectionStart 0 1 2 ∷ [])

judges_both : (p m q : Progress) (xs ys : List Field) → Judges p xs m → Judges m ys q → Judges p (xs ++ ys) q
unfolding Judges
judges_both p m q [] ys h k = subst (λ (r : Progress). Judges r ys q) (sym h) k
judges_both p m q (x ∷ xs) ys h k = (h.0, judges_both (progress_behind p x) m q xs ys h.1 k)

items_judge : (h : CertHead) (n : ℕ) → IsHead h → IsDominantHead h → (q : Progress) × Judges fresh_progress (started_items h n) q
unfolding Judges IsItemRight
items_judge h n is dominant =
    let p : Progress = record fresh_progress { head = h } in
    let m : Progress = progress_behind p (field.Sections n) in
    let q : Progress = progress_behind m (field.SectionStart 0 1 2) in (
      q,
      judges_both fresh_progress m q (head_items h n) (field.SectionStart 0 1 2 ∷ [])
          (judges_both fresh_progress p m (head_fields h) (field.Sections n ∷ []) (head_judges h is dominant) (tt, refl)) (tt, refl),
    )

-- the next item is right where those so far are fewer than the ones that are known to be
first_same : (a b : Group) (xs ys : List Group) → ◌≡◌ {A = List Group} (a ∷ xs) (b ∷ ys) → a ≡ b
first_same a b xs ys e = cc

rest_same : (a b : Group) (xs ys : List Group) → ◌≡◌ {A = List Group} (a ∷ xs) (b ∷ ys) → xs ≡ ys
rest_same a b xs ys e = cc

right_next : (hs : List Group) (g : Group) (gs : List Group) (xs ys : List Field) (p m q : Progress) → map (group_in Two) (xs ++ ys) ≡ hs ++ g ∷ gs → Judged p hs m → Judges p xs q → length hs < length xs → IsItemRight m g.field
unfolding Judged Judges
right_next hs g gs [] ys p m q e h k less = absurd (omega arith)
right_next [] g gs (x ∷ xs) ys p m q e h k less =
    subst (λ (r : Progress). IsItemRight r g.field) h
    (subst (IsItemRight p) (ap (λ (z : Group). z.field) (first_same (group_in Two x) g (map (group_in Two) (xs ++ ys)) gs e)) k.0)
right_next (a ∷ hs) g gs (x ∷ xs) ys p m q e h k less =
    let same : x ≡ a.field = ap (λ (z : Group). z.field) (first_same (group_in Two x) a (map (group_in Two) (xs ++ ys)) (hs ++ g ∷ gs) e) in
    right_next hs g gs xs ys (progress_behind p x) m q (rest_same (group_in Two x) a (map (group_in Two) (xs ++ ys)) (hs ++ g ∷ gs) e)
    (subst (λ (f : Field). Judged (progress_behind p f) hs m) (sym same) h.1) k.1 (omega arith)

-- as many items have as many bytes
bytes_of_front : (hs gs : List Group) (xs ys : List Field) (c end : Context) (bytes : List ℕ) (last : Option Witness) → c.last ≡ last → map (group_in Two) (xs ++ ys) ≡ hs ++ gs → length xs ≤ length hs → Runs c hs end bytes
    → length (spelled Two last xs) ≤ length bytes
unfolding Runs spelled
bytes_of_front hs gs [] ys c end bytes last at e less run = omega arith
bytes_of_front [] gs (x ∷ xs) ys c end bytes last at e less run = absurd (omega arith)
bytes_of_front (a ∷ hs) gs (x ∷ xs) ys c end bytes last at e less run =
    let same : group_in Two x ≡ a = first_same (group_in Two x) a (map (group_in Two) (xs ++ ys)) (hs ++ gs) e in
    let next : (after c a).last ≡ last_behind last x =
    ap (λ (z : Group). (after c z).last) (sym same) ∙ last_is (record c { version = Two }) x ∙ ap (λ (w : Option Witness). last_behind w x) at in
    let more = bytes_of_front hs gs xs ys (after c a) end run.1 (last_behind last x) next (rest_same (group_in Two x) a (map (group_in Two) (xs ++ ys)) (hs ++ gs) e) (omega arith) run.3 in
    let own : run.0 ≡ bytes_of Two last x = bytes_are c a run.0 run.2 ∙ ap (λ (z : Group). bytes_of z.version c.last z.field) (sym same) ∙ ap (λ (w : Option Witness). bytes_of Two w x) at in
    let l = length-append (bytes_of Two last x) (spelled Two (last_behind last x) xs) in
    let m = length-append run.0 run.1 in
    let n = ap length own in
    let k = ap length run.4 in
    omega arith

some_of : (a b c : List ℕ) → 0 < length a → 0 < length (a ++ b ++ c)
some_of a b c some =
    let k = length-append a (b ++ c) in
    let l = length-append a b in
    let m = length-append (a ++ b) c in
    let n = length-append b c in
    omega arith

behind_more : (a b : List ℕ) → 0 < length a → 0 < length (a ++ b)
behind_more a b some = let l = length-append a b in omega arith

-- the start of a section has bytes
begun_some : (last : Option Witness) (ys : List Field) → 0 < length (spelled Two last (field.SectionStart 0 1 2 ∷ ys))
unfolding spelled
begun_some last ys =
    behind_more (bytes_of Two last (field.SectionStart 0 1 2)) (spelled Two (last_behind last (field.SectionStart 0 1 2)) ys)
    (some_of (be 1 0) (be 1 1) (be 1 2) (let e = length-be 1 0 in omega arith))

le_or_less : (a b : ℕ) → (a ≤ b) ⊎ (b < a)
le_or_less zero b = inl (omega arith)
le_or_less (suc a) zero = inr (omega arith)
le_or_less (suc a) (suc b) = on (le_or_less a b)
  where
    on : (a ≤ b) ⊎ (b < a) → (suc a ≤ suc b) ⊎ (suc b < suc a)
    on (inl h) = inl (omega (arith, h))
    on (inr h) = inr (omega (arith, h))

start_last : start.last ≡ None
unfolding start
start_last = refl

-- a scanner that has read a front of the head has read fewer items
fewer : (h : CertHead) (n : ℕ) (hs gs : List Group) (ys : List Field) (end : Context) (read : List ℕ) → map (group_in Two) (started_items h n ++ ys) ≡ hs ++ gs → Runs start hs end read
    → length read ≤ length (spelled Two None (head_items h n)) → length hs < length (started_items h n)
fewer h n hs gs ys end read e run within = by (le_or_less (length (started_items h n)) (length hs))
  where
    by : (length (started_items h n) ≤ length hs) ⊎ (length hs < length (started_items h n)) → length hs < length (started_items h n)
    by (inr less) = less
    by (inl over) =
        let l = bytes_of_front hs gs (started_items h n) ys start end read None start_last e over run in
        let s = ap length (spelled_behind None (head_items h n) (field.SectionStart 0 1 2 ∷ [])) in
        let a = length-append (spelled Two None (head_items h n)) (spelled Two (last_of None (head_items h n)) (field.SectionStart 0 1 2 ∷ [])) in
        let z = begun_some (last_of None (head_items h n)) [] in
        absurd (omega arith)

-- the items of a certificate that begins with a blank section
abbrev items_behind : List CertSection → List Field
items_behind rest = field.CountLeaf ∷ (sections_fields rest ++ (field.End ∷ []))

fields_are : (h : CertHead) (rest : List CertSection) (n : ℕ) → length (blank ∷ rest) ≡ n → fields_of (record { head = h; sections = blank ∷ rest }) ≡ started_items h n ++ items_behind rest
unfolding fields_of sections_fields section_fields tree_fields
fields_are h rest n same =
    ap (λ (m : ℕ). head_fields h ++ (field.Sections m ∷ (field.SectionStart 0 1 2 ∷ items_behind rest))) same
    ∙ sym (append_assoc (head_items h n) (field.SectionStart 0 1 2 ∷ []) (items_behind rest) ∙ append_assoc (head_fields h) (field.Sections n ∷ []) (field.SectionStart 0 1 2 ∷ items_behind rest))

abbrev given : ℕ → Field → Result (Option Item) CertFault
given place f = Ok (Some (record { place = place; field = f }))

-- what a scanner found that isn't that more is needed, with more bytes behind
stays_given : (s : Scan) (tail : List ℕ) (g : Group) (front more : List ℕ) → s.fault ≡ None → ((next_of s).answer ≡ Ok None → ⊥) → Spells (format_of s.context s.context.phase) g front → s.rest ++ tail ≡ front ++ more
    → (next_of s).answer ≡ given s.place g.field
stays_given s tail g front more sound some spells e =
    sym (ap (λ (a : Scanned). a.answer) (answers_stay s tail some)) ∙ gives (fed_more s tail) g front more sound spells e

not_none : (r : Result (Option Item) CertFault) (f : CertFault) → r ≡ Err f → r ≡ Ok None → ⊥
not_none r f e n = cc

not_given : (r : Result (Option Item) CertFault) (i : Item) → r ≡ Ok (Some i) → r ≡ Ok None → ⊥
not_given r i e n = cc

same_item : (a b : Item) → ◌≡◌ {A = Result (Option Item) CertFault} (Ok (Some a)) (Ok (Some b)) → a ≡ b
same_item a b e = cc

clash_fault : (r : Result (Option Item) CertFault) (f : CertFault) (i : Item) → r ≡ Err f → r ≡ Ok (Some i) → ⊥
clash_fault r f i e n = let a = sym e ∙ n in cc

-- no fault is found before the next item, where it is right
right_found : (s : Scan) (p : Progress) (f : CertFault) (tail : List ℕ) (g : Group) (front more : List ℕ) → s.fault ≡ None → Spells (format_of s.context s.context.phase) g front → s.rest ++ tail ≡ front ++ more → IsItemRight p g.field
    → ((next_of s).answer ≡ Err f) ⊎ ((item : Item) × ((next_of s).answer ≡ Ok (Some item)) × IsItemFault p item.field item.place (next_of s).stands.place f) → ⊥
right_found s p f tail g front more sound spells e right (inl err) =
    clash_fault (next_of s).answer f (record { place = s.place; field = g.field }) err (stays_given s tail g front more sound (not_none (next_of s).answer f err) spells e)
right_found s p f tail g front more sound spells e right (inr found) =
    let answer = stays_given s tail g front more sound (not_given (next_of s).answer found.0 found.1) spells e in
    fault_apart p found.0.field found.0.place (next_of s).stands.place f found.2
    (subst (IsItemRight p) (ap (λ (k : Item). k.field) (sym (same_item found.0 (record { place = s.place; field = g.field }) (sym found.1 ∙ answer)))) right)

-- what is left of the whole behind what a scanner has read
next_right : (h : CertHead) (n : ℕ) (ys : List Field) (s : Scan) (p q : Progress) (f : CertFault) (tail : List ℕ) (hs : List Group) (end : Context) → 0 < length tail → s.fault ≡ None → Judged fresh_progress hs p
    → Judges fresh_progress (started_items h n) q → length hs < length (started_items h n) → (gs : List Group) → map (group_in Two) (started_items h n ++ ys) ≡ hs ++ gs → Runs s.context gs end (s.rest ++ tail)
    → ((next_of s).answer ≡ Err f) ⊎ ((item : Item) × ((next_of s).answer ≡ Ok (Some item)) × IsItemFault p item.field item.place (next_of s).stands.place f) → ⊥
unfolding Runs
next_right h n ys s p q f tail hs end some sound judged judges less [] e run found =
    let a = length-append s.rest tail in
    let b = ap length run.1 in
    omega arith
next_right h n ys s p q f tail hs end some sound judged judges less (g ∷ gs) e run found =
    right_found s p f tail g run.0 run.1 sound run.2 run.4 (right_next hs g gs (started_items h n) ys fresh_progress p q e judged judges less) found

behind_some : (a b : List ℕ) → 0 < length b → 0 < length (a ++ b)
behind_some a b some = let l = length-append a b in omega arith

-- the bytes of the whole behind a front of its head
whole_behind : (h : CertHead) (rest : List CertSection) (n : ℕ) (bytes more : List ℕ) → length (blank ∷ rest) ≡ n → spelled Two None (head_items h n) ≡ bytes ++ more
    → spelling Two (record { head = h; sections = blank ∷ rest }) ≡ bytes ++ (more ++ spelled Two (last_of None (head_items h n)) (field.SectionStart 0 1 2 ∷ items_behind rest))
whole_behind h rest n bytes more many split =
    let ys = items_behind rest in
    let last = last_of None (head_items h n) in
    ap (spelled Two None) (fields_are h rest n many ∙ append_assoc (head_items h n) (field.SectionStart 0 1 2 ∷ []) ys) ∙ spelled_behind None (head_items h n) (field.SectionStart 0 1 2 ∷ ys)
    ∙ ap (λ (x : List ℕ). x ++ spelled Two last (field.SectionStart 0 1 2 ∷ ys)) split ∙ append_assoc bytes more (spelled Two last (field.SectionStart 0 1 2 ∷ ys))

-- no fault is decided by a front of the head
no_fault : (h : CertHead) (rest : List CertSection) (n : ℕ) (bytes more : List ℕ) (f : CertFault) → IsHead h → IsDominantHead h → IsWritable (record { head = h; sections = blank ∷ rest }) → length (blank ∷ rest) ≡ n
    → spelled Two None (head_items h n) ≡ bytes ++ more → IsFaultIn bytes f → ⊥
no_fault h rest n bytes more f is dominant writable many split fault =
    let c : Certificate = record { head = h; sections = blank ∷ rest } in
    let whole : Encodes Two (spelling Two c) c = encodes Two c writable tt in
    let ys = items_behind rest in
    let last = last_of None (head_items h n) in
    let tail : List ℕ = more ++ spelled Two last (field.SectionStart 0 1 2 ∷ ys) in
    let items : fields_of c ≡ started_items h n ++ ys = fields_are h rest n many in
    let spells : spelling Two c ≡ bytes ++ tail = whole_behind h rest n bytes more many split in
    let s : Scan = fault.scan in
    let read : List ℕ = fault.items.scanned.bytes in
    let hs : List Group = fault.items.groups in
    let over : read ++ (s.rest ++ tail) ≡ spelling Two c =
    sym (append_assoc read s.rest tail) ∙ ap (λ (x : List ℕ). x ++ tail) (sym fault.items.scanned.fed_is) ∙ sym spells in
    let left = follow hs (map (group_in Two) (fields_of c)) start s.context whole.end read (spelling Two c) (s.rest ++ tail) fault.items.scanned.run whole.run whole.over over in
    let all : map (group_in Two) (started_items h n ++ ys) ≡ hs ++ left.rest = ap (map (group_in Two)) (sym items) ∙ left.groups_are in
    let known = items_judge h n is dominant in
    let a = length-append read s.rest in
    let b = ap length fault.items.scanned.fed_is in
    let d = length-append bytes more in
    let e = ap length split in
    let within : length read ≤ length (spelled Two None (head_items h n)) = omega arith in
    next_right h n ys s fault.progress known.0 f tail hs whole.end (behind_some more (spelled Two last (field.SectionStart 0 1 2 ∷ ys)) (begun_some last ys)) fault.items.scanned.sound fault.items.judged known.1
    (fewer h n hs left.rest ys s.context read all fault.items.scanned.run within) left.rest all left.run fault.found

found : (h : CertHead) (rest : List CertSection) (n : ℕ) (bytes more : List ℕ) (f : CertFault) → IsHead h → IsDominantHead h → IsWritable (record { head = h; sections = blank ∷ rest }) → length (blank ∷ rest) ≡ n
    → spelled Two None (head_items h n) ≡ bytes ++ more → IsFaultOf bytes f → f ≡ record { place = length bytes; kind = Short }
found h rest n bytes more f is dominant writes many split (inl fault) = absurd (no_fault h rest n bytes more f is dominant writes many split fault)
found h rest n bytes more f is dominant writes many split (inr cut) = cut.fault_is

not_accepted : (h : CertHead) (rest : List CertSection) (n : ℕ) (bytes more : List ℕ) (v : VerdictValue) → IsWritable (record { head = h; sections = blank ∷ rest }) → length (blank ∷ rest) ≡ n
    → spelled Two None (head_items h n) ≡ bytes ++ more → Accepted bytes v → ⊥
not_accepted h rest n bytes more v writes many split a =
    let c : Certificate = record { head = h; sections = blank ∷ rest } in
    let ys = items_behind rest in
    let last = last_of None (head_items h n) in
    let tail : List ℕ = more ++ spelled Two last (field.SectionStart 0 1 2 ∷ ys) in
    none_left tail (behind_some more (spelled Two last (field.SectionStart 0 1 2 ∷ ys)) (begun_some last ys))
    (no_front a.version Two bytes tail a.certificate c a.encodes (subst (λ (x : List ℕ). Encodes Two x c) (whole_behind h rest n bytes more many split) (encodes Two c writes tt)))

-- a front of the head is accepted with no verdict, and has no fault but that it is short
pub short_head : (asked : Asked) (shift : ShiftValue) (bytes more : List ℕ) → IsAsked asked → IsShiftOf asked.instance shift → head_bytes asked.instance shift asked.nodes (length asked.weights) ≡ bytes ++ more → AreShort bytes
unfolding head_bytes
short_head asked shift bytes more is shift_is split =
    let h : CertHead = head_of asked.instance shift asked.nodes in
    let k : ℕ = length asked.weights - 1 in
    let rest : List CertSection = replicate k blank in
    let l : length rest ≡ k = length-replicate k blank in
    let some = is.some in
    let few = is.few in
    let many : length (blank ∷ rest) ≡ length asked.weights = omega arith in
    let valid = head_valid asked shift is shift_is in
    let writes : IsWritable (certificate asked shift (blank ∷ rest)) = record {
      head_is = valid.0;
      some = omega arith;
      few = omega arith;
      sections_are = All-cons (IsWritableSection h) blank rest (blank_written h) (all_copies (IsWritableSection h) k blank (blank_written h));
    } in
    record {
      unaccepted = λ v a. not_accepted h rest (length asked.weights) bytes more v writes many split a;
      short = λ f fault. found h rest (length asked.weights) bytes more f valid.0 valid.1 writes many split fault;
    }
