-- What is written of items, one more at a time.
use Rattle.std.proofs.Common.{◌≡◌, ℕ, Bool, true, false, if◌then◌else◌, List, [], ◌∷◌, ◌++◌, map, Option, Some, None, Result, Ok, Err, refl, sym, ap, ◌∙◌, subst}
use Rattle.std.proofs.lemmas.List.{append_assoc, append-nil, map-append}
use Rattle.gap_base.specs.declared.witness.Witness.{Witness}
use Rattle.gap_model.specs.declared.cert_fault.CertFault.{CertFault}
use Rattle.gap_cert.specs.declared.field.Field.{Field}
use Rattle.gap_cert.specs.declared.field.Group.{Group}
use Rattle.gap_cert.specs.declared.field.Item.{Item}
use Rattle.gap_cert.specs.declared.field.Version.TheVariants.{Two}
use Rattle.gap_cert.specs.Bytes.{AreBytes}
use Rattle.gap_cert.specs.Contexts.{Runs}
use Rattle.gap_cert.specs.Fields.{bytes_of}
use Rattle.gap_cert.specs.Certificates.{last_behind, spelled}
use Rattle.gap_scan.specs.Scans.{Scan, HasScanned, fresh_scan, fed_more, next_of}
use Rattle.gap_scan.proofs.ScanLaws.{bytes_append}
use Rattle.gap_scan.proofs.ScannedLaws.{scanned_more}
use Rattle.gap_check.proofs.NextLaws.{none_stands}
use Rattle.gap_check.proofs.CheckerLaws.{fresh_read}
use Rattle.gap_check.proofs.HistoryLaws.{scanned_longer}
use Rattle.gap_writer.specs.Writing.{Written, blank, put, put_all, last_of}
use Rattle.gap_writer.proofs.ItemLaws.{spelled_behind}
use Rattle.gap_upgrade.specs.Copying.{is_end, unended, put_unended, written, HasWritten, HasWrittenAll, IsAtFault}

-- ---- items without end marks

unended_step : (e : Bool) (f : Field) (x a b : List Field) → x ≡ a ++ b → (if e then x else f ∷ x) ≡ (if e then a else f ∷ a) ++ b
unended_step true f x a b h = h
unended_step false f x a b h = ap (λ (l : List Field). f ∷ l) h

pub unended-append : (a b : List Field) → unended (a ++ b) ≡ unended a ++ unended b
unended-append [] b = refl
unended-append (f ∷ a) b = unended_step (is_end f) f (unended (a ++ b)) (unended a) (unended b) (unended-append a b)

-- ---- items behind items

last_of_behind : (last : Option Witness) (a b : List Field) → last_of last (a ++ b) ≡ last_of (last_of last a) b
last_of_behind last [] b = refl
last_of_behind last (f ∷ a) b = last_of_behind (last_behind last f) a b

-- what a writer has
abbrev pub pair : List ℕ → Option Witness → Written
pair bytes last = record { bytes = bytes; last = last }

put_one : (w : Written) (a : List Field) (f : Field) → put_all w (a ++ f ∷ []) ≡ put (put_all w a) f
unfolding spelled
put_one w a f =
    let before = spelled Two w.last a in
    let own = bytes_of Two (last_of w.last a) f in
    let bytes : w.bytes ++ spelled Two w.last (a ++ f ∷ []) ≡ (w.bytes ++ before) ++ own =
    ap (λ (x : List ℕ). w.bytes ++ x) (spelled_behind w.last a (f ∷ []) ∙ ap (λ (x : List ℕ). before ++ x) (append-nil own)) ∙ sym (append_assoc w.bytes before own) in
    ap (λ (x : List ℕ). pair x (last_of w.last (a ++ f ∷ []))) bytes
    ∙ ap (λ (x : Option Witness). pair ((w.bytes ++ before) ++ own) x) (last_of_behind w.last a (f ∷ []))

abbrev pub field_of : Group → Field
field_of g = g.field

written_step : (e : Bool) (a : List Field) (f : Field) → put_all blank (a ++ (if e then [] else f ∷ [])) ≡ (if e then put_all blank a else put (put_all blank a) f)
written_step true a f = ap (put_all blank) (append-nil a)
written_step false a f = put_one blank a f

-- one group more
written_more : (groups : List Group) (g : Group) → written (groups ++ g ∷ []) ≡ put_unended (written groups) g.field
unfolding written
written_more groups g =
    ap (λ (l : List Field). put_all blank (unended l)) (map-append field_of groups (g ∷ []))
    ∙ ap (put_all blank) (unended-append (map field_of groups) (g.field ∷ []))
    ∙ written_step (is_end g.field) (unended (map field_of groups)) g.field

gone_step : (e : Bool) (gone : List ℕ) (w : Written) (f : Field) → (if e then pair (gone ++ w.bytes) w.last else put (pair (gone ++ w.bytes) w.last) f) ≡ pair (gone ++ (if e then w else put w f).bytes) (if e then w else put w f).last
gone_step true gone w f = refl
gone_step false gone w f = ap (λ (x : List ℕ). pair x (last_behind w.last f)) (append_assoc gone w.bytes (bytes_of Two w.last f))

-- behind bytes that are gone
put_behind : (gone : List ℕ) (w : Written) (f : Field) → put_unended (pair (gone ++ w.bytes) w.last) f ≡ pair (gone ++ (put_unended w f).bytes) (put_unended w f).last
put_behind gone w f = gone_step (is_end f) gone w f

-- ---- the scanner and the writer

pub tail_bytes : (xs ys : List ℕ) → AreBytes (xs ++ ys) → AreBytes ys
tail_bytes [] ys h = h
tail_bytes (x ∷ xs) ys h = tail_bytes xs ys h.1

rest_bytes : (s : Scan) (fed : List ℕ) (groups : List Group) → HasScanned s fed groups → AreBytes fed → AreBytes s.rest
rest_bytes s fed groups h b = tail_bytes h.bytes s.rest (subst AreBytes h.fed_is b)

abbrev given : Item → Result (Option Item) CertFault
given item = Ok (Some item)

-- an item was written
pub written_item : (s new : Scan) (w v : Written) (fed gone : List ℕ) (item : Item) → new ≡ (next_of s).stands → (next_of s).answer ≡ given item → v ≡ put_unended w item.field → HasWritten s w fed gone → HasWritten new v fed gone
written_item s new w v fed gone item stands e is h =
    let m = scanned_more s fed h.groups item (rest_bytes s fed h.groups h.scanned h.bytes_are) h.scanned e in
    let same : put_unended w m.group.field ≡ v = ap (put_unended w) (sym m.field_is) ∙ sym is in
    record {
      bytes_are = h.bytes_are;
      groups = h.groups ++ m.group ∷ [];
      scanned = subst (λ (x : Scan). HasScanned x fed (h.groups ++ m.group ∷ [])) (sym stands) m.more;
      written_is = written_more h.groups m.group ∙ ap (λ (x : Written). put_unended x m.group.field) h.written_is ∙ put_behind gone w m.group.field
          ∙ ap (λ (x : Written). pair (gone ++ x.bytes) x.last) same;
    }

-- there is no further item
pub written_all : (s new : Scan) (w : Written) (fed gone : List ℕ) → new ≡ (next_of s).stands → (next_of s).answer ≡ Ok None → HasWritten s w fed gone → HasWrittenAll new w fed gone
written_all s new w fed gone stands none h =
    subst (λ (x : Scan). HasWrittenAll x w fed gone) (sym (stands ∙ none_stands s h.scanned.sound none)) (record { has_written = h; done = none })

-- a number is at fault
pub at_fault : (s : Scan) (w : Written) (fed gone : List ℕ) (f : CertFault) → (next_of s).answer ≡ Err f → HasWritten s w fed gone → IsAtFault fed f
at_fault s w fed gone f e h = record { bytes_are = h.bytes_are; scan = s; groups = h.groups; scanned = h.scanned; found = e }

-- more bytes are fed
pub written_fed : (s new : Scan) (w : Written) (fed gone more : List ℕ) → AreBytes more → new ≡ fed_more s more → HasWritten s w fed gone → HasWritten new w (fed ++ more) gone
written_fed s new w fed gone more b e h = record {
  bytes_are = bytes_append fed more h.bytes_are b;
  groups = h.groups;
  scanned = subst (λ (x : Scan). HasScanned x (fed ++ more) h.groups) (sym e) (scanned_longer fed more s h.groups h.scanned);
  written_is = h.written_is;
}

-- before the first byte
pub written_none : HasWrittenAll fresh_scan blank [] []
unfolding Runs written spelled
written_none = record {
  has_written = record {
    bytes_are = tt;
    groups = [];
    scanned = record { bytes = []; run = (refl, refl); fed_is = refl; place_is = refl; sound = refl };
    written_is = refl;
  };
  done = fresh_read.done;
}

-- the writer's bytes are gone
pub written_gone : (s : Scan) (w v : Written) (fed gone : List ℕ) → v.bytes ≡ [] → v.last ≡ w.last → HasWrittenAll s w fed gone → HasWrittenAll s v fed (gone ++ w.bytes)
written_gone s w v fed gone empty last h = record {
  has_written = record {
    bytes_are = h.has_written.bytes_are;
    groups = h.has_written.groups;
    scanned = h.has_written.scanned;
    written_is = h.has_written.written_is ∙ ap (λ (x : List ℕ). pair x w.last) (sym (append-nil (gone ++ w.bytes)) ∙ ap (λ (x : List ℕ). (gone ++ w.bytes) ++ x) (sym empty))
        ∙ ap (λ (x : Option Witness). pair ((gone ++ w.bytes) ++ v.bytes) x) (sym last);
  };
  done = h.done;
}
