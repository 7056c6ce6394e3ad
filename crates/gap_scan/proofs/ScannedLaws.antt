-- The laws of scanning.
use Rattle.std.proofs.Common.{◌≡◌, ℕ, ◌+◌, List, [], ◌∷◌, ◌++◌, length, map, Option, Some, None, Result, Ok, Err, refl, sym, ap, ◌∙◌, subst}
use Rattle.std.proofs.lemmas.List.{append_assoc, append-nil, length-append}
use Rattle.gap_model.specs.declared.cert_fault.CertFault.{CertFault}
use Rattle.gap_cert.specs.declared.context.Context.{Context}
use Rattle.gap_cert.specs.declared.field.Group.{Group}
use Rattle.gap_cert.specs.declared.field.Item.{Item}
use Rattle.gap_cert.specs.declared.field.Field.{Field}
use Rattle.gap_cert.specs.declared.field.Stop.{Stop}
use Rattle.gap_cert.specs.declared.field.Stop.TheVariants.{More, Fault}
use Rattle.gap_cert.specs.declared.field.Version.{Version}
use Rattle.gap_cert.specs.declared.context.Phase.TheVariants as phase
use Rattle.gap_cert.specs.Certificates.{Certificate, Encodes, fields_of, group_in}
use Rattle.gap_cert.proofs.RunLaws.{one_run}
use Rattle.gap_cert.specs.Bytes.{AreBytes}
use Rattle.gap_cert.specs.Formats.{Spot, Spells, read}
use Rattle.gap_cert.specs.Contexts.{format_of, after, start, Runs}
use Rattle.gap_scan.specs.Scans.{Scan, HasScanned, HasScannedMore, next_of, next_by, answered}
use Rattle.gap_cert.proofs.FormatLaws.{Written, writes}
use Rattle.gap_scan.proofs.ScanLaws.{scan_at, spot_at}

-- a run with one group more
run_more : (c end : Context) (gs : List Group) (g : Group) (bytes front : List ℕ) → Runs c gs end bytes → Spells (format_of end end.phase) g front → Runs c (gs ++ g ∷ []) (after end g) (bytes ++ front)
unfolding Runs
run_more c end [] g bytes front h s =
    (front, [], subst (λ (k : Context). Spells (format_of k k.phase) g front) (sym h.0) s, (ap (λ (k : Context). after k g) h.0, refl), ap (λ (l : List ℕ). l ++ front) h.1 ∙ sym (append-nil front))
run_more c end (x ∷ gs) g bytes front h s =
    (h.0, h.1 ++ front, h.2, run_more (after c x) end gs g h.1 front h.3 s, ap (λ (l : List ℕ). l ++ front) h.4 ∙ append_assoc h.0 h.1 front)

abbrev item_at : ℕ → Field → Item
item_at place f = record { place = place; field = f }

abbrev given : Item → Result (Option Item) CertFault
given i = Ok (Some i)

item_is : (a b : Item) → given a ≡ given b → a ≡ b
item_is a b e = cc

-- the answer to what was read
answer_is : (s : Scan) (item : Item) (r : Result (Group × Spot) Stop) → (answered s r).answer ≡ given item → (g : Group) × (t : Spot) × (r ≡ Ok (g, t)) × (item_at s.place g.field ≡ item)
answer_is s item (Ok r) h = (r.0, r.1, refl, item_is (item_at s.place r.0.field) item h)
answer_is s item (Err More) h = cc
answer_is s item (Err (Fault f)) h = cc

has_more : (s : Scan) (fed : List ℕ) (groups : List Group) (item : Item) (g : Group) (t : Spot) → HasScanned s fed groups → Written (format_of s.context s.context.phase) g (spot_at s.place s.rest) t →
    item_at s.place g.field ≡ item → (next_of s).stands ≡ scan_at (after s.context g) t.place t.rest → HasScannedMore s fed groups item
has_more s fed groups item g t h r e n =
    record {
      group = g;
      field_is = sym (ap (λ (i : Item). i.field) e);
      place_is = sym (ap (λ (i : Item). i.place) e);
      more = subst (λ (k : Scan). HasScanned k fed (groups ++ g ∷ [])) (sym n) (more_scanned s fed groups g t h r);
    }
  where
    more_scanned : (s : Scan) (fed : List ℕ) (groups : List Group) (g : Group) (t : Spot) → HasScanned s fed groups → Written (format_of s.context s.context.phase) g (spot_at s.place s.rest) t → HasScanned (scan_at (after s.context g) t.place t.rest) fed (groups ++ g ∷ [])
    more_scanned s fed groups g t h r = record {
      bytes = h.bytes ++ r.bytes;
      run = run_more start s.context groups g h.bytes r.bytes h.run r.spells;
      fed_is = h.fed_is ∙ ap (λ (l : List ℕ). h.bytes ++ l) r.rest_is ∙ sym (append_assoc h.bytes r.bytes t.rest);
      place_is = r.place_is ∙ ap (λ (k : ℕ). k + length r.bytes) h.place_is ∙ sym (length-append h.bytes r.bytes);
      sound = refl;
    }

-- a scanner that answers an item has scanned it
pub scanned_more : (s : Scan) (fed : List ℕ) (groups : List Group) (item : Item) → AreBytes s.rest → HasScanned s fed groups → (next_of s).answer ≡ given item → HasScannedMore s fed groups item
unfolding next_of
scanned_more s fed groups item b h e =
    let sound : s.fault ≡ None = h.sound in
    let a : (next_by s None).answer ≡ given item = sym (ap (λ (f : Option CertFault). (next_by s f).answer) sound) ∙ e in
    let r = answer_is s item (read (format_of s.context s.context.phase) (spot_at s.place s.rest)) a in
    let n : (next_by s s.fault).stands ≡ scan_at (after s.context r.0) r.1.place r.1.rest = ap (λ (f : Option CertFault). (next_by s f).stands) sound ∙ ap (λ (q : Result (Group × Spot) Stop). (answered s q).stands) r.2 in
    has_more s fed groups item r.0 r.1 h (writes (format_of s.context s.context.phase) r.0 (spot_at s.place s.rest) r.1 b r.2) r.3 n

-- behind the end mark the items are those of the certificate
pub scanned_whole : (s : Scan) (fed bytes more : List ℕ) (groups : List Group) (v : Version) (c : Certificate) → HasScanned s fed groups → s.context.phase ≡ phase.Over → Encodes v bytes c → fed ≡ bytes ++ more →
    (groups ≡ map (group_in v) (fields_of c)) × (s.rest ≡ more)
scanned_whole s fed bytes more groups v c h o e f = one_run groups (map (group_in v) (fields_of c)) start s.context e.end h.bytes bytes s.rest more h.run e.run o e.over (sym h.fed_is ∙ f)
