-- What a scanner reads goes on within its bytes.
use Rattle.std.proofs.Common.{◌≡◌, ℕ, suc, ◌+◌, ◌-◌, ◌<◌, ◌≤◌, List, [], ◌∷◌, ◌++◌, length, take, drop, slice_index_or, Option, None, Ok, sym, ap, ◌∙◌, subst, arith}
use Rattle.std.proofs.lemmas.List.{length-append, length-drop, drop-drop}
use Rattle.std.proofs.Math.Seq.{drop-append_seam, take-length}
use Rattle.gap_model.specs.declared.cert_fault.CertFault.{CertFault}
use Rattle.gap_scan.specs.Scans.{Scan, next_of}
use Rattle.gap_cert.specs.Contexts.{after}
use Rattle.gap_base.specs.declared.witness.Witness.{Witness}
use Rattle.gap_box.specs.declared.split.Split.{Split}
use Rattle.gap_box.specs.declared.split.Split.TheVariants.{Held, Lots}
use Rattle.gap_cert.specs.declared.field.Version.{Version}
use Rattle.gap_cert.specs.declared.field.Field.{Field}
use Rattle.gap_cert.specs.declared.field.Field.TheVariants as field
use Rattle.gap_cert.specs.declared.field.Group.{Group}
use Rattle.gap_cert.specs.declared.context.Context.{Context}
use Rattle.gap_cert.specs.Bytes.{be, AreBytes}
use Rattle.gap_cert.specs.Formats.{Spot, read}
use Rattle.gap_cert.specs.Fields.{bytes_of, split_bytes}
use Rattle.gap_cert.specs.Contexts.{format_of, split_count}
use Rattle.gap_cert.proofs.Numbers.{length-be}
use Rattle.gap_cert.proofs.FormatLaws.{Written, writes, bytes_drop}
use Rattle.gap_cert.proofs.GrammarLaws.{bytes_are}

pub bytes_by_index : (bytes : List ℕ) → ((i : ℕ) → slice_index_or bytes i 0 < 256) → AreBytes bytes
bytes_by_index [] h = tt
bytes_by_index (b ∷ bytes) h = (h 0, bytes_by_index bytes (λ i. h (suc i)))

split_length : (s : Split) → 1 ≤ length (split_bytes s)
split_length (Held i) = omega (arith, length-append (be 1 4) (be 2 (suc i)), length-be 1 4)
split_length (Lots i t) = omega (arith, length-append (be 1 5 ++ be 2 (suc i)) (be 2 t), length-append (be 1 5) (be 2 (suc i)), length-be 1 5)

count_length : (v : Version) (last : Option Witness) (f : Field) → split_count f ≤ length (bytes_of v last f)
count_length v last (field.Split split) = split_length split
count_length v last (field.Head n lots held held_most turnover nodes) = omega arith
count_length v last (field.Asset mean dev least greatest present) = omega arith
count_length v last (field.Correlation rho) = omega arith
count_length v last (field.FactorEntry r) = omega arith
count_length v last (field.ShiftEntry d) = omega arith
count_length v last (field.Sections count) = omega arith
count_length v last (field.SectionStart p q outcome) = omega arith
count_length v last (field.Portfolio x) = omega arith
count_length v last (field.Objective value) = omega arith
count_length v last (field.Bound value) = omega arith
count_length v last (field.Overall w) = omega arith
count_length v last field.CountLeaf = omega arith
count_length v last (field.VoidLeaf alpha tau) = omega arith
count_length v last (field.TangentLeaf w) = omega arith
count_length v last field.End = omega arith

-- a group that was read ends within the bytes, and a split has a byte
pub record Goes (g : Group) (s t : Spot) : Type 0 where
  pub forward : s.place + split_count g.field ≤ t.place
  pub within : t.place ≤ s.place + length s.rest
  pub rest_is : t.rest ≡ drop (t.place - s.place) s.rest

goes_by : (c : Context) (g : Group) (s t : Spot) → Written (format_of c c.phase) g s t → Goes g s t
goes_by c g s t w =
    let l = count_length g.version c.last g.field in
    let e = ap length (bytes_are c g w.bytes w.spells) in
    let r = ap length w.rest_is ∙ length-append w.bytes t.rest in
    let d : t.place - s.place ≡ length w.bytes = omega (arith, w.place_is) in
    record {
      forward = omega (arith, w.place_is, e, l);
      within = omega (arith, w.place_is, r);
      rest_is = sym (ap (λ (n : ℕ). drop n s.rest) d ∙ ap (λ (l : List ℕ). drop (length w.bytes) l) w.rest_is ∙ drop-append_seam w.bytes t.rest);
    }

pub goes : (c : Context) (g : Group) (s t : Spot) → AreBytes s.rest → read (format_of c c.phase) s ≡ Ok (g, t) → Goes g s t
goes c g s t b h = goes_by c g s t (writes (format_of c c.phase) g s t b h)

-- the bytes behind a place of a buffer
pub behind_place : (whole items : List ℕ) (at : ℕ) → whole ≡ items → take (length whole - at) (drop at whole) ≡ drop at items
behind_place whole items at e =
    ap (λ (n : ℕ). take n (drop at whole)) (sym (length-drop at whole)) ∙ take-length (drop at whole) ∙ ap (drop at) e

pub bytes_append : (xs ys : List ℕ) → AreBytes xs → AreBytes ys → AreBytes (xs ++ ys)
bytes_append [] ys h k = k
bytes_append (x ∷ xs) ys h k = (h.0, bytes_append xs ys h.1 k)

-- where a group that was read from a buffer ends
pub record ScanGoes (g : Group) (items : List ℕ) (at place : ℕ) (t : Spot) : Type 0 where
  pub forward : place + split_count g.field ≤ t.place
  pub within : at + (t.place - place) ≤ length items
  pub rest_is : t.rest ≡ drop (at + (t.place - place)) items

pub scan_goes : (c : Context) (g : Group) (whole items : List ℕ) (at place : ℕ) (s t : Spot) → AreBytes items → whole ≡ items → at ≤ length items →
    s.place ≡ place → s.rest ≡ take (length whole - at) (drop at whole) → read (format_of c c.phase) s ≡ Ok (g, t) → ScanGoes g items at place t
scan_goes c g whole items at place s t b e h p q r =
    let rest : s.rest ≡ drop at items = q ∙ behind_place whole items at e in
    let bytes : AreBytes s.rest = subst AreBytes (sym rest) (bytes_drop at items b) in
    let go = goes c g s t bytes r in
    let l = ap length rest ∙ length-drop at items in
    record {
      forward = omega (arith, p, go.forward);
      within = omega (arith, p, l, go.within, go.forward);
      rest_is = go.rest_is ∙ ap (λ (k : ℕ). drop (t.place - k) s.rest) p ∙ ap (drop (t.place - place)) rest ∙ drop-drop (t.place - place) at items;
    }

abbrev pub scanned : Context → ℕ → List ℕ → Option CertFault → Scan
scanned c place rest fault = record { context = c; place = place; rest = rest; fault = fault }

-- a scanner without a fault
abbrev pub scan_at : Context → ℕ → List ℕ → Scan
scan_at c place rest = record { context = c; place = place; rest = rest; fault = None }

abbrev pub spot_at : ℕ → List ℕ → Spot
spot_at place rest = record { place = place; rest = rest }

-- where a scanner stands behind an item
pub stands_behind : (s new : Scan) (c : Context) (g : Group) (place : ℕ) (rest : List ℕ) (spot t : Spot) → s ≡ scan_at c place rest →
    spot.place ≡ place → spot.rest ≡ rest → read (format_of c c.phase) spot ≡ Ok (g, t) → new ≡ scan_at (after c g) t.place t.rest → new ≡ (next_of s).stands
unfolding next_of
stands_behind s new c g place rest spot t e p q r n =
    let same : spot ≡ record { place = place; rest = rest } = same_spot spot place rest p q in
    let again : read (format_of c c.phase) (record { place = place; rest = rest }) ≡ Ok (g, t) = ap (read (format_of c c.phase)) (sym same) ∙ r in
    rw e (rw again n)
  where
    same_spot : (s : Spot) (place : ℕ) (rest : List ℕ) → s.place ≡ place → s.rest ≡ rest → s ≡ record { place = place; rest = rest }
    same_spot s place rest p q = ap (λ (k : ℕ). spot_at k s.rest) p ∙ ap (λ (l : List ℕ). spot_at place l) q
