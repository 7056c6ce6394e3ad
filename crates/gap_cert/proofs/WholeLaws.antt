-- The laws of whole encodings.
use Rattle.std.proofs.Common.{◌≡◌, ℕ, List, [], ◌∷◌, ◌++◌, map, None, Ok, refl, ap, ◌∙◌}
use Rattle.gap_cert.specs.declared.field.Group.{Group}
use Rattle.gap_cert.specs.declared.field.Field.{Field}
use Rattle.gap_cert.specs.declared.field.Version.{Version}
use Rattle.gap_cert.specs.Bytes.{AreBytes}
use Rattle.gap_cert.specs.Formats.{Format, Spot, IsReadFrom, read}
use Rattle.gap_cert.specs.Contexts.{start}
use Rattle.gap_cert.specs.Certificates.{Certificate, Encodes, fields_of, head_fields, spelling, group_in}
use Rattle.gap_cert.proofs.FormatLaws.{writes}
use Rattle.gap_cert.proofs.RunLaws.{one_run, run_bytes}

pub read_from : (F : Format) (g : Group) (s t : Spot) → AreBytes s.rest → read F s ≡ Ok (g, t) → IsReadFrom F g s t
read_from F g s t b h = let w = writes F g s t b h in record { bytes = w.bytes; spells = w.spells; rest_is = w.rest_is; place_is = w.place_is }

tails : (a b : Group) (x y : List Group) → a ∷ x ≡ b ∷ y → (a ≡ b) × (x ≡ y)
tails a b x y h = (cc, cc)

-- items are known by their groups
same_fields : (v w : Version) (f g : List Field) → map (group_in v) f ≡ map (group_in w) g → f ≡ g
same_fields v w [] [] h = refl
same_fields v w [] (y ∷ g) h = cc
same_fields v w (x ∷ f) [] h = cc
same_fields v w (x ∷ f) (y ∷ g) h =
    let t = tails (group_in v x) (group_in w y) (map (group_in v) f) (map (group_in w) g) h in
    ap (λ (a : Field). a ∷ f) (ap (λ (k : Group). k.field) t.0) ∙ ap (λ (l : List Field). y ∷ l) (same_fields v w f g t.1)

same_version : (v w : Version) (c d : Certificate) → map (group_in v) (fields_of c) ≡ map (group_in w) (fields_of d) → v ≡ w
unfolding fields_of head_fields
same_version v w c d h = ap (λ (k : Group). k.version) (tails _ _ _ _ h).0

pub encoding_is_spelling : (v : Version) (bytes : List ℕ) (c : Certificate) → Encodes v bytes c → bytes ≡ spelling v c
unfolding start
encoding_is_spelling v bytes c h = run_bytes v (fields_of c) start h.end bytes None refl h.run

pub one_encoding : (v w : Version) (a b x y : List ℕ) (c d : Certificate) → Encodes v a c → Encodes w b d → a ++ x ≡ b ++ y → (v ≡ w) × (fields_of c ≡ fields_of d) × (x ≡ y)
one_encoding v w a b x y c d h k e =
    let r = one_run (map (group_in v) (fields_of c)) (map (group_in w) (fields_of d)) start h.end k.end a b x y h.run k.run h.over k.over e in
    (same_version v w c d r.0, same_fields v w (fields_of c) (fields_of d) r.0, r.1)
