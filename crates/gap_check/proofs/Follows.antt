-- Scanned items are those that an encoding begins with.
use Rattle.std.proofs.Common.{◌≡◌, ℕ, ◌+◌, ◌≤◌, take, List, [], ◌∷◌, ◌++◌, length, Option, Some, None, Result, Ok, Err, refl, sym, ap, ◌∙◌, subst, arith}
use Rattle.std.proofs.lemmas.List.{append_assoc}
use Rattle.gap_model.specs.declared.cert_fault.CertFault.{CertFault}
use Rattle.gap_cert.specs.declared.field.Group.{Group}
use Rattle.gap_cert.specs.declared.field.Field.{Field}
use Rattle.gap_cert.specs.declared.field.Field.TheVariants as field
use Rattle.gap_cert.specs.declared.field.Item.{Item}
use Rattle.gap_cert.specs.declared.field.Stop.{Stop}
use Rattle.gap_cert.specs.declared.field.Stop.TheVariants.{More, Fault}
use Rattle.gap_cert.specs.declared.context.Phase.{Phase}
use Rattle.gap_cert.specs.declared.context.Phase.TheVariants as phase
use Rattle.gap_cert.specs.declared.context.Context.{Context}
use Rattle.gap_model.specs.declared.cert_fault.CertKind.TheVariants.{Trail}
use Rattle.gap_cert.specs.Bytes.{value_of}
use Rattle.gap_cert.specs.Formats.{says, Spot, Spells, read, natural_at, ◌>>=◌}
use Rattle.gap_cert.specs.Contexts.{format_of, after, Runs}
use Rattle.gap_cert.proofs.FormatLaws.{one_group, reads, spot, natural_wrong}
use Rattle.gap_scan.specs.Scans.{Scan, next_of, next_by, answered}
use Rattle.gap_scan.proofs.ScanLaws.{spot_at}

over_nothing : (c : Context) (g : Group) (bytes : List ℕ) → Spells (format_of c phase.Over) g bytes → ⊥
unfolding Spells
over_nothing c g bytes k = omega arith

over_none : (c : Context) (g : Group) (bytes : List ℕ) (p : Phase) → p ≡ phase.Over → Spells (format_of c p) g bytes → ⊥
over_none c g bytes p e h = over_nothing c g bytes (subst (λ (q : Phase). Spells (format_of c q) g bytes) e h)

-- what is left of a run that goes to the end mark, behind another that begins where it does
pub record Rest (gs groups : List Group) (d end : Context) (bytes : List ℕ) : Type 0 where
  pub rest : List Group
  pub groups_are : gs ≡ groups ++ rest
  pub run : Runs d rest end bytes

pub follow : (groups gs : List Group) (c d end : Context) (a b x : List ℕ) → Runs c groups d a → Runs c gs end b → end.phase ≡ phase.Over → a ++ x ≡ b → Rest gs groups d end x
unfolding Runs
follow [] gs c d end a b x p q o e = record {
  rest = gs;
  groups_are = refl;
  run = subst (λ (k : Context). Runs k gs end x) p.0 (subst (Runs c gs end) (sym e ∙ ap (λ (l : List ℕ). l ++ x) p.1) q);
}
follow (g ∷ groups) [] c d end a b x p q o e = absurd (over_none c g p.0 c.phase (ap (λ (k : Context). k.phase) q.0 ∙ o) p.2)
follow (g ∷ groups) (h ∷ gs) c d end a b x p q o e =
    let one = one_group (format_of c c.phase) g h p.0 q.0 (p.1 ++ x) q.1 p.2 q.2 (sym (append_assoc p.0 p.1 x) ∙ sym (ap (λ (l : List ℕ). l ++ x) p.4) ∙ e ∙ q.4) in
    let run : Runs (after c g) gs end q.1 = subst (λ (k : Group). Runs (after c k) gs end q.1) (sym one.0) q.3 in
    let more = follow groups gs (after c g) d end p.1 q.1 x p.3 run o one.1 in
    record { rest = more.rest; groups_are = ap (λ (k : Group). k ∷ gs) (sym one.0) ∙ ap (λ (l : List Group). g ∷ l) more.groups_are; run = more.run }

-- ---- what a scanner answers before the next group of an encoding, and behind its last

abbrev given : ℕ → Field → Result (Option Item) CertFault
given place f = Ok (Some (record { place = place; field = f }))

pub gives : (s : Scan) (g : Group) (front more : List ℕ) → s.fault ≡ None → Spells (format_of s.context s.context.phase) g front → s.rest ≡ front ++ more → (next_of s).answer ≡ given s.place g.field
unfolding next_of
gives s g front more sound h e =
    let r = reads (format_of s.context s.context.phase) g front more s.place (s.place + length front) h refl in
    let q : read (format_of s.context s.context.phase) (spot_at s.place s.rest) ≡ Ok (g, spot (s.place + length front) more) = ap (λ (l : List ℕ). read (format_of s.context s.context.phase) (spot_at s.place l)) e ∙ r in
    ap (λ (f : Option CertFault). (next_by s f).answer) sound ∙ ap (λ (a : Result (Group × Spot) Stop). (answered s a).answer) q

at_end : (c : Context) (place : ℕ) → read (format_of c phase.Over) (spot_at place []) ≡ Err More
unfolding natural_at
at_end c place = refl

at_end_of : (c : Context) (p : Phase) (place : ℕ) (rest : List ℕ) → p ≡ phase.Over → rest ≡ [] → read (format_of c p) (spot_at place rest) ≡ Err More
at_end_of c p place rest e z = rw e (rw z (at_end c place))

pub gives_none : (s : Scan) → s.fault ≡ None → s.context.phase ≡ phase.Over → s.rest ≡ [] → (next_of s).answer ≡ Ok None
unfolding next_of
gives_none s sound o z = ap (λ (f : Option CertFault). (next_by s f).answer) sound ∙ ap (λ (a : Result (Group × Spot) Stop). (answered s a).answer) (at_end_of s.context s.context.phase s.place s.rest o z)

never : (v : ℕ) → 1 ≤ v → v ≤ 0 → ⊥
never v l h = omega (arith, l, h)

-- a byte behind the end mark is at fault
trail : (c : Context) (place b : ℕ) (rest : List ℕ) → read (format_of c phase.Over) (spot_at place (b ∷ rest)) ≡ Err (Fault (record { place = place; kind = Trail }))
trail c place b rest = ap (λ (m : Result (ℕ × Spot) Stop). m >>= λ r. read (says (record { version = c.version; field = field.End })) r.1) (natural_wrong 1 Trail 1 0 (spot_at place (b ∷ rest)) (value_of (take 1 (b ∷ rest))) (omega arith) refl (never (value_of (take 1 (b ∷ rest)))))

trailed : (s : Scan) (r : Result (Group × Spot) Stop) → r ≡ Err (Fault (record { place = s.place; kind = Trail })) → (answered s r).answer ≡ Ok None → ⊥
trailed s r e n = let a = ap (λ (q : Result (Group × Spot) Stop). (answered s q).answer) e in cc

-- behind the end mark nothing more is asked for where nothing is left
pub none_left : (s : Scan) → s.fault ≡ None → s.context.phase ≡ phase.Over → (next_of s).answer ≡ Ok None → s.rest ≡ []
unfolding next_of
none_left s sound o e = by s.rest refl (sym (ap (λ (p : Phase). read (format_of s.context p) (spot_at s.place s.rest)) o))
  where
    asked : (answered s (read (format_of s.context s.context.phase) (spot_at s.place s.rest))).answer ≡ Ok None
    asked = sym (ap (λ (f : Option CertFault). (next_by s f).answer) sound) ∙ e

    by : (rest : List ℕ) → s.rest ≡ rest → read (format_of s.context phase.Over) (spot_at s.place s.rest) ≡ read (format_of s.context s.context.phase) (spot_at s.place s.rest) → s.rest ≡ []
    by [] z same = z
    by (b ∷ rest) z same = absurd (trailed s (read (format_of s.context s.context.phase) (spot_at s.place s.rest)) (sym same ∙ ap (λ (l : List ℕ). read (format_of s.context phase.Over) (spot_at s.place l)) z ∙ trail s.context s.place b rest) asked)
