-- What groups spell one behind another has one reading.
use Rattle.std.proofs.Common.{◌≡◌, ℕ, ◌+◌, ◌-◌, ◌*◌, ◌/◌, ◌==◌, if◌then◌else◌, Bool, true, false, List, [], ◌∷◌, ◌++◌, map, Option, refl, sym, ap, ◌∙◌, subst, arith}
use Rattle.std.proofs.lemmas.List.{append_assoc}
use Rattle.gap_base.specs.declared.witness.Witness.{Witness}
use Rattle.gap_cert.specs.declared.field.Version.{Version}
use Rattle.gap_cert.specs.declared.field.Field.{Field}
use Rattle.gap_cert.specs.declared.field.Field.TheVariants as field
use Rattle.gap_cert.specs.declared.field.Group.{Group}
use Rattle.gap_cert.specs.declared.context.Phase.{Phase}
use Rattle.gap_cert.specs.declared.context.Phase.TheVariants as phase
use Rattle.gap_cert.specs.declared.context.Context.{Context}
use Rattle.gap_cert.specs.Formats.{Spells}
use Rattle.gap_cert.specs.Fields.{bytes_of}
use Rattle.gap_cert.specs.Contexts.{format_of, after, behind_field, behind_leaf, steps, enters, Runs}
use Rattle.gap_cert.specs.Certificates.{spelled, last_behind, group_in}
use Rattle.gap_cert.proofs.FormatLaws.{one_group}
use Rattle.gap_cert.proofs.GrammarLaws.{bytes_are}

-- nothing comes behind the end mark
over_nothing : (c : Context) (g : Group) (bytes : List ℕ) → Spells (format_of c phase.Over) g bytes → ⊥
unfolding Spells
over_nothing c g bytes k = omega arith

over_none : (c : Context) (g : Group) (bytes : List ℕ) (p : Phase) → p ≡ phase.Over → Spells (format_of c p) g bytes → ⊥
over_none c g bytes p e h = over_nothing c g bytes (subst (λ (q : Phase). Spells (format_of c q) g bytes) e h)

-- the two ends of what two runs spell
ends : (a b x y : List ℕ) → a ≡ [] → b ≡ [] → a ++ x ≡ b ++ y → x ≡ y
ends a b x y p q e = sym (ap (λ (l : List ℕ). l ++ x) p) ∙ e ∙ ap (λ (l : List ℕ). l ++ y) q

fronts : (a f m b g n x y : List ℕ) → a ≡ f ++ m → b ≡ g ++ n → a ++ x ≡ b ++ y → f ++ (m ++ x) ≡ g ++ (n ++ y)
fronts a f m b g n x y p q e = sym (ap (λ (l : List ℕ). l ++ x) p ∙ append_assoc f m x) ∙ e ∙ ap (λ (l : List ℕ). l ++ y) q ∙ append_assoc g n y

-- two runs to the end mark over bytes with one beginning are one
pub one_run : (gs hs : List Group) (c end fin : Context) (a b x y : List ℕ) → Runs c gs end a → Runs c hs fin b → end.phase ≡ phase.Over → fin.phase ≡ phase.Over → a ++ x ≡ b ++ y → (gs ≡ hs) × (x ≡ y)
unfolding Runs
one_run [] [] c end fin a b x y p q o u e = (refl, ends a b x y p.1 q.1 e)
one_run [] (h ∷ hs) c end fin a b x y p q o u e = absurd (over_none c h q.0 c.phase (ap (λ (k : Context). k.phase) p.0 ∙ o) q.2)
one_run (g ∷ gs) [] c end fin a b x y p q o u e = absurd (over_none c g p.0 c.phase (ap (λ (k : Context). k.phase) q.0 ∙ u) p.2)
one_run (g ∷ gs) (h ∷ hs) c end fin a b x y p q o u e =
    let one = one_group (format_of c c.phase) g h p.0 q.0 (p.1 ++ x) (q.1 ++ y) p.2 q.2 (fronts a p.0 p.1 b q.0 q.1 x y p.4 q.4 e) in
    let run : Runs (after c g) hs fin q.1 = subst (λ (k : Group). Runs (after c k) hs fin q.1) (sym one.0) q.3 in
    let more = one_run gs hs (after c g) end fin p.1 q.1 x y p.3 run o u one.1 in
    (ap (λ (k : Group). k ∷ gs) one.0 ∙ ap (λ (l : List Group). h ∷ l) more.0, more.1)

last_if : (b : Bool) (c d : Context) (last : Option Witness) → c.last ≡ last → d.last ≡ last → (if b then c else d).last ≡ last
last_if true c d last e f = e
last_if false c d last e f = f

last_of_leaf : (c : Context) → (behind_leaf c).last ≡ c.last
last_of_leaf c = last_if (c.left == 1) (if c.sections == 0 then enters c phase.End 1 else record (enters c phase.Section 1) { sections = c.sections - 1 }) (record c { left = c.left - 1 }) c.last (last_if (c.sections == 0) (enters c phase.End 1) (record (enters c phase.Section 1) { sections = c.sections - 1 }) c.last refl refl) refl

last_of_steps : (c : Context) (p : Phase) (n : ℕ) → (steps c p n).last ≡ c.last
last_of_steps c p n = last_if (c.left == 1) (enters c p n) (record c { left = c.left - 1 }) c.last refl refl

-- the witness of the last tangent leaf behind an item
pub last_is : (c : Context) (f : Field) → (behind_field c f).last ≡ last_behind c.last f
unfolding behind_field
last_is c (field.Head n lots held held_most turnover nodes) = refl
last_is c (field.Asset mean dev least greatest present) = last_of_steps c phase.Correlations ((c.n * (c.n - 1)) / 2)
last_is c (field.Correlation rho) = last_of_steps c phase.Factor ((c.n * (c.n + 1)) / 2)
last_is c (field.FactorEntry r) = last_of_steps c phase.Diagonal c.n
last_is c (field.ShiftEntry d) = last_of_steps c phase.Sections 1
last_is c (field.Sections count) = refl
last_is c (field.SectionStart p q outcome) = refl
last_is c (field.Portfolio x) = refl
last_is c (field.Objective value) = last_if (c.outcome == 3) (enters c phase.Bound 1) (enters c phase.Overall 1) c.last refl refl
last_is c (field.Bound value) = refl
last_is c (field.Overall w) = refl
last_is c field.CountLeaf = last_of_leaf c
last_is c (field.VoidLeaf alpha tau) = last_of_leaf c
last_is c (field.TangentLeaf w) = refl
last_is c (field.Split split) = refl
last_is c field.End = refl

-- what a run spells is the bytes of its items
pub run_bytes : (version : Version) (fields : List Field) (c end : Context) (bytes : List ℕ) (last : Option Witness) → c.last ≡ last → Runs c (map (group_in version) fields) end bytes → bytes ≡ spelled version last fields
unfolding Runs spelled
run_bytes version [] c end bytes last e h = h.1
run_bytes version (f ∷ fields) c end bytes last e h =
    let front = bytes_are c (group_in version f) h.0 h.2 ∙ ap (λ (l : Option Witness). bytes_of version l f) e in
    let more = run_bytes version fields (after c (group_in version f)) end h.1 (last_behind last f) (last_is (record c { version = version }) f ∙ ap (λ (l : Option Witness). last_behind l f) e) h.3 in
    h.4 ∙ ap (λ (l : List ℕ). l ++ h.1) front ∙ ap (λ (l : List ℕ). bytes_of version last f ++ l) more
