-- Items one behind another lead from one place in a certificate to another.
use Rattle.std.proofs.Common.{◌≡◌, ℕ, suc, ◌-◌, ◌<◌, ◌==◌, if◌then◌else◌, Bool, true, false, List, [], ◌∷◌, ◌++◌, map, length, All, Option, None, refl, sym, ap, ◌∙◌, subst, arith}
use Rattle.std.proofs.lemmas.Bool.Decides.{nat_tests}
use Rattle.std.proofs.lemmas.List.Elements.{All-head, All-tail}
use Rattle.gap_base.specs.declared.witness.Witness.{Witness}
use Rattle.gap_cert.specs.declared.field.Version.{Version}
use Rattle.gap_cert.specs.declared.field.Field.{Field}
use Rattle.gap_cert.specs.declared.context.Phase.{Phase}
use Rattle.gap_cert.specs.declared.context.Context.{Context}
use Rattle.gap_cert.specs.Contexts.{format_of, after, steps, enters, Runs}
use Rattle.gap_cert.specs.Certificates.{CertHead, group_in}
use Rattle.gap_valid.proofs.Items.{IsSpelled}

-- some bytes spell items one behind another from one context to another
pub record Reaches (v : Version) (c : Context) (fields : List Field) (d : Context) : Type 0 where
  pub bytes : List ℕ
  pub runs : Runs c (map (group_in v) fields) d bytes

pub stays : (v : Version) (c : Context) → Reaches v c [] c
unfolding Runs
stays v c = record { bytes = []; runs = (refl, refl) }

pub onward : (v : Version) (c d : Context) (f : Field) (fields : List Field) → IsSpelled (format_of c c.phase) (group_in v f) → Reaches v (after c (group_in v f)) fields d → Reaches v c (f ∷ fields) d
unfolding Runs
onward v c d f fields s r = record { bytes = s.bytes ++ r.bytes; runs = (s.bytes, r.bytes, s.spells, r.runs, refl) }

-- the same where the context behind the item is said otherwise
pub step_to : (v : Version) (c e d : Context) (f : Field) (fields : List Field) → IsSpelled (format_of c c.phase) (group_in v f) → after c (group_in v f) ≡ e → Reaches v e fields d → Reaches v c (f ∷ fields) d
step_to v c e d f fields s q r = onward v c d f fields s (subst (λ (k : Context). Reaches v k fields d) (sym q) r)

pub both_reach : (v : Version) (gs hs : List Field) (c d e : Context) → Reaches v c gs d → Reaches v d hs e → Reaches v c (gs ++ hs) e
unfolding Runs
both_reach v [] hs c d e r q = subst (λ (k : Context). Reaches v k hs e) (sym r.runs.0) q
both_reach v (g ∷ gs) hs c d e r q =
    let more = both_reach v gs hs (after c (group_in v g)) d e (record { bytes = r.runs.1; runs = r.runs.3 }) q in
    onward v c e g (gs ++ hs) (record { bytes = r.runs.0; spells = r.runs.2 }) more

-- a place behind the head's first numbers
abbrev pub at : Version → CertHead → Phase → (left sections outcome : ℕ) → Option Witness → Context
at v h p left sections outcome last = record {
  version = v;
  n = h.n;
  lots = h.lots;
  held = h.held;
  held_most = h.held_most;
  turnover = h.turnover;
  phase = p;
  left = left;
  sections = sections;
  outcome = outcome;
  last = last;
}

-- ---- items of one kind, one behind another
pub record IsItem (v : Version) (h : CertHead) (p q : Phase) (count : ℕ) (f : Field) : Type 0 where
  pub spelled : (left : ℕ) → IsSpelled (format_of (at v h p left 0 1 None) p) (group_in v f)
  pub goes : (left : ℕ) → after (at v h p left 0 1 None) (group_in v f) ≡ steps (at v h p left 0 1 None) q count

abbrev pub Every : (Field → Type 0) → List Field → Type 0
Every P [] = Unit {0}
Every P (f ∷ fields) = P f × Every P fields

pub every_of : {A : Type 0} (P : A → Type 0) (Q : Field → Type 0) (f : A → Field) (xs : List A) → ((a : A) → P a → Q (f a)) → All P xs → Every Q (map f xs)
every_of P Q f [] g h = tt
every_of P Q f (x ∷ xs) g h = (g x (All-head P x xs h), every_of P Q f xs g (All-tail P x xs h))

pub if_yes : {A : Type 0} (b : Bool) (s t : A) → b ≡ true → (if b then s else t) ≡ s
if_yes b s t e = rw e refl

pub if_no : {A : Type 0} (b : Bool) (s t : A) → b ≡ false → (if b then s else t) ≡ t
if_no b s t e = rw e refl

pub not_one : (n : ℕ) → (suc (suc n) == 1) ≡ false
not_one n = grind (arith, nat_tests)

pub one_less : (n : ℕ) → suc (suc n) - 1 ≡ suc n
one_less n = omega arith

steps_more : (c : Context) (q : Phase) (count k : ℕ) → c.left ≡ suc (suc k) → steps c q count ≡ record c { left = suc k }
steps_more c q count k e =
    if_no (c.left == 1) (enters c q count) (record c { left = c.left - 1 }) (ap (λ (n : ℕ). n == 1) e ∙ not_one k)
    ∙ ap (λ (n : ℕ). with_left c n) (ap (λ (n : ℕ). n - 1) e ∙ one_less k)
  where
    with_left : Context → ℕ → Context
    with_left c n = record c { left = n }

pub items_reach : (v : Version) (h : CertHead) (p q : Phase) (count : ℕ) (fields : List Field) → 0 < length fields → Every (IsItem v h p q count) fields → Reaches v (at v h p (length fields) 0 1 None) fields (at v h q count 0 1 None)
items_reach v h p q count [] l i = absurd (omega arith)
items_reach v h p q count (f ∷ []) l i = step_to v (at v h p 1 0 1 None) (at v h q count 0 1 None) (at v h q count 0 1 None) f [] (i.0.spelled 1) (i.0.goes 1) (stays v (at v h q count 0 1 None))
items_reach v h p q count (f ∷ g ∷ fields) l i =
    let left = suc (suc (length fields)) in
    step_to v (at v h p left 0 1 None) (at v h p (suc (length fields)) 0 1 None) (at v h q count 0 1 None) f (g ∷ fields) (i.0.spelled left)
    (i.0.goes left ∙ steps_more (at v h p left 0 1 None) q count (length fields) refl)
    (items_reach v h p q count (g ∷ fields) (omega arith) i.1)

pub items_reach_by : (v : Version) (h : CertHead) (p q : Phase) (left count : ℕ) (fields : List Field) → length fields ≡ left → 0 < left → Every (IsItem v h p q count) fields → Reaches v (at v h p left 0 1 None) fields (at v h q count 0 1 None)
items_reach_by v h p q left count fields e l i = subst (λ (k : ℕ). Reaches v (at v h p k 0 1 None) fields (at v h q count 0 1 None)) e (items_reach v h p q count fields (omega arith) i)
