-- Bytes are accepted exactly where their items are right to the end mark, and then no fault is in them.
use Rattle.std.proofs.Common.{◌≡◌, ℕ, ◌⊎◌, inl, inr, true, List, [], ◌∷◌, ◌++◌, map, All, Option, Some, None, Result, Ok, Err, refl, sym, ap, ◌∙◌, subst}
use Rattle.std.proofs.lemmas.List.{append-nil}
use Rattle.gap_model.specs.declared.cert_fault.CertFault.{CertFault}
use Rattle.gap_model.specs.Outcomes.{IsToldRight}
use Rattle.gap_cert.specs.declared.field.Version.{Version}
use Rattle.gap_cert.specs.declared.field.Field.{Field}
use Rattle.gap_cert.specs.declared.field.Group.{Group}
use Rattle.gap_cert.specs.declared.field.Item.{Item}
use Rattle.gap_cert.specs.declared.context.Phase.TheVariants as phase
use Rattle.gap_cert.specs.declared.context.Context.{Context}
use Rattle.gap_cert.specs.Contexts.{start, Runs}
use Rattle.gap_cert.specs.Certificates.{CertHead, Certificate, fields_of, group_in}
use Rattle.gap_scan.specs.Scans.{Scan, next_of}
use Rattle.gap_scan.proofs.MoreLaws.{none_spelled}
use Rattle.gap_valid.specs.Heads.{instance_in}
use Rattle.gap_valid.specs.Verdicts.{VerdictValue, told_in, verdict_of}
use Rattle.gap_valid.proofs.BoundLaws.{told_right}
use Rattle.gap_judge.specs.Progress.{Progress, fresh_progress, progress_behind}
use Rattle.gap_judge.specs.Faults.{IsItemRight, IsItemFault}
use Rattle.gap_check.specs.Histories.{Judged, HasJudged, IsReadTo, IsFaultIn}
use Rattle.gap_check.specs.Accepting.{Accepted}
use Rattle.gap_check.proofs.StageLaws.{starts_at}
use Rattle.gap_check.proofs.Sound.{IsRun, run_on, fresh_so_far, IsWhole, whole_at}
use Rattle.gap_check.proofs.Follows.{follow, gives, gives_none, none_left}
use Rattle.gap_check.proofs.Complete.{Judges, WholeTells, whole_tells}
use Rattle.gap_check.proofs.Faulty.{fault_apart}

-- what is told where the end mark came
abbrev pub verdict_at : Progress → VerdictValue
verdict_at p = record { instance = instance_in p.head; nodes = p.head.nodes; sections = p.told }

-- ---- accepted

read_run : (fed : List ℕ) (s : Scan) (p : Progress) (h : HasJudged fed s p) → IsRun s.context p h.groups
read_run fed s p h = run_on h.groups start s.context fresh_progress p [] h.scanned.bytes starts_at fresh_so_far h.scanned.run h.judged

verdict_by : (p : Progress) (c : Certificate) → c.head ≡ p.head → p.told ≡ map told_in c.sections → verdict_at p ≡ verdict_of c
verdict_by p c e t = rw t (ap (λ (h : CertHead). record { instance = instance_in h; nodes = h.nodes; sections = map told_in c.sections }) (sym e))

accepted_by : (fed : List ℕ) (s : Scan) (p : Progress) (h : HasJudged fed s p) → s.rest ≡ [] → s.context.phase ≡ phase.Over → IsWhole s.context.version p h.groups → Accepted fed (verdict_at p)
accepted_by fed s p h z o w = record {
  version = s.context.version;
  certificate = w.certificate;
  encodes = record {
    end = s.context;
    run = subst (λ (l : List ℕ). Runs start (map (group_in s.context.version) (fields_of w.certificate)) s.context l) (sym (h.scanned.fed_is ∙ ap (λ (l : List ℕ). h.scanned.bytes ++ l) z ∙ append-nil h.scanned.bytes))
        (subst (λ (gs : List Group). Runs start gs s.context h.scanned.bytes) w.groups_are h.scanned.run);
    over = o;
  };
  valid = w.valid;
  verdict_is = verdict_by p w.certificate w.head_is w.told_is;
}

pub accepted : (fed : List ℕ) (s : Scan) (p : Progress) → IsReadTo s p fed → p.ended ≡ true → Accepted fed (verdict_at p)
accepted fed s p h e =
    let r = read_run fed s p h.items in
    let w = whole_at s.context.phase s.context p h.items.groups r.at.stage r.at.ends r.so_far e in
    accepted_by fed s p h.items (none_left s h.items.scanned.sound w.0 h.done) w.0 w.1

pub bounds : (fed : List ℕ) (v : VerdictValue) → Accepted fed v → All (IsToldRight v.instance) v.sections
bounds fed v a = rw a.verdict_is (told_right a.certificate a.valid)

-- ---- judged items of a valid certificate

judged_of : (v : Version) (fields : List Field) (p q : Progress) → Judges p fields q → Judged p (map (group_in v) fields) q
unfolding Judges Judged
judged_of v [] p q h = h
judged_of v (f ∷ fields) p q h = (h.0, judged_of v fields (progress_behind p f) q h.1)

-- the same items lead to one progress, and more lead on from there
pub judged_on : (xs ys : List Group) (p m q : Progress) → Judged p xs m → Judged p (xs ++ ys) q → Judged m ys q
unfolding Judged
judged_on [] ys p m q h k = subst (λ (r : Progress). Judged r ys q) h k
judged_on (x ∷ xs) ys p m q h k = judged_on xs ys (progress_behind p x.field) m q h.1 k.1

-- what is left of the encoding behind the items so far
record Left (s : Scan) (p : Progress) (c : Certificate) : Type 0 where
  rest : List Group
  end : Context
  run : Runs s.context rest end s.rest
  over : end.phase ≡ phase.Over
  tells : WholeTells c
  judged : Judged p rest tells.end

left_of : (fed : List ℕ) (s : Scan) (p : Progress) (v : VerdictValue) → HasJudged fed s p → (a : Accepted fed v) → Left s p a.certificate
left_of fed s p v h a =
    let r = follow h.groups (map (group_in a.version) (fields_of a.certificate)) start s.context a.encodes.end h.scanned.bytes fed s.rest h.scanned.run a.encodes.run a.encodes.over (sym h.scanned.fed_is) in
    let t = whole_tells a.certificate a.valid in
    let all = judged_of a.version (fields_of a.certificate) fresh_progress t.end t.judges in
    record {
      rest = r.rest;
      end = a.encodes.end;
      run = r.run;
      over = a.encodes.over;
      tells = t;
      judged = judged_on h.groups r.rest fresh_progress p t.end h.judged (subst (λ (gs : List Group). Judged fresh_progress gs t.end) r.groups_are all);
    }

-- bytes with all items right that encode a valid certificate end with it
pub record Completes (p : Progress) (v : VerdictValue) : Type 0 where
  pub ended_is : p.ended ≡ true
  pub verdict_is : v ≡ verdict_at p

completes_by : (s : Scan) (p : Progress) (c : Certificate) (v : VerdictValue) → v ≡ verdict_of c → s.fault ≡ None → (next_of s).answer ≡ Ok None → (l : Left s p c) → (gs : List Group) → l.rest ≡ gs → Completes p v
unfolding Runs Judged
completes_by s p c v e sound n l [] z =
    let j : Judged p [] l.tells.end = subst (λ (gs : List Group). Judged p gs l.tells.end) z l.judged in
    record {
      ended_is = ap (λ (q : Progress). q.ended) j ∙ l.tells.ended_is;
      verdict_is = e ∙ sym (verdict_by p c (sym l.tells.head_is ∙ sym (ap (λ (q : Progress). q.head) j)) (ap (λ (q : Progress). q.told) j ∙ l.tells.told_is));
    }
completes_by s p c v e sound n l (g ∷ gs) z =
    let r : Runs s.context (g ∷ gs) l.end s.rest = subst (λ (gs : List Group). Runs s.context gs l.end s.rest) z l.run in
    absurd (none_spelled s g r.0 r.1 n r.2 r.4)

pub completes : (fed : List ℕ) (s : Scan) (p : Progress) (v : VerdictValue) → IsReadTo s p fed → Accepted fed v → Completes p v
completes fed s p v h a = let l = left_of fed s p v h.items a in completes_by s p a.certificate v a.verdict_is h.items.scanned.sound h.done l l.rest refl

-- ---- no fault

same_item : (a b : Item) → ◌≡◌ {A = Result (Option Item) CertFault} (Ok (Some a)) (Ok (Some b)) → a ≡ b
same_item a b e = cc

faultless_by : (s : Scan) (p : Progress) (c : Certificate) (f : CertFault) → s.fault ≡ None → (l : Left s p c) → (gs : List Group) → l.rest ≡ gs →
    ((next_of s).answer ≡ Err f) ⊎ ((item : Item) × ((next_of s).answer ≡ Ok (Some item)) × IsItemFault p item.field item.place (next_of s).stands.place f) → ⊥
unfolding Runs Judged
faultless_by s p c f sound l [] z w =
    let r : Runs s.context [] l.end s.rest = subst (λ (gs : List Group). Runs s.context gs l.end s.rest) z l.run in
    clash w (gives_none s sound (ap (λ (d : Context). d.phase) r.0 ∙ l.over) r.1)
  where
    clash : ((next_of s).answer ≡ Err f) ⊎ ((item : Item) × ((next_of s).answer ≡ Ok (Some item)) × IsItemFault p item.field item.place (next_of s).stands.place f) → (next_of s).answer ≡ Ok None → ⊥
    clash (inl e) n = let a = sym e ∙ n in cc
    clash (inr e) n = let a = sym e.1 ∙ n in cc
faultless_by s p c f sound l (g ∷ gs) z w =
    let r : Runs s.context (g ∷ gs) l.end s.rest = subst (λ (gs : List Group). Runs s.context gs l.end s.rest) z l.run in
    let j : Judged p (g ∷ gs) l.tells.end = subst (λ (gs : List Group). Judged p gs l.tells.end) z l.judged in
    clash w (gives s g r.0 r.1 sound r.2 r.4) j.0
  where
    clash : ((next_of s).answer ≡ Err f) ⊎ ((item : Item) × ((next_of s).answer ≡ Ok (Some item)) × IsItemFault p item.field item.place (next_of s).stands.place f) → (next_of s).answer ≡ Ok (Some (record { place = s.place; field = g.field })) → IsItemRight p g.field → ⊥
    clash (inl e) n i = let a = sym e ∙ n in cc
    clash (inr e) n i = fault_apart p e.0.field e.0.place (next_of s).stands.place f e.2 (subst (IsItemRight p) (ap (λ (k : Item). k.field) (sym (same_item e.0 (record { place = s.place; field = g.field }) (sym e.1 ∙ n)))) i)

pub faultless : (fed : List ℕ) (f : CertFault) (v : VerdictValue) → IsFaultIn fed f → Accepted fed v → ⊥
faultless fed f v w a = let l = left_of fed w.scan w.progress v w.items a in faultless_by w.scan w.progress a.certificate f w.items.scanned.sound l l.rest refl w.found
