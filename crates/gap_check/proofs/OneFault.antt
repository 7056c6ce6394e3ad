-- Bytes have one fault, or are accepted, or are read to their end: never two of these.
use Rattle.std.proofs.Common.{◌≡◌, ℕ, ◌+◌, ◌⊎◌, inl, inr, true, false, List, [], ◌∷◌, ◌++◌, length, Option, Some, None, Result, Ok, Err, refl, sym, ap, ◌∙◌, subst, arith}
use Rattle.std.proofs.lemmas.List.{append_assoc, length-append}
use Rattle.gap_model.specs.declared.cert_fault.CertFault.{CertFault}
use Rattle.gap_cert.specs.declared.context.Context.{Context}
use Rattle.gap_cert.specs.declared.field.Group.{Group}
use Rattle.gap_cert.specs.declared.field.Item.{Item}
use Rattle.gap_cert.specs.Formats.{Spells}
use Rattle.gap_cert.specs.Contexts.{format_of, after, start, Runs}
use Rattle.gap_cert.proofs.FormatLaws.{one_group}
use Rattle.gap_scan.specs.Scans.{Scan, HasScanned, next_of}
use Rattle.gap_model.specs.declared.cert_fault.CertKind.TheVariants as kind
use Rattle.gap_judge.specs.declared.stop.CertStop.{CertStop}
use Rattle.gap_judge.specs.declared.stop.CertStop.TheVariants as stop
use Rattle.gap_judge.specs.Progress.{Progress, fresh_progress, progress_behind}
use Rattle.gap_judge.specs.Faults.{IsItemRight, IsItemFault}
use Rattle.gap_valid.specs.Verdicts.{VerdictValue}
use Rattle.gap_check.specs.Histories.{Judged, HasJudged, IsReadTo, IsFaultIn, IsFaultOf}
use Rattle.gap_check.specs.Accepting.{Accepted}
use Rattle.gap_check.specs.States.{State, HasRead, answer_of}
use Rattle.gap_check.specs.Going.{IsGoing, Reads, standing, FitsChecker}
use Rattle.gap_check.proofs.Follows.{gives}
use Rattle.gap_check.proofs.Faulty.{fault_apart}
use Rattle.gap_check.proofs.FaultOnce.{fault_once}
use Rattle.gap_check.proofs.AcceptLaws.{completes, faultless, judged_on, verdict_at}
use Rattle.gap_check.proofs.CheckerLaws.{short_fault, whole_yes}

-- ---- two runs over the same bytes

-- two runs that end at one place
record AreOne (d e : Context) (x y : List ℕ) (gs hs : List Group) : Type 0 where
  context_is : d ≡ e
  rest_is : x ≡ y
  groups_are : gs ≡ hs

-- behind a run there is another group, which a longer one has next
record IsBefore (d : Context) (x : List ℕ) (gs hs : List Group) : Type 0 where
  group : Group
  front : List ℕ
  behind : List ℕ
  more : List Group
  spells : Spells (format_of d d.phase) group front
  rest_is : x ≡ front ++ behind
  groups_are : hs ≡ gs ++ group ∷ more

abbrev Meet : (d e : Context) (x y : List ℕ) (gs hs : List Group) → Type 0
Meet d e x y gs hs = AreOne d e x y gs hs ⊎ (IsBefore d x gs hs ⊎ IsBefore e y hs gs)

-- with one group more before both
meet_behind : (g h : Group) (d e : Context) (x y : List ℕ) (gs hs : List Group) → g ≡ h → Meet d e x y gs hs → Meet d e x y (g ∷ gs) (h ∷ hs)
meet_behind g h d e x y gs hs k (inl m) = inl (record { context_is = m.context_is; rest_is = m.rest_is; groups_are = ap (λ (z : Group). z ∷ gs) k ∙ ap (λ (l : List Group). h ∷ l) m.groups_are })
meet_behind g h d e x y gs hs k (inr (inl m)) = inr (inl (record {
  group = m.group;
  front = m.front;
  behind = m.behind;
  more = m.more;
  spells = m.spells;
  rest_is = m.rest_is;
  groups_are = ap (λ (z : Group). z ∷ hs) (sym k) ∙ ap (λ (l : List Group). g ∷ l) m.groups_are;
}))
meet_behind g h d e x y gs hs k (inr (inr m)) = inr (inr (record {
  group = m.group;
  front = m.front;
  behind = m.behind;
  more = m.more;
  spells = m.spells;
  rest_is = m.rest_is;
  groups_are = ap (λ (z : Group). z ∷ gs) k ∙ ap (λ (l : List Group). h ∷ l) m.groups_are;
}))

-- what is left behind a run of no groups is what the other one spells
left : (a b f m x y : List ℕ) → a ≡ [] → b ≡ f ++ m → a ++ x ≡ b ++ y → x ≡ f ++ (m ++ y)
left a b f m x y p q e = sym (ap (λ (l : List ℕ). l ++ x) p) ∙ e ∙ ap (λ (l : List ℕ). l ++ y) q ∙ append_assoc f m y

meet : (gs hs : List Group) (c d e : Context) (a b x y : List ℕ) → Runs c gs d a → Runs c hs e b → a ++ x ≡ b ++ y → Meet d e x y gs hs
unfolding Runs
meet [] [] c d e a b x y p q k =
    inl (record { context_is = sym p.0 ∙ q.0; rest_is = left a b [] [] x y p.1 q.1 k; groups_are = refl })
meet [] (h ∷ hs) c d e a b x y p q k = inr (inl (record {
  group = h;
  front = q.0;
  behind = q.1 ++ y;
  more = hs;
  spells = subst (λ (z : Context). Spells (format_of z z.phase) h q.0) p.0 q.2;
  rest_is = left a b q.0 q.1 x y p.1 q.4 k;
  groups_are = refl;
}))
meet (g ∷ gs) [] c d e a b x y p q k = inr (inr (record {
  group = g;
  front = p.0;
  behind = p.1 ++ x;
  more = gs;
  spells = subst (λ (z : Context). Spells (format_of z z.phase) g p.0) q.0 p.2;
  rest_is = left b a p.0 p.1 y x q.1 p.4 (sym k);
  groups_are = refl;
}))
meet (g ∷ gs) (h ∷ hs) c d e a b x y p q k =
    let fronts = sym (append_assoc p.0 p.1 x) ∙ sym (ap (λ (l : List ℕ). l ++ x) p.4) ∙ k ∙ ap (λ (l : List ℕ). l ++ y) q.4 ∙ append_assoc q.0 q.1 y in
    let one = one_group (format_of c c.phase) g h p.0 q.0 (p.1 ++ x) (q.1 ++ y) p.2 q.2 fronts in
    let run : Runs (after c g) hs e q.1 = subst (λ (z : Group). Runs (after c z) hs e q.1) (sym one.0) q.3 in
    meet_behind g h d e x y gs hs one.0 (meet gs hs (after c g) d e p.1 q.1 x y p.3 run one.1)

-- ---- two spots behind right items of the same bytes

judged_one : (gs : List Group) (p q r : Progress) → Judged p gs q → Judged p gs r → q ≡ r
unfolding Judged
judged_one [] p q r h k = sym h ∙ k
judged_one (g ∷ gs) p q r h k = judged_one gs (progress_behind p g.field) q r h.1 k.1

next_right : (g : Group) (gs : List Group) (p q : Progress) → Judged p (g ∷ gs) q → IsItemRight p g.field
unfolding Judged
next_right g gs p q h = h.0

-- a further group is spelled at a spot, and it is right
record GoesOn (s : Scan) (p : Progress) : Type 0 where
  group : Group
  given : (next_of s).answer ≡ Ok (Some (record { place = s.place; field = group.field }))
  right : IsItemRight p group.field

goes_on : (fed : List ℕ) (s : Scan) (p q : Progress) (gs hs : List Group) → HasScanned s fed gs → Judged fresh_progress gs p → Judged fresh_progress hs q → IsBefore s.context s.rest gs hs → GoesOn s p
goes_on fed s p q gs hs h a b m = record {
  group = m.group;
  given = gives s m.group m.front m.behind h.sound m.spells m.rest_is;
  right = next_right m.group m.more p q (judged_on gs (m.group ∷ m.more) fresh_progress p q a (subst (λ (l : List Group). Judged fresh_progress l q) m.groups_are b));
}

-- a scanner by what it has
scan_with : Context → ℕ → List ℕ → Option CertFault → Scan
scan_with context place rest fault = record { context = context; place = place; rest = rest; fault = fault }

lengths : (m n i j k : ℕ) → k ≡ m + i → k ≡ n + j → i ≡ j → m ≡ n
lengths m n i j k a b e = omega (arith, a, b, e)

place_once : (fed : List ℕ) (s t : Scan) (gs hs : List Group) → HasScanned s fed gs → HasScanned t fed hs → s.rest ≡ t.rest → s.place ≡ t.place
place_once fed s t gs hs h k e =
    let a = ap (λ (l : List ℕ). length l) h.fed_is ∙ length-append h.bytes s.rest in
    let b = ap (λ (l : List ℕ). length l) k.fed_is ∙ length-append k.bytes t.rest in
    h.place_is ∙ lengths (length h.bytes) (length k.bytes) (length s.rest) (length t.rest) (length fed) a b (ap (λ (l : List ℕ). length l) e) ∙ sym k.place_is

scan_once : (fed : List ℕ) (s t : Scan) (gs hs : List Group) → HasScanned s fed gs → HasScanned t fed hs → AreOne s.context t.context s.rest t.rest gs hs → s ≡ t
unfolding scan_with
scan_once fed s t gs hs h k m =
    ap (λ (c : Context). scan_with c s.place s.rest s.fault) m.context_is
    ∙ ap (λ (n : ℕ). scan_with t.context n s.rest s.fault) (place_once fed s t gs hs h k m.rest_is)
    ∙ ap (λ (l : List ℕ). scan_with t.context t.place l s.fault) m.rest_is
    ∙ ap (λ (o : Option CertFault). scan_with t.context t.place t.rest o) (h.sound ∙ sym k.sound)

-- the same spot, or one goes on
record AreSame (s t : Scan) (p q : Progress) : Type 0 where
  scan_is : s ≡ t
  progress_is : p ≡ q

abbrev Stand : (s t : Scan) (p q : Progress) → Type 0
Stand s t p q = AreSame s t p q ⊎ (GoesOn s p ⊎ GoesOn t q)

stand_by : (fed : List ℕ) (s t : Scan) (p q : Progress) (h : HasJudged fed s p) (k : HasJudged fed t q) → Meet s.context t.context s.rest t.rest h.groups k.groups → Stand s t p q
stand_by fed s t p q h k (inl m) = inl (record {
  scan_is = scan_once fed s t h.groups k.groups h.scanned k.scanned m;
  progress_is = judged_one k.groups fresh_progress p q (subst (λ (l : List Group). Judged fresh_progress l p) m.groups_are h.judged) k.judged;
})
stand_by fed s t p q h k (inr (inl m)) = inr (inl (goes_on fed s p q h.groups k.groups h.scanned h.judged k.judged m))
stand_by fed s t p q h k (inr (inr m)) = inr (inr (goes_on fed t q p k.groups h.groups k.scanned k.judged h.judged m))

stand : (fed : List ℕ) (s t : Scan) (p q : Progress) → HasJudged fed s p → HasJudged fed t q → Stand s t p q
stand fed s t p q h k = stand_by fed s t p q h k
    (meet h.groups k.groups start s.context t.context h.scanned.bytes k.scanned.bytes s.rest t.rest h.scanned.run k.scanned.run (sym h.scanned.fed_is ∙ k.scanned.fed_is))

-- ---- a fault is found at one spot, and there is one there

-- what is at fault at a spot
abbrev Found : Scan → Progress → CertFault → Type 0
Found s p f = ((next_of s).answer ≡ Err f) ⊎ ((item : Item) × ((next_of s).answer ≡ Ok (Some item)) × IsItemFault p item.field item.place (next_of s).stands.place f)

given_item : (a b : Item) → ◌≡◌ {A = Result (Option Item) CertFault} (Ok (Some a)) (Ok (Some b)) → a ≡ b
given_item a b e = cc

err_once : (f g : CertFault) → ◌≡◌ {A = Result (Option Item) CertFault} (Err f) (Err g) → f ≡ g
err_once f g e = cc

no_further : (s : Scan) (p : Progress) (f : CertFault) → GoesOn s p → Found s p f → ⊥
no_further s p f g (inl e) = let a = sym e ∙ g.given in cc
no_further s p f g (inr e) =
    let i = given_item e.0 (record { place = s.place; field = g.group.field }) (sym e.1 ∙ g.given) in
    fault_apart p e.0.field e.0.place (next_of s).stands.place f e.2 (subst (IsItemRight p) (sym (ap (λ (k : Item). k.field) i)) g.right)

found_once : (s : Scan) (p : Progress) (f g : CertFault) → Found s p f → Found s p g → f ≡ g
found_once s p f g (inl a) (inl b) = err_once f g (sym a ∙ b)
found_once s p f g (inl a) (inr b) = let e = sym a ∙ b.1 in cc
found_once s p f g (inr a) (inl b) = let e = sym a.1 ∙ b in cc
found_once s p f g (inr a) (inr b) =
    let i = given_item a.0 b.0 (sym a.1 ∙ b.1) in
    fault_once p b.0.field b.0.place (next_of s).stands.place f g (subst (λ (k : Item). IsItemFault p k.field k.place (next_of s).stands.place f) i a.2) b.2

found_at : (s t : Scan) (p q : Progress) (f : CertFault) → AreSame s t p q → Found s p f → Found t q f
found_at s t p q f m h = subst (λ (r : Progress). Found t r f) m.progress_is (subst (λ (z : Scan). Found z p f) m.scan_is h)

once_by : (s t : Scan) (p q : Progress) (f g : CertFault) → Found s p f → Found t q g → Stand s t p q → f ≡ g
once_by s t p q f g a b (inl m) = found_once t q f g (found_at s t p q f m a) b
once_by s t p q f g a b (inr (inl m)) = absurd (no_further s p f m a)
once_by s t p q f g a b (inr (inr m)) = absurd (no_further t q g m b)

pub found_in_once : (fed : List ℕ) (f g : CertFault) → IsFaultIn fed f → IsFaultIn fed g → f ≡ g
found_in_once fed f g a b = once_by a.scan b.scan a.progress b.progress f g a.found b.found (stand fed a.scan b.scan a.progress b.progress a.items b.items)

-- ---- bytes with all items right have no fault

found_or_none : (s : Scan) (p : Progress) (f : CertFault) → (next_of s).answer ≡ Ok None → Found s p f → ⊥
found_or_none s p f n (inl e) = let a = sym e ∙ n in cc
found_or_none s p f n (inr e) = let a = sym e.1 ∙ n in cc

none_by : (s t : Scan) (p q : Progress) (f : CertFault) → (next_of s).answer ≡ Ok None → Found t q f → Stand s t p q → ⊥
none_by s t p q f n b (inl m) = found_or_none t q f (subst (λ (z : Scan). (next_of z).answer ≡ Ok None) m.scan_is n) b
none_by s t p q f n b (inr (inl m)) = let a = sym m.given ∙ n in cc
none_by s t p q f n b (inr (inr m)) = no_further t q f m b

pub read_or_found : (fed : List ℕ) (s : Scan) (p : Progress) (f : CertFault) → IsReadTo s p fed → IsFaultIn fed f → ⊥
read_or_found fed s p f h a = none_by s a.scan p a.progress f h.done a.found (stand fed s a.scan p a.progress h.items a.items)

-- ---- one fault

pub one_fault : (fed : List ℕ) (f g : CertFault) → IsFaultOf fed f → IsFaultOf fed g → f ≡ g
one_fault fed f g (inl a) (inl b) = found_in_once fed f g a b
one_fault fed f g (inl a) (inr b) = absurd (read_or_found fed b.scan b.progress f b.read a)
one_fault fed f g (inr a) (inl b) = absurd (read_or_found fed a.scan a.progress g a.read b)
one_fault fed f g (inr a) (inr b) = a.fault_is ∙ sym b.fault_is

pub fault_or_verdict : (fed : List ℕ) (f : CertFault) (v : VerdictValue) → IsFaultOf fed f → Accepted fed v → ⊥
fault_or_verdict fed f v (inl a) v_is = faultless fed f v a v_is
fault_or_verdict fed f v (inr a) v_is = absurd (a.unended (completes fed a.scan a.progress v a.read v_is).ended_is)

-- ---- what a checker answers where bytes have a fault

-- an answer is this fault, or memory was refused
abbrev pub IsTold : {A : Type 0} → Result A CertStop → CertFault → Type 0
IsTold r f = (r ≡ Err (stop.Fault f)) ⊎ (r ≡ Err stop.OutOfMemory)

pub told_first : {A : Type 0} (s : Scan) (p : Progress) (end : CertStop) (seen : List ℕ) (f : CertFault) → HasRead (standing s p (Some end)) seen → IsFaultOf seen f → IsTold {A = A} (Err end) f
told_first s p (stop.Fault g) seen f h a = inl (ap (λ (k : CertFault). Err (stop.Fault k)) (one_fault seen g f (inl h) a))
told_first s p stop.OutOfMemory seen f h a = inr refl

pub reads_first : (s : Scan) (p : Progress) (r : Result Unit CertStop) (seen : List ℕ) (f : CertFault) → Reads r seen s p → IsFaultIn seen f → IsTold r f
reads_first s p (Ok u) seen f h a = absurd (read_or_found seen s p f h a)
reads_first s p (Err (stop.Fault g)) seen f h a = inl (ap (λ (k : CertFault). Err (stop.Fault k)) (found_in_once seen g f h a))
reads_first s p (Err stop.OutOfMemory) seen f h a = inr refl

-- bytes that end before the end mark are told as cut off, and have no other fault
pub short_first : {A : Type 0} (s : Scan) (p : Progress) (fed : ℕ) (o : Option CertStop) (seen : List ℕ) (f : CertFault) → FitsChecker s p fed o → o ≡ None → p.ended ≡ false → HasRead (standing s p None) seen → IsFaultOf seen f → IsTold {A = A} (Err (stop.Fault (record { place = fed; kind = kind.Short }))) f
short_first s p fed o seen f g e t h a =
    let short : CertFault = record { place = fed; kind = kind.Short } in
    let going : IsGoing s p fed = subst (FitsChecker s p fed) e g in
    inl (ap (λ (k : CertFault). Err (stop.Fault k)) (one_fault seen short f (short_fault s p fed seen short going t h refl) a))

pub whole_first : (s : Scan) (p : Progress) (seen : List ℕ) (f : CertFault) → p.ended ≡ true → HasRead (standing s p None) seen → IsFaultOf seen f → ⊥
whole_first s p seen f t h a = fault_or_verdict seen f (verdict_at p) a (whole_yes s p seen t h)

-- the same, by what a checker's view is

at_stop : (state : State) (s : Scan) (p : Progress) (o : Option CertStop) (end : CertStop) (seen : List ℕ) → standing s p o ≡ state → o ≡ Some end → HasRead state seen → HasRead (standing s p (Some end)) seen
at_stop state s p o end seen w e h = subst (λ (t : State). HasRead t seen) (sym (ap (standing s p) (sym e) ∙ w)) h

pub end_first : {A : Type 0} (state : State) (s : Scan) (p : Progress) (o : Option CertStop) (end : CertStop) (seen : List ℕ) (f : CertFault) → standing s p o ≡ state → o ≡ Some end → HasRead state seen → IsFaultOf seen f → IsTold {A = A} (Err end) f
end_first state s p o end seen f w e h a = told_first s p end seen f (at_stop state s p o end seen w e h) a

answered_stop : (s : Scan) (p : Progress) (end k : CertStop) → answer_of (standing s p (Some end)) ≡ Err k → end ≡ k
answered_stop s p (stop.Fault g) k e = cc
answered_stop s p stop.OutOfMemory k e = cc

pub end_again : (state : State) (s : Scan) (p : Progress) (o : Option CertStop) (end k : CertStop) → standing s p o ≡ state → o ≡ Some end → answer_of state ≡ Err k → end ≡ k
end_again state s p o end k w e a = answered_stop s p end k (ap answer_of (ap (standing s p) (sym e) ∙ w) ∙ a)

pub none_again : (state : State) (s : Scan) (p : Progress) (o : Option CertStop) (k : CertStop) → standing s p o ≡ state → o ≡ None → answer_of state ≡ Err k → ⊥
none_again state s p o k w e a = let b = ap answer_of (ap (standing s p) (sym e) ∙ w) ∙ a in cc
