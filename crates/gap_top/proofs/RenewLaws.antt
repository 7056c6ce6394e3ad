-- What NEW holds after an upgrade, from the contract of `run`.
use Rattle.std.proofs.Common.{◌≡◌, ◌≢◌, ℕ, ◌⊎◌, inl, inr, List, [], ◌∷◌, Option, Some, None, IsSome, Result, Ok, Err, refl, sym, ap, ◌∙◌, subst, arith}
use Rattle.std.specs.Option.{option_map}
use Rattle.gap_cert.specs.Certificates.{Certificate}
use Rattle.gap_check.specs.Accepting.{Accepted}
use Rattle.gap_files.specs.Outside.{FilesNow, SinkNow, SameEverywhere, bytes_of}
use Rattle.gap_rule.specs.Names.{AreTold, held, told_bytes}
use Rattle.gap_rule.specs.Rules.{Rules}
use Rattle.gap_rule.specs.declared.task.Task.{Task}
use Rattle.gap_files.specs.Marks.{stream}
use Rattle.gap_files.specs.Steps.{IsUnstarted}
use Rattle.gap_upgrade.specs.Upgrading.{Upgrades, HoldsUpgrade, HoldsFront}
use Rattle.gap_upgrade.specs.declared.stop.Stop.{Stop as UpgradeStop}
use Rattle.gap_upgrade.specs.declared.stop.Stop.TheVariants as renewal
use Rattle.gap_upgrade.proofs.UpgradeLaws.{holds_all, holds_less}
use Rattle.gap_valid.specs.Verdicts.{VerdictValue}
use Rattle.gap_words.specs.Forms.{upgrade}
use Rattle.gap_words.specs.Refusals.{refusal_status}
use Rattle.gap_words.specs.declared.refusal.Refusal.{Refusal}
use Rattle.gap_words.specs.declared.refusal.Refusal.TheVariants.{Words, Port, Job, HeldRange, Certificate as BadCertificate, Differs}
use Rattle.gap_top.specs.Answers.{Answers, IsUnruled, IsSettled, Comes, ReportsRefusal}
use Rattle.gap_top.specs.Statuses.{status_number, IsOneOf}
use Rattle.gap_top.specs.Working.{EndsRenewal, Renews, Performs}
use Rattle.gap_top.specs.Renewing.{LeavesFront}
use Rattle.gap_top.specs.declared.stop.Stop.{Stop}
use Rattle.gap_top.proofs.TellLaws.{upgraded_task}

-- a told content of a name
told_at : (o : Option (Option (List ℕ))) → IsSome o → (content : Option (List ℕ)) × ((o ≡ Some content) × (told_bytes o ≡ bytes_of content))
told_at None some = absurd (cc)
told_at (Some content) some = (content, (refl, refl))

-- what is accepted of a file's bytes, where the content stays
record IsTold (name : List ℕ) (f m : FilesNow) : Type 0 where
  content : Option (List ℕ)
  before : f.content name ≡ Some content
  now : m.content name ≡ Some content
  bytes_are : held f name ≡ bytes_of content

is_told : (name : List ℕ) (f m : FilesNow) → IsSome (f.content name) → SameEverywhere f.content m.content → IsTold name f m
is_told name f m some same = let at = told_at (f.content name) some in record { content = at.0; before = at.1.0; now = same name ∙ at.1.0; bytes_are = at.1.1 }

pub not_zero : (why : Refusal) → 0 ≡ refusal_status why → ⊥
not_zero Words e = omega arith
not_zero (Port fault) e = omega arith
not_zero (Job fault) e = omega arith
not_zero HeldRange e = omega arith
not_zero (BadCertificate fault) e = omega arith
not_zero (Differs d) e = omega arith

-- ---- what an upgrade ended with

ended_whole : (cert new : List ℕ) (m : FilesNow) (s : SinkNow) (g : FilesNow) (h t : SinkNow) (renewed : Result (Unit {0}) UpgradeStop) (result : Result (Unit {0}) Stop) → 0 ≡ status_number result
    → Upgrades cert new m s g h renewed → EndsRenewal renewed h t result → Upgrades cert new m s g h (Ok tt)
ended_whole cert new m s g h t (Ok done) result is runs ended = runs
ended_whole cert new m s g h t (Err renewal.ReadFault) result is runs ended = let e = is ∙ ap status_number ended.0 in absurd (omega arith)
ended_whole cert new m s g h t (Err renewal.WriteFault) result is runs ended = let e = is ∙ ap status_number ended.0 in absurd (omega arith)
ended_whole cert new m s g h t (Err renewal.OutOfMemory) result is runs ended = let e = is ∙ ap status_number ended.0 in absurd (omega arith)
ended_whole cert new m s g h t (Err (renewal.Refused fault)) result is runs ended =
    elim ended.2.stops [
      | inl stands ↦ let e = is ∙ ap status_number (ended.1 ∙ ap (λ (x : Stop). Err x) stands) in absurd (omega arith)
      | inr none ↦ let e = is ∙ ap status_number (ended.1 ∙ ap (λ (x : Stop). Err x) none) in absurd (omega arith)
    ]

pub record HasRenewed (cert new : List ℕ) (f : FilesNow) (s : SinkNow) (g : FilesNow) (t : SinkNow) (status : ℕ) : Type 0 where
  pub m : FilesNow
  pub same : SameEverywhere f.content m.content
  pub result : Result (Unit {0}) Stop
  pub renews : Renews cert new m s g t result
  pub status_is : status ≡ status_number result

-- a task of `upgrade` that was performed
performed_by : (cert new : List ℕ) (holds : List ℕ → List ℕ) (f : FilesNow) (s : SinkNow) (g : FilesNow) (t : SinkNow) (status : ℕ) (task : Task) → Rules (upgrade cert new) holds (Ok task) → Performs task cert new f s g t status → HasRenewed cert new f s g t status
performed_by cert new holds f s g t status task rules performs =
    let is = upgraded_task cert new holds task rules in
    let p = subst (λ (x : Task). Performs x cert new f s g t status) is.1 performs in
    record { m = p.m; same = p.contents; result = p.result; renews = p.does; status_is = p.status_is }

-- ---- with 0

whole_renewed : (cert new : List ℕ) (f : FilesNow) (s : SinkNow) (g : FilesNow) (t : SinkNow) (v : VerdictValue) → new ≢ cert → IsSome (f.content cert) → IsSome (f.content new) → HasRenewed cert new f s g t 0 → (a : Accepted (held f cert) v) → HoldsUpgrade a.certificate (stream new g)
whole_renewed cert new f s g t v apart some_cert some_new has a =
    let c = is_told cert f has.m some_cert has.same in
    let n = is_told new f has.m some_new has.same in
    let runs = ended_whole cert new has.m s g has.renews.h t has.renews.renewed has.result has.status_is has.renews.runs has.renews.ended in
    (by (bytes_of c.content) (held f cert) (sym c.bytes_are) (holds_all cert new has.m s g has.renews.h runs (λ e. apart (sym e)) (bytes_of n.content) (ap (option_map bytes_of) n.now) c.content c.now)) v a
  where
    by : (bytes held : List ℕ) → bytes ≡ held → ((v : VerdictValue) (a : Accepted bytes v) → HoldsUpgrade a.certificate (stream new g)) → (v : VerdictValue) (a : Accepted held v) → HoldsUpgrade a.certificate (stream new g)
    by bytes held e holds = subst (λ (x : List ℕ). (v : VerdictValue) (a : Accepted x v) → HoldsUpgrade a.certificate (stream new g)) e holds

whole_settled : (cert new : List ℕ) (f : FilesNow) (s : SinkNow) (g : FilesNow) (t : SinkNow) (v : VerdictValue) (ruling : Result Task Refusal) → new ≢ cert → IsSome (f.content cert) → IsSome (f.content new) → Rules (upgrade cert new) (held f) ruling
    → Comes ruling cert new f s g t 0 → (a : Accepted (held f cert) v) → HoldsUpgrade a.certificate (stream new g)
whole_settled cert new f s g t v (Ok task) apart some_cert some_new rules comes a = whole_renewed cert new f s g t v apart some_cert some_new (performed_by cert new (held f) f s g t 0 task rules comes) a
whole_settled cert new f s g t v (Err why) apart some_cert some_new rules comes a = absurd (never why comes.0)
  where
    never : (why : Refusal) → ReportsRefusal why s t 0 → ⊥
    never why (inl own) = not_zero why own.0
    never why (inr none) = omega (arith, none.0)

pub unruled_zero : IsOneOf (1 ∷ 3 ∷ []) 0 → ⊥
unruled_zero (inl e) = omega (arith, e)
unruled_zero (inr (inl e)) = omega (arith, e)
unruled_zero (inr (inr none)) = none

pub whole_new : (cert new : List ℕ) (f : FilesNow) (s : SinkNow) (g : FilesNow) (t : SinkNow) (v : VerdictValue) → Answers (upgrade cert new) f s g t 0 → new ≢ cert → AreTold (cert ∷ new ∷ []) f → (a : Accepted (held f cert) v) → HoldsUpgrade a.certificate (stream new g)
whole_new cert new f s g t v answers apart told a = by (answers.settled (told.0, tt))
  where
    by : IsUnruled f s g t 0 ⊎ IsSettled (upgrade cert new) (held f) f s g t 0 → HoldsUpgrade a.certificate (stream new g)
    by (inl unruled) = absurd (unruled_zero unruled.status_is)
    by (inr settled) = whole_settled cert new f s g t v settled.ruling apart told.0 told.1.0 settled.rules settled.comes a

-- ---- with another status

same_stream : (new : List ℕ) (f g : FilesNow) (c : Certificate) → SameEverywhere f.content g.content → LeavesFront c (stream new f) (stream new g)
same_stream new f g c same = inl (ap (option_map bytes_of) (same new))

front_left : (new : List ℕ) (f m : FilesNow) (s : SinkNow) (g : FilesNow) (h : SinkNow) (c : Certificate) → IsTold new f m → IsUnstarted new m s g h ⊎ HoldsFront c (stream new g) → LeavesFront c (stream new f) (stream new g)
front_left new f m s g h c n (inr front) = inr (inr front)
front_left new f m s g h c n (inl left) = by (left.file n.content n.now)
  where
    by : (g.content new ≡ Some n.content) ⊎ (g.content new ≡ Some (Some [])) → LeavesFront c (stream new f) (stream new g)
    by (inl same) = inl (ap (option_map bytes_of) (same ∙ sym n.before))
    by (inr empty) = inr (inl (ap (option_map bytes_of) empty))

ended_front : (cert new : List ℕ) (m : FilesNow) (s : SinkNow) (g : FilesNow) (h t : SinkNow) (status : ℕ) (renewed : Result (Unit {0}) UpgradeStop) (result : Result (Unit {0}) Stop) → status ≡ status_number result → status ≢ 0
    → Upgrades cert new m s g h renewed → EndsRenewal renewed h t result → (stop : UpgradeStop) × Upgrades cert new m s g h (Err stop)
ended_front cert new m s g h t status (Ok done) result is not runs ended = absurd (not (is ∙ ap status_number ended.0))
ended_front cert new m s g h t status (Err stop) result is not runs ended = (stop, runs)

front_renewed : (cert new : List ℕ) (f : FilesNow) (s : SinkNow) (g : FilesNow) (t : SinkNow) (v : VerdictValue) (status : ℕ) → status ≢ 0 → new ≢ cert → IsSome (f.content cert) → IsSome (f.content new) → HasRenewed cert new f s g t status
    → (a : Accepted (held f cert) v) → LeavesFront a.certificate (stream new f) (stream new g)
front_renewed cert new f s g t v status not apart some_cert some_new has a =
    let c = is_told cert f has.m some_cert has.same in
    let n = is_told new f has.m some_new has.same in
    let runs = ended_front cert new has.m s g has.renews.h t status has.renews.renewed has.result has.status_is not has.renews.runs has.renews.ended in
    front_left new f has.m s g has.renews.h a.certificate n
    ((by has.renews.h has.m (bytes_of c.content) (held f cert) (sym c.bytes_are) (holds_less cert new has.m s g has.renews.h runs.0 runs.1 (λ e. apart (sym e)) (bytes_of n.content) (ap (option_map bytes_of) n.now) c.content c.now)) v a)
  where
    by : (h : SinkNow) (m : FilesNow) (bytes held : List ℕ) → bytes ≡ held → ((v : VerdictValue) (a : Accepted bytes v) → IsUnstarted new m s g h ⊎ HoldsFront a.certificate (stream new g)) → (v : VerdictValue) (a : Accepted held v) → IsUnstarted new m s g h ⊎ HoldsFront a.certificate (stream new g)
    by h m bytes held e holds = subst (λ (x : List ℕ). (v : VerdictValue) (a : Accepted x v) → IsUnstarted new m s g h ⊎ HoldsFront a.certificate (stream new g)) e holds

front_settled : (cert new : List ℕ) (f : FilesNow) (s : SinkNow) (g : FilesNow) (t : SinkNow) (v : VerdictValue) (status : ℕ) (ruling : Result Task Refusal) → status ≢ 0 → new ≢ cert → IsSome (f.content cert) → IsSome (f.content new)
    → Rules (upgrade cert new) (held f) ruling → Comes ruling cert new f s g t status → (a : Accepted (held f cert) v) → LeavesFront a.certificate (stream new f) (stream new g)
front_settled cert new f s g t v status (Ok task) not apart some_cert some_new rules comes a = front_renewed cert new f s g t v status not apart some_cert some_new (performed_by cert new (held f) f s g t status task rules comes) a
front_settled cert new f s g t v status (Err why) not apart some_cert some_new rules comes a = same_stream new f g a.certificate comes.1

pub front_new : (cert new : List ℕ) (f : FilesNow) (s : SinkNow) (g : FilesNow) (t : SinkNow) (v : VerdictValue) (status : ℕ) → Answers (upgrade cert new) f s g t status → status ≢ 0 → new ≢ cert → AreTold (cert ∷ new ∷ []) f
    → (a : Accepted (held f cert) v) → LeavesFront a.certificate (stream new f) (stream new g)
front_new cert new f s g t v status answers not apart told a = by (answers.settled (told.0, tt))
  where
    by : IsUnruled f s g t status ⊎ IsSettled (upgrade cert new) (held f) f s g t status → LeavesFront a.certificate (stream new f) (stream new g)
    by (inl unruled) = same_stream new f g a.certificate unruled.contents
    by (inr settled) = front_settled cert new f s g t v status settled.ruling not apart told.0 told.1.0 settled.rules settled.comes a
