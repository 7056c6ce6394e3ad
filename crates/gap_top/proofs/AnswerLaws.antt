-- What a run answers, by its ruling and its work.
use Rattle.std.proofs.Common.{◌≡◌, ◌≢◌, ℕ, ◌≤◌, ◌⊎◌, inl, inr, List, [], ◌∷◌, Option, Some, None, IsSome, Result, Ok, Err, refl, sym, ap, ◌∙◌, subst, arith}
use Rattle.std.specs.Result.{IfErr}
use Rattle.gap_files.specs.Outside.{FilesNow, SinkNow, Rose, NoneFell, SameEverywhere, bytes_of}
use Rattle.gap_words.specs.Forms.{FormValue, faulty, quick, solve, check, verify, demo, upgrade, IsFormInRange}
use Rattle.gap_words.specs.Names.{reads, writes, unnamed}
use Rattle.gap_words.specs.Refusals.{refusal_status}
use Rattle.gap_words.specs.declared.refusal.Refusal.{Refusal}
use Rattle.gap_words.specs.declared.refusal.Refusal.TheVariants.{Words, Port, Job, HeldRange, Certificate, Differs}
use Rattle.gap_rule.specs.Names.{AreTold, AreHeld, RoseIn, SameOutside, held, told_bytes}
use Rattle.gap_rule.specs.Certificates.{WasAccepted}
use Rattle.gap_rule.specs.Rules.{Rules}
use Rattle.gap_rule.specs.Steps.{IsLike, IsRuling, IsRuledForm, MayDo, MayRefuse, FitsForm, CanBeDone}
use Rattle.gap_rule.specs.declared.stop.Halt.{Halt}
use Rattle.gap_rule.specs.declared.stop.Halt.TheVariants as halt
use Rattle.gap_rule.specs.declared.task.Task.{Task}
use Rattle.gap_rule.specs.declared.task.Task.TheVariants.{Quick, Solve, Demo, Check, Verify, Upgrade}
use Rattle.gap_top.specs.Answers.{Answers, Stays, Comes, FailedIn}
use Rattle.gap_top.specs.Statuses.{status_number, IsOneOf, IsStatusOf, Allows}
use Rattle.gap_top.specs.Steps.{Refuses, EndsBy}
use Rattle.gap_top.specs.Printing.{WriteCause}
use Rattle.gap_top.specs.Telling.{Tells}
use Rattle.gap_top.specs.Working.{cert_in, source_in, asked_for, ended_by, Sweeps, EndsRenewal, Renews, Does, Performs}
use Rattle.gap_valid.specs.Verdicts.{VerdictValue}
use Rattle.gap_check.specs.Accepting.{Accepted}
use Rattle.gap_model.specs.declared.cert_fault.CertFault.{CertFault}
use Rattle.gap_upgrade.specs.Copies.{KeepsFiles}
use Rattle.gap_top.proofs.TellLaws.{upgraded}
use Rattle.gap_upgrade.specs.Upgrading.{Upgrades}
use Rattle.gap_upgrade.specs.declared.stop.Stop.{Stop as UpgradeStop}
use Rattle.gap_upgrade.specs.declared.stop.Stop.TheVariants as renewal
use Rattle.gap_sweep.specs.declared.style.Style.TheVariants.{Whole, Single}
use Rattle.gap_sweep.specs.Asked.{Asked}
use Rattle.gap_files.specs.declared.halt.Halt.{Halt as Stopped}
use Rattle.gap_files.specs.declared.halt.Halt.TheVariants as trace
use Rattle.gap_files.specs.Steps.{HasCause}
use Rattle.gap_top.specs.declared.stop.Stop.{Stop}
use Rattle.gap_top.specs.declared.stop.Stop.TheVariants.{Refused, ReadFault, WriteFault, OutOfMemory}

-- the statuses of a form
may_one : (asked : FormValue) → IsStatusOf asked 1
may_one faulty = inl refl
may_one (quick port q) = inr (inl refl)
may_one (solve port job cert) = inr (inl refl)
may_one (check cert) = inr (inl refl)
may_one (verify port job cert) = inr (inl refl)
may_one (demo q) = inr (inl refl)
may_one (upgrade cert new) = inr (inl refl)

may_zero : (asked : FormValue) (task : Task) → MayDo asked task → IsStatusOf asked 0
may_zero faulty task may = absurd may
may_zero (quick port q) task may = inl refl
may_zero (solve port job cert) task may = inl refl
may_zero (check cert) task may = inl refl
may_zero (verify port job cert) task may = inl refl
may_zero (demo q) task may = inl refl
may_zero (upgrade cert new) task may = inl refl

may_four : (asked : FormValue) (task : Task) → MayDo asked task → IsStatusOf asked 4
may_four faulty task may = absurd may
may_four (quick port q) task may = inr (inr (inr (inl refl)))
may_four (solve port job cert) task may = inr (inr (inr (inl refl)))
may_four (check cert) task may = inr (inr (inr (inl refl)))
may_four (verify port job cert) task may = inr (inr (inr (inl refl)))
may_four (demo q) task may = inr (inr (inl refl))
may_four (upgrade cert new) task may = inr (inr (inr (inl refl)))

-- a task that a form may have can be done
pub can_be_done : (asked : FormValue) (task : Task) → FitsForm asked (Ok task) → CanBeDone task
can_be_done faulty task may = absurd may
can_be_done (quick port q) (Quick work) may = may
can_be_done (quick port q) (Solve work) may = absurd may
can_be_done (quick port q) (Demo work) may = absurd may
can_be_done (quick port q) (Check v) may = absurd may
can_be_done (quick port q) (Upgrade v) may = absurd may
can_be_done (quick port q) (Verify v) may = absurd may
can_be_done (solve port job cert) (Quick work) may = absurd may
can_be_done (solve port job cert) (Solve work) may = may
can_be_done (solve port job cert) (Demo work) may = absurd may
can_be_done (solve port job cert) (Check v) may = absurd may
can_be_done (solve port job cert) (Upgrade v) may = absurd may
can_be_done (solve port job cert) (Verify v) may = absurd may
can_be_done (check cert) (Quick work) may = absurd may
can_be_done (check cert) (Solve work) may = absurd may
can_be_done (check cert) (Demo work) may = absurd may
can_be_done (check cert) (Check v) may = may
can_be_done (check cert) (Upgrade v) may = absurd may
can_be_done (check cert) (Verify v) may = absurd may
can_be_done (verify port job cert) (Quick work) may = absurd may
can_be_done (verify port job cert) (Solve work) may = absurd may
can_be_done (verify port job cert) (Demo work) may = absurd may
can_be_done (verify port job cert) (Check v) may = absurd may
can_be_done (verify port job cert) (Upgrade v) may = absurd may
can_be_done (verify port job cert) (Verify v) may = may
can_be_done (demo q) (Quick work) may = absurd may
can_be_done (demo q) (Solve work) may = absurd may
can_be_done (demo q) (Demo work) may = may
can_be_done (demo q) (Check v) may = absurd may
can_be_done (demo q) (Upgrade v) may = absurd may
can_be_done (demo q) (Verify v) may = absurd may
can_be_done (upgrade cert new) (Quick work) may = absurd may
can_be_done (upgrade cert new) (Solve work) may = absurd may
can_be_done (upgrade cert new) (Demo work) may = absurd may
can_be_done (upgrade cert new) (Check v) may = absurd may
can_be_done (upgrade cert new) (Verify v) may = absurd may
can_be_done (upgrade cert new) (Upgrade v) may = may

may_three : (asked : FormValue) (f g : FilesNow) → RoseIn (reads asked) f g → IsStatusOf asked 3
may_three faulty f g rose = absurd rose
may_three (quick port q) f g rose = inr (inr (inl refl))
may_three (solve port job cert) f g rose = inr (inr (inl refl))
may_three (check cert) f g rose = inr (inr (inl refl))
may_three (verify port job cert) f g rose = inr (inr (inl refl))
may_three (demo q) f g rose = absurd rose
may_three (upgrade cert new) f g rose = inr (inr (inl refl))

may_refuse : (asked : FormValue) (why : Refusal) → MayRefuse asked why → IsStatusOf asked (refusal_status why)
may_refuse faulty why same = subst (λ (x : Refusal). IsStatusOf faulty (refusal_status x)) (sym same) (inr (inl refl))
may_refuse (quick port q) Words may = absurd may
may_refuse (quick port q) (Port fault) may = inr (inr (inr (inr (inl refl))))
may_refuse (quick port q) (Job fault) may = absurd may
may_refuse (quick port q) HeldRange may = inr (inr (inr (inr (inr (inl refl)))))
may_refuse (quick port q) (Certificate fault) may = absurd may
may_refuse (quick port q) (Differs d) may = absurd may
may_refuse (solve port job cert) Words may = absurd may
may_refuse (solve port job cert) (Port fault) may = inr (inr (inr (inr (inl refl))))
may_refuse (solve port job cert) (Job fault) may = inr (inr (inr (inr (inr (inl refl)))))
may_refuse (solve port job cert) HeldRange may = absurd may
may_refuse (solve port job cert) (Certificate fault) may = absurd may
may_refuse (solve port job cert) (Differs d) may = absurd may
may_refuse (check cert) Words may = absurd may
may_refuse (check cert) (Port fault) may = absurd may
may_refuse (check cert) (Job fault) may = absurd may
may_refuse (check cert) HeldRange may = absurd may
may_refuse (check cert) (Certificate fault) may = inr (inr (inr (inr (inl refl))))
may_refuse (check cert) (Differs d) may = absurd may
may_refuse (verify port job cert) Words may = absurd may
may_refuse (verify port job cert) (Port fault) may = inr (inr (inr (inr (inl refl))))
may_refuse (verify port job cert) (Job fault) may = inr (inr (inr (inr (inr (inl refl)))))
may_refuse (verify port job cert) HeldRange may = absurd may
may_refuse (verify port job cert) (Certificate fault) may = inr (inr (inr (inr (inr (inr (inl refl))))))
may_refuse (verify port job cert) (Differs d) may = inr (inr (inr (inr (inr (inr (inr (inl refl)))))))
may_refuse (demo q) Words may = absurd may
may_refuse (demo q) (Port fault) may = absurd may
may_refuse (demo q) (Job fault) may = absurd may
may_refuse (demo q) HeldRange may = absurd may
may_refuse (demo q) (Certificate fault) may = absurd may
may_refuse (demo q) (Differs d) may = absurd may
may_refuse (upgrade cert new) Words may = absurd may
may_refuse (upgrade cert new) (Port fault) may = absurd may
may_refuse (upgrade cert new) (Job fault) may = absurd may
may_refuse (upgrade cert new) HeldRange may = absurd may
may_refuse (upgrade cert new) (Certificate fault) may = inr (inr (inr (inr (inl refl))))
may_refuse (upgrade cert new) (Differs d) may = absurd may

-- the status of a refusal is neither 3 nor 4
pub not_three : (why : Refusal) → refusal_status why ≡ 3 → ⊥
not_three Words e = omega arith
not_three (Port fault) e = omega arith
not_three (Job fault) e = omega arith
not_three HeldRange e = omega arith
not_three (Certificate fault) e = omega arith
not_three (Differs d) e = omega arith

pub not_four : (why : Refusal) → refusal_status why ≡ 4 → ⊥
not_four Words e = omega arith
not_four (Port fault) e = omega arith
not_four (Job fault) e = omega arith
not_four HeldRange e = omega arith
not_four (Certificate fault) e = omega arith
not_four (Differs d) e = omega arith

-- a ruling allows want of memory and a read fault
allows_one : (r : Result Task Refusal) → Allows r 1
allows_one (Ok task) = inr (inl refl)
allows_one (Err why) = inr (inl refl)

allows_three : (r : Result Task Refusal) → Allows r 3
allows_three (Ok task) = inr (inr (inl refl))
allows_three (Err why) = inr (inr (inl refl))

-- rulings that come to the same allow the same statuses
allows_like : (a b : Result Task Refusal) (n : ℕ) → IsLike a b → Allows a n → Allows b n
allows_like (Ok task) (Ok other) n like allows = allows
allows_like (Ok task) (Err why) n like allows = absurd like
allows_like (Err why) (Ok task) n like allows = absurd like
allows_like (Err why) (Err other) n like allows = subst (λ (m : ℕ). IsOneOf (m ∷ 1 ∷ 3 ∷ []) n) like allows

-- what files tell, as what they hold
held_told : (names : List (List ℕ)) (f : FilesNow) → AreTold names f → AreHeld names (held f) f
held_told [] f told = tt
held_told (name ∷ names) f (some, rest) = (held_one (f.content name) some, held_told names f rest)
  where
    held_one : (o : Option (Option (List ℕ))) → IsSome o → (content : Option (List ℕ)) × ((o ≡ Some content) × (told_bytes o ≡ bytes_of content))
    held_one None some = absurd (cc)
    held_one (Some content) some = (content, (refl, refl))

same_le : (a b : ℕ) → b ≡ a → a ≤ b
same_le a b e = omega arith

le_same : (a b c : ℕ) → a ≤ b → c ≡ b → a ≤ c
le_same a b c h e = omega arith

same_le_on : (a b c : ℕ) → b ≡ a → b ≤ c → a ≤ c
same_le_on a b c e h = omega arith

-- a ruling alone leaves this
kept_calm : (asked : FormValue) (f : FilesNow) (s : SinkNow) (g : FilesNow) (t : SinkNow) (r : Result Task Halt) → IsRuledForm asked f g r → s.faults ≤ t.faults → Stays asked f s g t
kept_calm asked f s g t r ruled later = record {
  contents = λ other none. ruled.contents other;
  others = ruled.others;
  later = ruled.later;
  writes_others = λ other none. ruled.writes other;
  writes_later = λ other. same_le _ _ (ruled.writes other);
  sink_later = later;
}

-- what doing a task leaves, from the files m and the sink s to g and t
record IsLeft (asked : FormValue) (m : FilesNow) (s : SinkNow) (g : FilesNow) (t : SinkNow) (r : Result (Unit {0}) Stop) : Type 0 where
  contents : SameOutside (writes asked) m.content g.content
  reads : SameEverywhere m.read_faults g.read_faults
  others : SameOutside (writes asked) m.write_faults g.write_faults
  later_files : NoneFell m.write_faults g.write_faults
  later_sink : s.faults ≤ t.faults
  cause : IfErr r (WriteCause (Rose s.faults t.faults ⊎ FailedIn (writes asked) m g))

-- a ruling and a task leave this
kept_done : (asked : FormValue) (f m : FilesNow) (s : SinkNow) (g : FilesNow) (t : SinkNow) (task : Task) (r : Result (Unit {0}) Stop) → IsRuledForm asked f m (Ok task) → IsLeft asked m s g t r → Stays asked f s g t
kept_done asked f m s g t task r ruled left = record {
  contents = λ other none. left.contents other none ∙ ruled.contents other;
  others = λ other none. left.reads other ∙ ruled.others other none;
  later = λ other. le_same _ _ _ (ruled.later other) (left.reads other);
  writes_others = λ other none. left.others other none ∙ ruled.writes other;
  writes_later = λ other. same_le_on _ _ _ (ruled.writes other) (left.later_files other);
  sink_later = left.later_sink;
}

-- what is ruled, and what came of it
comes_of : (asked : FormValue) (f : FilesNow) (s : SinkNow) (g : FilesNow) (t : SinkNow) (r : Result Task Refusal) (n : ℕ) → ((holds : List ℕ → List ℕ) → AreHeld (reads asked) holds f → IsRuling (Rules asked holds) r) → IsStatusOf asked n → Allows r n → (n ≡ 3 → ⊥) → (n ≡ 4 → Rose s.faults t.faults ⊎ FailedIn (writes asked) f g) → Comes r (source_in asked) (cert_in asked) f s g t n → Stays asked f s g t → Answers asked f s g t n
comes_of asked f s g t r n ruling possible allowed unread rose comes kept = record {
  possible = possible;
  ruled = λ told other rules. allows_like r other n ((ruling (held f) (held_told (reads asked) f told)).only other rules) allowed;
  settled = λ told. inr (record { ruling = r; rules = (ruling (held f) (held_told (reads asked) f told)).holds; comes = comes });
  causes = record {
    read_fault = λ three. absurd (unread three);
    looked = λ told three. absurd (unread three);
    silent = λ three. absurd (unread three);
    write_fault = rose;
  };
  stays = kept;
}

-- why a sweep stopped
cause_swept : (name : List ℕ) (m : FilesNow) (s : SinkNow) (g : FilesNow) (t : SinkNow) (swept : Result (Unit {0}) Stopped) → HasCause name m s g t swept → IfErr (ended_by swept) (WriteCause (Rose s.faults t.faults ⊎ FailedIn (name ∷ []) m g))
cause_swept name m s g t (Ok done) cause = tt
cause_swept name m s g t (Err trace.WriteFault) (inl rose) = inl rose
cause_swept name m s g t (Err trace.WriteFault) (inr rose) = inr (inl rose)
cause_swept name m s g t (Err trace.OutOfMemory) cause = tt

cause_named : (asked : FormValue) (name : List ℕ) (m : FilesNow) (s : SinkNow) (g : FilesNow) (t : SinkNow) (r : Result (Unit {0}) Stop) → writes asked ≡ name ∷ [] → IfErr r (WriteCause (Rose s.faults t.faults ⊎ FailedIn (name ∷ []) m g)) → IfErr r (WriteCause (Rose s.faults t.faults ⊎ FailedIn (writes asked) m g))
cause_named asked name m s g t r one cause = subst (λ (names : List (List ℕ)). IfErr r (WriteCause (Rose s.faults t.faults ⊎ FailedIn names m g))) (sym one) cause

-- a sweep leaves all but the file of its certificate
left_swept : (asked : FormValue) (work : Asked) (name : List ℕ) (m : FilesNow) (s : SinkNow) (g : FilesNow) (t : SinkNow) (r : Result (Unit {0}) Stop) → writes asked ≡ name ∷ [] → Sweeps work name m s g t r → IsLeft asked m s g t r
left_swept asked work name m s g t r one sweeps =
    let keeps = sweeps.runs.keeps in
    record {
      contents = subst (λ (names : List (List ℕ)). SameOutside names m.content g.content) (sym one) (λ other none. keeps.contents other none.0);
      reads = keeps.reads;
      others = subst (λ (names : List (List ℕ)). SameOutside names m.write_faults g.write_faults) (sym one) (λ other none. keeps.others other none.0);
      later_files = keeps.later_files;
      later_sink = keeps.later_sink;
      cause = cause_named asked name m s g t r one
          (subst (λ (x : Result (Unit {0}) Stop). IfErr x (WriteCause (Rose s.faults t.faults ⊎ FailedIn (name ∷ []) m g))) (sym sweeps.ended) (cause_swept name m s g t sweeps.swept sweeps.runs.cause));
    }

-- telling a verdict leaves all files
cause_told : (P Q : Type 0) (r : Result (Unit {0}) Stop) → IfErr r (WriteCause P) → IfErr r (WriteCause (P ⊎ Q))
cause_told P Q (Ok done) cause = tt
cause_told P Q (Err (Refused why)) cause = cause
cause_told P Q (Err ReadFault) cause = cause
cause_told P Q (Err WriteFault) cause = inl cause
cause_told P Q (Err OutOfMemory) cause = tt

left_told : (asked : FormValue) (v : VerdictValue) (m : FilesNow) (s : SinkNow) (g : FilesNow) (t : SinkNow) (r : Result (Unit {0}) Stop) → Tells v m s g t r → IsLeft asked m s g t r
left_told asked v m s g t r tells = record {
  contents = λ other none. ap (λ (x : FilesNow). x.content other) tells.files;
  reads = λ other. ap (λ (x : FilesNow). x.read_faults other) tells.files;
  others = λ other none. ap (λ (x : FilesNow). x.write_faults other) tells.files;
  later_files = λ other. same_le _ _ (ap (λ (x : FilesNow). x.write_faults other) tells.files);
  later_sink = tells.printed.later;
  cause = cause_told _ _ r tells.printed.cause;
}

-- a command that doesn't write a certificate anew
abbrev IsPlain : FormValue → Type 0
IsPlain (upgrade cert new) = ⊥
IsPlain _ = Unit {0}

left_by : (asked : FormValue) (task : Task) (m : FilesNow) (s : SinkNow) (g : FilesNow) (t : SinkNow) (r : Result (Unit {0}) Stop) → IsPlain asked → MayDo asked task → Does task (source_in asked) (cert_in asked) m s g t r → IsLeft asked m s g t r
left_by faulty task m s g t r plain may does = absurd may
left_by (quick port q) (Quick work) m s g t r plain may does = left_swept (quick port q) (asked_for Single work) unnamed m s g t r refl does
left_by (quick port q) (Solve work) m s g t r plain may does = absurd may
left_by (quick port q) (Demo work) m s g t r plain may does = absurd may
left_by (quick port q) (Check v) m s g t r plain may does = absurd may
left_by (quick port q) (Upgrade v) m s g t r plain may does = absurd may
left_by (quick port q) (Verify v) m s g t r plain may does = absurd may
left_by (solve port job cert) (Quick work) m s g t r plain may does = absurd may
left_by (solve port job cert) (Solve work) m s g t r plain may does = left_swept (solve port job cert) (asked_for Whole work) cert m s g t r refl does
left_by (solve port job cert) (Demo work) m s g t r plain may does = absurd may
left_by (solve port job cert) (Check v) m s g t r plain may does = absurd may
left_by (solve port job cert) (Upgrade v) m s g t r plain may does = absurd may
left_by (solve port job cert) (Verify v) m s g t r plain may does = absurd may
left_by (check cert) (Quick work) m s g t r plain may does = absurd may
left_by (check cert) (Solve work) m s g t r plain may does = absurd may
left_by (check cert) (Demo work) m s g t r plain may does = absurd may
left_by (check cert) (Check v) m s g t r plain may does = left_told (check cert) v m s g t r does
left_by (check cert) (Upgrade v) m s g t r plain may does = absurd may
left_by (check cert) (Verify v) m s g t r plain may does = absurd may
left_by (verify port job cert) (Quick work) m s g t r plain may does = absurd may
left_by (verify port job cert) (Solve work) m s g t r plain may does = absurd may
left_by (verify port job cert) (Demo work) m s g t r plain may does = absurd may
left_by (verify port job cert) (Check v) m s g t r plain may does = absurd may
left_by (verify port job cert) (Upgrade v) m s g t r plain may does = absurd may
left_by (verify port job cert) (Verify v) m s g t r plain may does = left_told (verify port job cert) v m s g t r does
left_by (demo q) (Quick work) m s g t r plain may does = absurd may
left_by (demo q) (Solve work) m s g t r plain may does = absurd may
left_by (demo q) (Demo work) m s g t r plain may does = left_swept (demo q) (asked_for Whole work) unnamed m s g t r refl does
left_by (demo q) (Check v) m s g t r plain may does = absurd may
left_by (demo q) (Upgrade v) m s g t r plain may does = absurd may
left_by (demo q) (Verify v) m s g t r plain may does = absurd may
left_by (upgrade cert new) task m s g t r plain may does = absurd plain

-- a task was done from the files m on
performed : (asked : FormValue) (f m : FilesNow) (s : SinkNow) (g : FilesNow) (t : SinkNow) (task : Task) (r : Result (Unit {0}) Stop) → IsRuledForm asked f m (Ok task) → CanBeDone task → Does task (source_in asked) (cert_in asked) m s g t r → Performs task (source_in asked) (cert_in asked) f s g t (status_number r)
performed asked f m s g t task r ruled can does = record {
  ready = can;
  m = m;
  contents = ruled.contents;
  write_faults = ruled.writes;
  result = r;
  does = does;
  status_is = refl;
}

failed_from : (names : List (List ℕ)) (f m g : FilesNow) → SameEverywhere f.write_faults m.write_faults → FailedIn names m g → FailedIn names f g
failed_from [] f m g same failed = absurd failed
failed_from (name ∷ names) f m g same (inl rose) = inl (subst (λ (n : ℕ). Rose n (g.write_faults name)) (same name) rose)
failed_from (name ∷ names) f m g same (inr failed) = inr (failed_from names f m g same failed)

rose_from : (names : List (List ℕ)) (f m g : FilesNow) (s t : SinkNow) → SameEverywhere f.write_faults m.write_faults → Rose s.faults t.faults ⊎ FailedIn names m g → Rose s.faults t.faults ⊎ FailedIn names f g
rose_from names f m g s t same (inl rose) = inl rose
rose_from names f m g s t same (inr failed) = inr (failed_from names f m g same failed)

done_by : (asked : FormValue) (f m : FilesNow) (s : SinkNow) (g : FilesNow) (t : SinkNow) (task : Task) (r : Result (Unit {0}) Stop) → IsRuledForm asked f m (Ok task) → MayDo asked task → Does task (source_in asked) (cert_in asked) m s g t r → IsLeft asked m s g t r → Answers asked f s g t (status_number r)
done_by asked f m s g t task (Ok done) ruled may does left =
    comes_of asked f s g t (Ok task) 0 ruled.tells (may_zero asked task may) (inl refl) (λ e. omega arith) (λ e. absurd (omega arith))
    (performed asked f m s g t task (Ok done) ruled (can_be_done asked task may) does) (kept_done asked f m s g t task (Ok done) ruled left)
done_by asked f m s g t task (Err WriteFault) ruled may does left =
    comes_of asked f s g t (Ok task) 4 ruled.tells (may_four asked task may) (inr (inr (inr (inl refl)))) (λ e. omega arith) (λ e. rose_from (writes asked) f m g s t ruled.writes left.cause)
    (performed asked f m s g t task (Err WriteFault) ruled (can_be_done asked task may) does) (kept_done asked f m s g t task (Err WriteFault) ruled left)
done_by asked f m s g t task (Err OutOfMemory) ruled may does left =
    comes_of asked f s g t (Ok task) 1 ruled.tells (may_one asked) (inr (inl refl)) (λ e. omega arith) (λ e. absurd (omega arith))
    (performed asked f m s g t task (Err OutOfMemory) ruled (can_be_done asked task may) does) (kept_done asked f m s g t task (Err OutOfMemory) ruled left)
done_by asked f m s g t task (Err ReadFault) ruled may does left = absurd left.cause
done_by asked f m s g t task (Err (Refused why)) ruled may does left = absurd left.cause

-- ---- a certificate that is written anew

-- an upgrade that ended so, and what the run ends with
pub renews_as : (source name : List ℕ) (f : FilesNow) (s : SinkNow) (g : FilesNow) (h t : SinkNow) (r ending : Result (Unit {0}) UpgradeStop) (result : Result (Unit {0}) Stop) → r ≡ ending → Upgrades source name f s g h r → EndsRenewal ending h t result → Renews source name f s g t result
renews_as source name f s g h t r ending result same runs ended = record { h = h; renewed = ending; runs = subst (Upgrades source name f s g h) same runs; ended = ended }

le_on : (a b c : ℕ) → a ≤ b → b ≤ c → a ≤ c
le_on a b c h k = omega arith

rose_on : (a b c : ℕ) → a ≤ b → Rose b c → Rose a c
rose_on a b c h rose = omega arith

-- a ruling and an upgrade leave this
kept_renewed : (cert new : List ℕ) (f m : FilesNow) (s : SinkNow) (g : FilesNow) (t : SinkNow) (task : Task) → IsRuledForm (upgrade cert new) f m (Ok task) → KeepsFiles cert new m g → s.faults ≤ t.faults → Stays (upgrade cert new) f s g t
kept_renewed cert new f m s g t task ruled keeps later = record {
  contents = λ other none. keeps.contents other none.0 ∙ ruled.contents other;
  others = λ other none. keeps.read_others other none.0 ∙ ruled.others other none;
  later = λ other. le_on _ _ _ (ruled.later other) (keeps.read_later other);
  writes_others = λ other none. keeps.write_others other none.0 ∙ ruled.writes other;
  writes_later = λ other. same_le_on _ _ _ (ruled.writes other) (keeps.write_later other);
  sink_later = later;
}

performed_anew : (cert new : List ℕ) (f m : FilesNow) (s : SinkNow) (g : FilesNow) (t : SinkNow) (v : VerdictValue) (r : Result (Unit {0}) Stop) (n : ℕ) → n ≡ status_number r
    → IsRuledForm (upgrade cert new) f m (Ok (Upgrade v)) → WasAccepted v → Renews cert new m s g t r → Performs (Upgrade v) cert new f s g t n
performed_anew cert new f m s g t v r n is ruled was renews = record { ready = was; m = m; contents = ruled.contents; write_faults = ruled.writes; result = r; does = renews; status_is = is }

-- where the content is told it isn't refused any more
never_refused : (cert new : List ℕ) (f m : FilesNow) (s : SinkNow) (g : FilesNow) (h : SinkNow) (v : VerdictValue) (fault : CertFault) → new ≢ cert → IsRuledForm (upgrade cert new) f m (Ok (Upgrade v))
    → Upgrades cert new m s g h (Err (renewal.Refused fault)) → AreTold (cert ∷ []) f → ⊥
never_refused cert new f m s g h v fault apart ruled runs told =
    let are = held_told (cert ∷ []) f told in
    let accepted = upgraded cert new (held f) v (ruled.tells (held f) are).holds in
    (runs.ends.told (λ e. apart (sym e)) are.0.0 (ruled.contents cert ∙ are.0.1.0) v (subst (λ (x : List ℕ). Accepted x v) are.0.1.1 accepted)).1

-- its status is neither 3 nor 7
answers_anew : (cert new : List ℕ) (f m : FilesNow) (s : SinkNow) (g : FilesNow) (t : SinkNow) (v : VerdictValue) (r : Result (Unit {0}) Stop) (n : ℕ) → n ≡ status_number r
    → IsRuledForm (upgrade cert new) f m (Ok (Upgrade v)) → WasAccepted v → Renews cert new m s g t r → KeepsFiles cert new m g → s.faults ≤ t.faults
    → IsStatusOf (upgrade cert new) n → Allows (Ok (Upgrade v)) n → (n ≡ 3 → ⊥) → (n ≡ 4 → Rose s.faults t.faults ⊎ FailedIn (new ∷ []) m g) → Answers (upgrade cert new) f s g t n
answers_anew cert new f m s g t v r n is ruled was renews keeps later possible allowed unread cause =
    comes_of (upgrade cert new) f s g t (Ok (Upgrade v)) n ruled.tells possible allowed unread (λ four. rose_from (new ∷ []) f m g s t ruled.writes (cause four))
    (performed_anew cert new f m s g t v r n is ruled was renews) (kept_renewed cert new f m s g t (Upgrade v) ruled keeps later)

-- the second reading failed
answers_unread_anew : (cert new : List ℕ) (f m : FilesNow) (s : SinkNow) (g : FilesNow) (t : SinkNow) (v : VerdictValue) (r : Result (Unit {0}) Stop) → 3 ≡ status_number r
    → IsRuledForm (upgrade cert new) f m (Ok (Upgrade v)) → WasAccepted v → Renews cert new m s g t r → KeepsFiles cert new m g → s.faults ≤ t.faults
    → Rose (m.read_faults cert) (g.read_faults cert) → t ≡ s → Answers (upgrade cert new) f s g t 3
answers_unread_anew cert new f m s g t v r is ruled was renews keeps later rose silent =
    let kept = kept_renewed cert new f m s g t (Upgrade v) ruled keeps later in
    let risen = rose_on _ _ _ (ruled.later cert) rose in
    record {
      possible = inr (inr (inl refl));
      ruled = λ told other rules. allows_three other;
      settled = λ told. inr (record {
        ruling = Ok (Upgrade v);
        rules = (ruled.tells (held f) (held_told (cert ∷ []) f told)).holds;
        comes = performed_anew cert new f m s g t v r 3 is ruled was renews;
      });
      causes = record {
        read_fault = λ three. inl risen;
        looked = λ told three. inl risen;
        silent = λ three. silent;
        write_fault = λ four. absurd (omega arith);
      };
      stays = kept;
    }

-- the second reading was refused, which no told content is
answers_refused_anew : (cert new : List ℕ) (f m : FilesNow) (s : SinkNow) (g : FilesNow) (t : SinkNow) (task : Task) → IsRuledForm (upgrade cert new) f m (Ok task) → KeepsFiles cert new m g → s.faults ≤ t.faults
    → (AreTold (cert ∷ []) f → ⊥) → Answers (upgrade cert new) f s g t 7
answers_refused_anew cert new f m s g t task ruled keeps later never =
    let kept = kept_renewed cert new f m s g t task ruled keeps later in
    record {
      possible = inr (inr (inr (inr (inl refl))));
      ruled = λ told other rules. absurd (never told);
      settled = λ told. absurd (never told);
      causes = record {
        read_fault = λ three. absurd (omega arith);
        looked = λ told three. absurd (never told);
        silent = λ three. absurd (omega arith);
        write_fault = λ four. absurd (omega arith);
      };
      stays = kept;
    }

same_status : (asked : FormValue) (f : FilesNow) (s : SinkNow) (g : FilesNow) (t : SinkNow) (n k : ℕ) → n ≡ k → Answers asked f s g t n → Answers asked f s g t k
same_status asked f s g t n k e answers = subst (Answers asked f s g t) e answers

later_same : (s h t : SinkNow) → t ≡ h → s.faults ≤ h.faults → s.faults ≤ t.faults
later_same s h t same later = subst (λ (x : SinkNow). s.faults ≤ x.faults) (sym same) later

named_cause : (new : List ℕ) (m g : FilesNow) (s h t : SinkNow) → t ≡ h → Rose s.faults h.faults ⊎ Rose (m.write_faults new) (g.write_faults new) → Rose s.faults t.faults ⊎ FailedIn (new ∷ []) m g
named_cause new m g s h t same (inl rose) = inl (subst (λ (x : SinkNow). Rose s.faults x.faults) (sym same) rose)
named_cause new m g s h t same (inr rose) = inr (inl rose)

renewed_by : (cert new : List ℕ) (f m : FilesNow) (s : SinkNow) (g : FilesNow) (t : SinkNow) (v : VerdictValue) (r : Result (Unit {0}) Stop) → new ≢ cert → IsRuledForm (upgrade cert new) f m (Ok (Upgrade v)) → WasAccepted v → Renews cert new m s g t r
    → (h : SinkNow) (renewed : Result (Unit {0}) UpgradeStop) → Upgrades cert new m s g h renewed → EndsRenewal renewed h t r → Answers (upgrade cert new) f s g t (status_number r)
renewed_by cert new f m s g t v r apart ruled was renews h (Ok done) runs ended =
    let is : 0 ≡ status_number r = sym (ap status_number ended.0) in
    same_status (upgrade cert new) f s g t 0 (status_number r) is
    (answers_anew cert new f m s g t v r 0 is ruled was renews runs.keeps (later_same s h t ended.1 runs.later) (inl refl) (inl refl) (λ e. omega arith) (λ e. absurd (omega arith)))
renewed_by cert new f m s g t v r apart ruled was renews h (Err renewal.WriteFault) runs ended =
    let is : 4 ≡ status_number r = sym (ap status_number ended.0) in
    same_status (upgrade cert new) f s g t 4 (status_number r) is
    (answers_anew cert new f m s g t v r 4 is ruled was renews runs.keeps (later_same s h t ended.1 runs.later) (inr (inr (inr (inl refl)))) (inr (inr (inr (inl refl)))) (λ e. omega arith)
    (λ e. named_cause new m g s h t ended.1 runs.cause))
renewed_by cert new f m s g t v r apart ruled was renews h (Err renewal.OutOfMemory) runs ended =
    let is : 1 ≡ status_number r = sym (ap status_number ended.0) in
    same_status (upgrade cert new) f s g t 1 (status_number r) is
    (answers_anew cert new f m s g t v r 1 is ruled was renews runs.keeps (later_same s h t ended.1 runs.later) (inr (inl refl)) (inr (inl refl)) (λ e. omega arith) (λ e. absurd (omega arith)))
renewed_by cert new f m s g t v r apart ruled was renews h (Err renewal.ReadFault) runs ended =
    let is : 3 ≡ status_number r = sym (ap status_number ended.0) in
    same_status (upgrade cert new) f s g t 3 (status_number r) is
    (answers_unread_anew cert new f m s g t v r is ruled was renews runs.keeps (later_same s h t ended.1 runs.later) runs.cause.0 (ended.1 ∙ runs.cause.1))
renewed_by cert new f m s g t v r apart ruled was renews h (Err (renewal.Refused fault)) runs ended =
    let later = le_on s.faults h.faults t.faults runs.later ended.2.later in
    elim ended.2.stops [
      | inl stands ↦
          let is : 7 ≡ status_number r = sym (ap status_number (ended.1 ∙ ap (λ (x : Stop). Err x) stands)) in
          same_status (upgrade cert new) f s g t 7 (status_number r) is
          (answers_refused_anew cert new f m s g t (Upgrade v) ruled runs.keeps later (never_refused cert new f m s g h v fault apart ruled runs))
      | inr none ↦
          let is : 1 ≡ status_number r = sym (ap status_number (ended.1 ∙ ap (λ (x : Stop). Err x) none)) in
          same_status (upgrade cert new) f s g t 1 (status_number r) is
          (answers_anew cert new f m s g t v r 1 is ruled was renews runs.keeps later (inr (inl refl)) (inr (inl refl)) (λ e. omega arith) (λ e. absurd (omega arith)))
    ]

renewed_task : (cert new : List ℕ) (f m : FilesNow) (s : SinkNow) (g : FilesNow) (t : SinkNow) (task : Task) (r : Result (Unit {0}) Stop) → new ≢ cert → IsRuledForm (upgrade cert new) f m (Ok task) → MayDo (upgrade cert new) task
    → Does task cert new m s g t r → Answers (upgrade cert new) f s g t (status_number r)
renewed_task cert new f m s g t (Quick work) r apart ruled may does = absurd may
renewed_task cert new f m s g t (Solve work) r apart ruled may does = absurd may
renewed_task cert new f m s g t (Demo work) r apart ruled may does = absurd may
renewed_task cert new f m s g t (Check v) r apart ruled may does = absurd may
renewed_task cert new f m s g t (Verify v) r apart ruled may does = absurd may
renewed_task cert new f m s g t (Upgrade v) r apart ruled may does = renewed_by cert new f m s g t v r apart ruled may does does.h does.renewed does.runs does.ended

-- ---- any task

work_plain : (asked : FormValue) (f m : FilesNow) (s : SinkNow) (g : FilesNow) (t : SinkNow) (task : Task) (r : Result (Unit {0}) Stop) → IsPlain asked → IsRuledForm asked f m (Ok task) → MayDo asked task
    → Does task (source_in asked) (cert_in asked) m s g t r → Answers asked f s g t (status_number r)
work_plain asked f m s g t task r plain ruled may does = done_by asked f m s g t task r ruled may does (left_by asked task m s g t r plain may does)

-- a task was done, or stopped on the way
answers_work : (asked : FormValue) (f m : FilesNow) (s : SinkNow) (g : FilesNow) (t : SinkNow) (task : Task) (r : Result (Unit {0}) Stop) → IsFormInRange asked → IsRuledForm asked f m (Ok task) → FitsForm asked (Ok task)
    → Does task (source_in asked) (cert_in asked) m s g t r → Answers asked f s g t (status_number r)
answers_work faulty f m s g t task r range ruled may does = work_plain faulty f m s g t task r tt ruled may does
answers_work (quick port q) f m s g t task r range ruled may does = work_plain (quick port q) f m s g t task r tt ruled may does
answers_work (solve port job cert) f m s g t task r range ruled may does = work_plain (solve port job cert) f m s g t task r tt ruled may does
answers_work (check cert) f m s g t task r range ruled may does = work_plain (check cert) f m s g t task r tt ruled may does
answers_work (verify port job cert) f m s g t task r range ruled may does = work_plain (verify port job cert) f m s g t task r tt ruled may does
answers_work (demo q) f m s g t task r range ruled may does = work_plain (demo q) f m s g t task r tt ruled may does
answers_work (upgrade cert new) f m s g t task r range ruled may does = renewed_task cert new f m s g t task r range ruled may does

-- the same where the files have these names
pub answers_named : (asked : FormValue) (source name : List ℕ) (f m : FilesNow) (s : SinkNow) (g : FilesNow) (t : SinkNow) (task : Task) (r : Result (Unit {0}) Stop) → IsFormInRange asked → source ≡ source_in asked → name ≡ cert_in asked
    → IsRuledForm asked f m (Ok task) → FitsForm asked (Ok task) → Does task source name m s g t r → Answers asked f s g t (status_number r)
answers_named asked source name f m s g t task r range from same ruled may does =
    answers_work asked f m s g t task r range ruled may
    (subst (λ (x : List ℕ). Does task x (cert_in asked) m s g t r) from (subst (λ (x : List ℕ). Does task source x m s g t r) same does))

answers_refusal : (asked : FormValue) (f : FilesNow) (s : SinkNow) (g : FilesNow) (t : SinkNow) (why : Refusal) (stop : Stop) → IsRuledForm asked f g (Err (halt.Refused why)) → MayRefuse asked why → Refuses why s t stop → Answers asked f s g t (status_number (Err stop))
answers_refusal asked f s g t why stop ruled may refuses =
    elim refuses.stops [
      | inl stands ↦ subst (λ (x : Stop). Answers asked f s g t (status_number (Err x))) (sym stands)
          (comes_of asked f s g t (Err why) (refusal_status why) ruled.tells (may_refuse asked why may) (inl refl) (λ e. not_three why e) (λ e. absurd (not_four why e)) (inl (refl, refuses.line stands), ruled.contents) (kept_calm asked f s g t _ ruled refuses.later))
      | inr none ↦ subst (λ (x : Stop). Answers asked f s g t (status_number (Err x))) (sym none)
          (comes_of asked f s g t (Err why) 1 ruled.tells (may_one asked) (inr (inl refl)) (λ e. omega arith) (λ e. absurd (omega arith)) (inr (refl, refuses.quiet none), ruled.contents) (kept_calm asked f s g t _ ruled refuses.later))
    ]

-- a file couldn't be read
answers_unread : (asked : FormValue) (f : FilesNow) (s : SinkNow) (g : FilesNow) → IsRuledForm asked f g (Err halt.ReadFault) → Answers asked f s g s 3
answers_unread asked f s g ruled = record {
  possible = may_three asked f g ruled.cause;
  ruled = λ told r rules. allows_three r;
  settled = λ told. inl (record { status_is = inr (inl refl); unwritten = refl; contents = ruled.contents });
  causes = record {
    read_fault = λ three. ruled.cause;
    looked = λ told three. ruled.looks_cause (held f) (held_told (reads asked) f told);
    silent = λ three. refl;
    write_fault = λ four. absurd (omega arith);
  };
  stays = record {
    contents = λ other none. ruled.contents other;
    others = ruled.others;
    later = ruled.later;
    writes_others = λ other none. ruled.writes other;
    writes_later = λ other. same_le _ _ (ruled.writes other);
    sink_later = omega arith;
  };
}

-- memory was refused while it was ruled
answers_no_memory : (asked : FormValue) (f : FilesNow) (s : SinkNow) (g : FilesNow) → IsRuledForm asked f g (Err halt.OutOfMemory) → Answers asked f s g s 1
answers_no_memory asked f s g ruled = record {
  possible = may_one asked;
  ruled = λ told r rules. allows_one r;
  settled = λ told. inl (record { status_is = inl refl; unwritten = refl; contents = ruled.contents });
  causes = record {
    read_fault = λ three. absurd (omega arith);
    looked = λ told three. absurd (omega arith);
    silent = λ three. absurd (omega arith);
    write_fault = λ four. absurd (omega arith);
  };
  stays = record {
    contents = λ other none. ruled.contents other;
    others = ruled.others;
    later = ruled.later;
    writes_others = λ other none. ruled.writes other;
    writes_later = λ other. same_le _ _ (ruled.writes other);
    sink_later = omega arith;
  };
}

unwritten : (asked : FormValue) (f : FilesNow) (s : SinkNow) (g : FilesNow) (t : SinkNow) (stop ended : Stop) → ended ≡ stop → t ≡ s → Answers asked f s g s (status_number (Err stop)) → Answers asked f s g t (status_number (Err ended))
unwritten asked f s g t stop ended same silent answers =
    subst (λ (x : SinkNow). Answers asked f s g x (status_number (Err ended))) (sym silent) (subst (λ (x : Stop). Answers asked f s g s (status_number (Err x))) (sym same) answers)

-- a run that has no task to do
pub answers_end : (asked : FormValue) (f : FilesNow) (s : SinkNow) (g : FilesNow) (t : SinkNow) (stop : Halt) (ended : Stop) → IsRuledForm asked f g (Err stop) → FitsForm asked (Err stop) → EndsBy stop s t ended → Answers asked f s g t (status_number (Err ended))
answers_end asked f s g t (halt.Refused why) ended ruled may ends = answers_refusal asked f s g t why ended ruled may ends
answers_end asked f s g t halt.ReadFault ended ruled may ends = unwritten asked f s g t ReadFault ended ends.0 ends.1 (answers_unread asked f s g ruled)
answers_end asked f s g t halt.OutOfMemory ended ruled may ends = unwritten asked f s g t OutOfMemory ended ends.0 ends.1 (answers_no_memory asked f s g ruled)

-- the same of words by another name of their form, and of a status by its number
pub answers_as : (asked form : FormValue) (f : FilesNow) (s : SinkNow) (g : FilesNow) (t : SinkNow) (number status : ℕ) → asked ≡ form → status ≡ number → Answers asked f s g t number → Answers form f s g t status
answers_as asked form f s g t number status same is answers = subst (λ (x : FormValue). Answers x f s g t status) same (subst (λ (n : ℕ). Answers asked f s g t n) (sym is) answers)
