-- The fold over the entries of a list says what the entries do.
use Rattle.std.proofs.Common.{◌≡◌, ℕ, ◌+◌, ◌-◌, ◌<◌, ◌≤◌, ⊎_elim, Bool, true, false, not, ◌&&◌, ◌==◌, cond, nat_le, Option, Some, None, List, [], ◌∷◌, ◌++◌, length, take, get_or, set, fold, Result, Ok, Err, refl, sym, ap, ◌∙◌, subst, arith, append_assoc, append-nil, length-append}
use Rattle.std.specs.Option.{is_some}
use Rattle.std.proofs.Math.Seq.{take-append_seam, get_or-append_seam}
use Rattle.std.proofs.Math.ListN.{get_or-append}
use Rattle.std.proofs.lemmas.List.{take-append-le, get_or-set_same, get_or-set_other}
use Rattle.std.proofs.lemmas.Bool.{cases_eq, cases_lt}
use Rattle.std.proofs.lemmas.Bool.Decides.{nat_tests}
use Rattle.serde_json.specs.Data.{Data, null}
use Rattle.gap_job.specs.declared.fault.JobFault.{JobFault}
use Rattle.gap_job.specs.Entries.{is_new}
use Rattle.gap_job.specs.Sayings.{said, is_within, entry_at, Wrong, AreSound, IsFirstFault, chosen, entry_for}

-- what a walk over entries answers: the state where all are sound, or the first fault
pub data Told {S : Type 0} (wrong : Wrong) (R : List Data → S → Type 0) (ds : List Data) : Result S JobFault → Type 0 where
  all_sound : (s : S) → AreSound wrong ds → R ds s → Told wrong R ds (Ok s)
  at_fault : (f : JobFault) → IsFirstFault wrong ds f → Told wrong R ds (Err f)

-- an answer by what is wrong
abbrev pub told_by : {S : Type 0} → Option JobFault → S → Result S JobFault
told_by None s = Ok s
told_by (Some f) s = Err f

-- a step that takes in an entry where nothing is wrong with it, answers what is wrong where something is, and keeps a fault
pub record IsWalk {S : Type 0} (step : Result S JobFault → Data → Result S JobFault) (next : S → Data → S) (wrong : Wrong) (R : List Data → S → Type 0) : Type 0 where
  pub stays : (f : JobFault) (d : Data) → step (Err f) d ≡ Err f
  pub steps : (before : List Data) (d : Data) (s : S) → R before s → step (Ok s) d ≡ told_by (wrong before d) (next s d)
  pub keeps : (before : List Data) (d : Data) (s : S) → R before s → wrong before d ≡ None → R (before ++ d ∷ []) (next s d)

fold_stays : {S : Type 0} (step : Result S JobFault → Data → Result S JobFault) (f : JobFault) (ds : List Data) → ((g : JobFault) (d : Data) → step (Err g) d ≡ Err g) → fold step (Err f) ds ≡ Err f
fold_stays step f [] h = refl
fold_stays step f (d ∷ ds) h = ap (λ r. fold step r ds) (h f d) ∙ fold_stays step f ds h

sound_more : (wrong : Wrong) (before : List Data) (d : Data) → AreSound wrong before → wrong before d ≡ None → AreSound wrong (before ++ d ∷ [])
sound_more wrong before d sound none k less = ⊎_elim
    (λ lt. let front : take k (before ++ d ∷ []) ≡ take k before = take-append-le k before (d ∷ []) (omega arith) in
    let same : entry_at (before ++ d ∷ []) k ≡ entry_at before k = get_or-append before (d ∷ []) null k lt in
    rw (front, same) (sound k lt))
    (λ ge. let here : k ≡ length before = omega (arith, length-append before (d ∷ [])) in
    rw (here, take-append_seam before (d ∷ []), get_or-append_seam before d [] null) none)
    (cases_lt k (length before))

first_at : (wrong : Wrong) (before : List Data) (d : Data) (rest : List Data) (f : JobFault) → AreSound wrong before → wrong before d ≡ Some f → IsFirstFault wrong (before ++ d ∷ rest) f
first_at wrong before d rest f sound is = record {
  place = length before;
  there = omega (arith, length-append before (d ∷ rest));
  sound = λ k lt. (let front : take k (before ++ d ∷ rest) ≡ take k before = take-append-le k before (d ∷ rest) (omega arith) in
      let same : entry_at (before ++ d ∷ rest) k ≡ entry_at before k = get_or-append before (d ∷ rest) null k lt in
      rw (front, same) (sound k lt));
  fault = rw (take-append_seam before (d ∷ rest), get_or-append_seam before d rest null) is;
}

one_more : {S : Type 0} (step : Result S JobFault → Data → Result S JobFault) (next : S → Data → S) (wrong : Wrong) (R : List Data → S → Type 0) → IsWalk step next wrong R → (before : List Data) (d : Data) (rest : List Data) (s : S) → AreSound wrong before → R before s
    → (AreSound wrong (before ++ d ∷ []) → R (before ++ d ∷ []) (next s d) → Told wrong R ((before ++ d ∷ []) ++ rest) (fold step (Ok (next s d)) rest)) → (o : Option JobFault) → wrong before d ≡ o → Told wrong R (before ++ d ∷ rest) (fold step (told_by o (next s d)) rest)
one_more step next wrong R w before d rest s sound r later None e =
    subst (λ (ds : List Data). Told wrong R ds (fold step (Ok (next s d)) rest)) (append_assoc before (d ∷ []) rest)
    (later (sound_more wrong before d sound e) (w.keeps before d s r e))
one_more step next wrong R w before d rest s sound r later (Some f) e = rw (fold_stays step f rest w.stays) (at_fault f (first_at wrong before d rest f sound e))

walk_from : {S : Type 0} (step : Result S JobFault → Data → Result S JobFault) (next : S → Data → S) (wrong : Wrong) (R : List Data → S → Type 0) → IsWalk step next wrong R → (before rest : List Data) (s : S) → AreSound wrong before → R before s → Told wrong R (before ++ rest) (fold step (Ok s) rest)
walk_from step next wrong R w before [] s sound r = rw append-nil (all_sound s sound r)
walk_from step next wrong R w before (d ∷ rest) s sound r =
    rw (w.steps before d s r) (one_more step next wrong R w before d rest s sound r (λ more kept. walk_from step next wrong R w (before ++ d ∷ []) rest (next s d) more kept) (wrong before d) refl)

-- a whole walk
pub walk : {S : Type 0} (step : Result S JobFault → Data → Result S JobFault) (next : S → Data → S) (wrong : Wrong) (R : List Data → S → Type 0) → IsWalk step next wrong R → (ds : List Data) (s : S) → R [] s → Told wrong R ds (fold step (Ok s) ds)
walk step next wrong R w ds s r = walk_from step next wrong R w [] ds s (λ k less. absurd (omega arith)) r

-- no list has a first fault and is sound, or has two
pub sound_or_fault : (wrong : Wrong) (ds : List Data) (f : JobFault) → AreSound wrong ds → IsFirstFault wrong ds f → ⊥
sound_or_fault wrong ds f sound first = none_some f (sym (sound first.place first.there) ∙ first.fault)
  where
    none_some : (f : JobFault) → ◌≡◌ {A = Option JobFault} None (Some f) → ⊥
    none_some f e = cc

pub one_fault : (wrong : Wrong) (ds : List Data) (f g : JobFault) → IsFirstFault wrong ds f → IsFirstFault wrong ds g → f ≡ g
one_fault wrong ds f g a b = ⊎_elim
    (λ same. some_is f g (sym a.fault ∙ rw same b.fault))
    (λ other. ⊎_elim
    (λ less. absurd (none_some f (sym (b.sound a.place less) ∙ a.fault)))
    (λ more. absurd (none_some g (sym (a.sound b.place (omega arith)) ∙ b.fault)))
    (cases_lt a.place b.place))
    (cases_eq a.place b.place)
  where
    none_some : (f : JobFault) → ◌≡◌ {A = Option JobFault} None (Some f) → ⊥
    none_some f e = cc

    some_is : (f g : JobFault) → ◌≡◌ {A = Option JobFault} (Some f) (Some g) → f ≡ g
    some_is f g e = cc

-- an entry more
abbrev or_else : {T : Type 0} → Option T → Option T → Option T
or_else None o = o
or_else (Some e) o = Some e

chosen_or : {T : Type 0} (asset : T → ℕ) (a : ℕ) (p later o : Option T) → or_else (chosen asset a p later) o ≡ chosen asset a p (or_else later o)
chosen_or asset a None later o = refl
chosen_or asset a (Some e) later o = by_test (asset e == a) e later o
  where
    by_test : {T : Type 0} (b : Bool) (e : T) (later o : Option T) → or_else (cond b (Some e) later) o ≡ cond b (Some e) (or_else later o)
    by_test true e later o = refl
    by_test false e later o = refl

entry_for-push : {T : Type 0} (parse : Data → Option T) (asset : T → ℕ) (a : ℕ) (ds : List Data) (d : Data) → entry_for parse asset a (ds ++ d ∷ []) ≡ or_else (entry_for parse asset a ds) (chosen asset a (parse d) None)
entry_for-push parse asset a [] d = refl
entry_for-push parse asset a (x ∷ ds) d = ap (λ o. chosen asset a (parse x) o) (entry_for-push parse asset a ds d) ∙ sym (chosen_or asset a (parse x) (entry_for parse asset a ds) (chosen asset a (parse d) None))

-- behind an entry that names an asset which none did before, that entry is the asset's
pub entry_here : {T : Type 0} (parse : Data → Option T) (asset : T → ℕ) (a : ℕ) (ds : List Data) (d : Data) (e : T) → parse d ≡ Some e → asset e ≡ a → entry_for parse asset a ds ≡ None → entry_for parse asset a (ds ++ d ∷ []) ≡ Some e
entry_here parse asset a ds d e p q none = entry_for-push parse asset a ds d ∙ rw (none, p, q, eqb_true a) refl
  where
    eqb_true : (n : ℕ) → (n == n) ≡ true
    eqb_true n = grind (arith, nat_tests)

-- and every other asset has the entry that it had
pub entry_other : {T : Type 0} (parse : Data → Option T) (asset : T → ℕ) (a : ℕ) (ds : List Data) (d : Data) (e : T) → parse d ≡ Some e → (asset e ≡ a → ⊥) → entry_for parse asset a (ds ++ d ∷ []) ≡ entry_for parse asset a ds
entry_other parse asset a ds d e p ne = entry_for-push parse asset a ds d ∙ rw (p, eqb_false (asset e) a ne) (or_none (entry_for parse asset a ds))
  where
    eqb_false : (m n : ℕ) → (m ≡ n → ⊥) → (m == n) ≡ false
    eqb_false m n h = grind (arith, nat_tests)

    or_none : {T : Type 0} (o : Option T) → or_else o None ≡ o
    or_none None = refl
    or_none (Some e) = refl

-- a list with a number for each asset, after the number that an entry says was written
pub list_keeps : {T : Type 0} (parse : Data → Option T) (asset : T → ℕ) (number : T → ℕ) (absent n : ℕ) (xs : List ℕ) (before : List Data) (d : Data) (e : T) → length xs ≡ n → ((i : ℕ) → i < n → get_or xs i 0 ≡ said number absent (entry_for parse asset (i + 1) before))
    → parse d ≡ Some e → 1 ≤ asset e → asset e ≤ n → entry_for parse asset (asset e) before ≡ None → (i : ℕ) → i < n → get_or (set xs (asset e - 1) (number e)) i 0 ≡ said number absent (entry_for parse asset (i + 1) (before ++ d ∷ []))
list_keeps parse asset number absent n xs before d e len are p low high none i less = ⊎_elim
    (λ same. (let here : entry_for parse asset (i + 1) (before ++ d ∷ []) ≡ Some e = entry_here parse asset (i + 1) before d e p same (rw same at none) in
    let place : asset e - 1 ≡ i = omega (arith, same) in
    rw (here, place) (get_or-set_same xs i (number e) 0 (omega (arith, len, less)))))
    (λ other. (let there : entry_for parse asset (i + 1) (before ++ d ∷ []) ≡ entry_for parse asset (i + 1) before = entry_other parse asset (i + 1) before d e p other in
    let place : i ≡ asset e - 1 → ⊥ = λ q. other (omega (arith, q, low)) in
    rw there (get_or-set_other xs (asset e - 1) i (number e) 0 place ∙ are i less)))
    (cases_eq (asset e) (i + 1))

-- marks of the assets that were named say whether one was
pub new_agrees : {T : Type 0} (parse : Data → Option T) (asset : T → ℕ) (n : ℕ) (named : List ℕ) (before : List Data) (a : ℕ) → ((i : ℕ) → i < n → get_or named i 0 ≡ said (λ e. 1) 0 (entry_for parse asset (i + 1) before)) → is_new n named a ≡ (is_within 1 n a && not (is_some (entry_for parse asset a before)))
new_agrees parse asset n named before a are = by_range (is_within 1 n a) refl
  where
    marked : {T : Type 0} (o : Option T) (v : ℕ) → v ≡ said (λ e. 1) 0 o → (v == 0) ≡ not (is_some o)
    marked None v e = rw e refl
    marked (Some x) v e = rw e refl

    least : (a n : ℕ) → (nat_le 1 a && nat_le a n) ≡ true → 1 ≤ a
    least a n e = grind (arith, nat_tests)

    most : (a n : ℕ) → (nat_le 1 a && nat_le a n) ≡ true → a ≤ n
    most a n e = grind (arith, nat_tests)

    by_range : (b : Bool) → is_within 1 n a ≡ b → (is_within 1 n a && get_or named (a - 1) 0 == 0) ≡ (is_within 1 n a && not (is_some (entry_for parse asset a before)))
    by_range false e = rw e refl
    by_range true e =
        let low : 1 ≤ a = least a n e in
        let high : a ≤ n = most a n e in
        let back : a - 1 + 1 ≡ a = omega (arith, low) in
        let mark : get_or named (a - 1) 0 ≡ said (λ e. 1) 0 (entry_for parse asset a before) = rw back at (are (a - 1) (omega (arith, low, high))) in
        rw (e, marked (entry_for parse asset a before) (get_or named (a - 1) 0) mark) refl
