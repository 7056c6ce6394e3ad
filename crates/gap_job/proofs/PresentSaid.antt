-- The lots at present and the weights of a job are what their entries say.
use Rattle.std.proofs.Common.{◌≡◌, ℕ, ◌+◌, ◌-◌, ◌<◌, ◌≤◌, ◌⊎◌, inl, inr, ⊎_elim, Bool, true, false, not, ◌&&◌, cond, nat_le, Option, Some, None, List, [], ◌∷◌, ◌++◌, length, get_or, set, fold, Result, Ok, Err, refl, sym, ◌∙◌, arith}
use Rattle.std.specs.Option.{is_some}
use Rattle.std.proofs.Math.ListN.{length-set, length-replicate}
use Rattle.std.proofs.lemmas.List.{get_or-replicate, map-append}
use Rattle.std.proofs.lemmas.Bool.{cases_lt}
use Rattle.std.proofs.lemmas.Bool.Decides.{nat_tests}
use Rattle.serde_json.specs.Data.{Data, Items}
use Rattle.serde_json.specs.Find.{as_array}
use Rattle.gap_base.specs.declared.weight.Weight.{Weight}
use Rattle.gap_job.specs.declared.fault.Key.TheVariants as key
use Rattle.gap_job.specs.declared.fault.JobFault.{JobFault}
use Rattle.gap_job.specs.declared.fault.JobFault.TheVariants.{Kind, Range, Asset}
use Rattle.gap_job.specs.declared.entry.Two.{Two}
use Rattle.gap_job.specs.declared.present.Present.{Present}
use Rattle.gap_job.specs.Numbers.{list_of, entries_of}
use Rattle.gap_job.specs.Entries.{two_of, is_new, present_after, with_present, present_start, present_of_list, present_of, weights_after, with_weight, weights_of_list, weights_of}
use Rattle.gap_job.specs.Sayings.{said, is_within, present_for, asset_of, present_fault, present_wrong, weight_fault, weight_wrong, ArePresent, AreWeights, listed, values_of, TellsPresent, TellsWeights}
use Rattle.gap_job.proofs.Sayings.{Told, all_sound, at_fault, told_by, IsWalk, walk, list_keeps, new_agrees}
use Rattle.gap_job.proofs.LimitsSaid.{by_tests, fine, in_range, not_taken}

-- the lots at present after an entry, if nothing is wrong with it
next_present : Present → Option Two → Present
next_present s None = s
next_present s (Some e) = record { lots = set s.lots (e.first - 1) e.second; named = set s.named (e.first - 1) 1 }

-- the lots so far, and a mark for each asset that was named
record Said (n : ℕ) (ds : List Data) (s : Present) : Type 0 where
  present : ArePresent n ds s.lots
  named_length : length s.named ≡ n
  named_is : (i : ℕ) → i < n → get_or s.named i 0 ≡ said (λ e. 1) 0 (present_for (i + 1) ds)

present_step : (n : ℕ) (s : Present) (taken : Bool) (p : Option Two) → ((e : Two) → p ≡ Some e → is_new n s.named e.first ≡ (is_within 1 n e.first && not taken)) → present_after n s p ≡ told_by (present_fault n taken p) (next_present s p)
unfolding present_after present_fault next_present
present_step n s taken None agrees = refl
present_step n s taken (Some e) agrees =
    rw (agrees e refl) (by_tests (is_within 1 n e.first && not taken) (nat_le e.second 10000)
    (record { lots = set s.lots (e.first - 1) e.second; named = set s.named (e.first - 1) 1 }) (Asset key.Present) (Range key.Present))

present_fine : (n : ℕ) (taken : Bool) (p : Option Two) → present_fault n taken p ≡ None → (e : Two) × (p ≡ Some e) × (1 ≤ e.first) × (e.first ≤ n) × (taken ≡ false)
unfolding present_fault
present_fine n taken None e = absurd (some_none e)
  where
    some_none : ◌≡◌ {A = Option JobFault} (Some (Kind key.Present)) None → ⊥
    some_none e = cc
present_fine n taken (Some x) e =
    let r = in_range n x.first taken (fine (is_within 1 n x.first && not taken) (nat_le x.second 10000) (Asset key.Present) (Range key.Present) e) in
    (x, refl, r.0, r.1, r.2)

present_keep : (n : ℕ) (before : List Data) (d : Data) (s : Present) (e : Two) → Said n before s → two_of d ≡ Some e → 1 ≤ e.first → e.first ≤ n → present_for e.first before ≡ None → Said n (before ++ d ∷ []) (next_present s (Some e))
unfolding next_present
present_keep n before d s e r p low high none = record {
  present = record {
    lots_length = length-set s.lots (e.first - 1) e.second ∙ r.present.lots_length;
    lots_are = list_keeps two_of (λ x. x.first) (λ x. x.second) 0 n s.lots before d e r.present.lots_length r.present.lots_are p low high none;
  };
  named_length = length-set s.named (e.first - 1) 1 ∙ r.named_length;
  named_is = list_keeps two_of (λ x. x.first) (λ x. 1) 0 n s.named before d e r.named_length r.named_is p low high none;
}

present_walk : (n : ℕ) → IsWalk (with_present n) (λ s d. next_present s (two_of d)) (present_wrong n) (Said n)
present_walk n = record {
  stays = λ f d. refl;
  steps = λ before d s r. present_step n s (is_some (present_for (asset_of (λ e. e.first) (two_of d)) before)) (two_of d)
      (λ e p. rw p (new_agrees two_of (λ x. x.first) n s.named before e.first r.named_is));
  keeps = λ before d s r none. (let ok = present_fine n (is_some (present_for (asset_of (λ e. e.first) (two_of d)) before)) (two_of d) none in
      let free : is_some (present_for ok.0.first before) ≡ false = rw ok.1 at ok.4 in
      rw ok.1 (present_keep n before d s ok.0 r ok.1 ok.2 ok.3 (not_taken (present_for ok.0.first before) free)));
}

present_begin : (n : ℕ) → Said n [] (present_start n)
present_begin n = record {
  present = record { lots_length = length-replicate n 0; lots_are = λ i less. get_or-replicate n i 0 0 less };
  named_length = length-replicate n 0;
  named_is = λ i less. get_or-replicate n i 0 0 less;
}

present_tell : (n : ℕ) (ds : List Data) (r : Result Present JobFault) → Told (present_wrong n) (Said n) ds r → TellsPresent n (Some ds) r
present_tell n ds r (all_sound s sound is) = (sound, is.present)
present_tell n ds r (at_fault f first) = first

present_listed : (n : ℕ) (o : Option Items) → TellsPresent n (listed o) (present_of_list n (entries_of key.Present o))
present_listed n None = refl
present_listed n (Some items) =
    present_tell n (list_of items) (fold (with_present n) (Ok (present_start n)) (list_of items))
    (walk (with_present n) (λ s d. next_present s (two_of d)) (present_wrong n) (Said n) (present_walk n) (list_of items) (present_start n) (present_begin n))

pub present_told : (n : ℕ) (o : Option Data) → TellsPresent n (values_of o) (present_of n o)
unfolding present_of
present_told n None = (λ k less. absurd (omega arith), (present_begin n).present)
present_told n (Some d) = present_listed n (as_array d)

-- the weights after an entry, if nothing is wrong with it
next_weights : List Weight → Option Two → List Weight
next_weights ws None = ws
next_weights ws (Some e) = ws ++ record { p = e.first; q = e.second } ∷ []

weight_step : (ws : List Weight) (p : Option Two) → weights_after ws p ≡ told_by (weight_fault p) (next_weights ws p)
unfolding weights_after weight_fault next_weights
weight_step ws None = refl
weight_step ws (Some e) = by_test (is_within 1 100 e.second && nat_le e.first e.second) (ws ++ record { p = e.first; q = e.second } ∷ []) (Range key.Weights)
  where
    by_test : {S : Type 0} (y : Bool) (s : S) (g : JobFault) → cond y (Ok s) (Err g) ≡ told_by (cond y None (Some g)) s
    by_test true s g = refl
    by_test false s g = refl

weight_keep : (before : List Data) (d : Data) (ws : List Weight) (p : Option Two) → two_of d ≡ p → weight_fault p ≡ None → AreWeights before ws → AreWeights (before ++ d ∷ []) (next_weights ws p)
unfolding weight_fault next_weights
weight_keep before d ws None e none are = absurd (some_none none)
  where
    some_none : ◌≡◌ {A = Option JobFault} (Some (Kind key.Weights)) None → ⊥
    some_none e = cc
weight_keep before d ws (Some x) e none are =
    map-append two_of before (d ∷ []) ∙ rw (are, e) (sym (map-append (λ w. Some (record { first = w.p; second = w.q })) ws (record { p = x.first; q = x.second } ∷ [])))

weight_walk : IsWalk with_weight (λ ws d. next_weights ws (two_of d)) weight_wrong AreWeights
weight_walk = record {
  stays = λ f d. refl;
  steps = λ before d ws are. weight_step ws (two_of d);
  keeps = λ before d ws are none. weight_keep before d ws (two_of d) refl none are;
}

-- a count is in its range, or isn't
in_count : (k : ℕ) → (nat_le 1 k && nat_le k 101) ≡ true → (1 ≤ k) × (k ≤ 101)
in_count k e = (grind (arith, nat_tests), grind (arith, nat_tests))

off_count : (k : ℕ) → (nat_le 1 k && nat_le k 101) ≡ false → (k ≡ 0) ⊎ (101 < k)
off_count k e = ⊎_elim (λ more. inr more) (λ few. ⊎_elim (λ none. inl (omega arith)) (λ some. absurd (contra k e some few)) (cases_lt k 1)) (cases_lt 101 k)
  where
    contra : (k : ℕ) → (nat_le 1 k && nat_le k 101) ≡ false → 1 ≤ k → k ≤ 101 → ⊥
    contra k e h l = grind (arith, nat_tests)

weights_tell : (ds : List Data) (r : Result (List Weight) JobFault) → (1 ≤ length ds) × (length ds ≤ 101) → Told weight_wrong AreWeights ds r → TellsWeights (Some ds) r
weights_tell ds r fits (all_sound ws sound are) = (fits.0, fits.1, sound, are)
weights_tell ds r fits (at_fault f first) = inl (fits.0, fits.1, first)

weights_counted : (ds : List Data) (b : Bool) → (nat_le 1 (length ds) && nat_le (length ds) 101) ≡ b → TellsWeights (Some ds) (cond b (fold with_weight (Ok []) ds) (Err (Range key.Weights)))
weights_counted ds true e = weights_tell ds (fold with_weight (Ok []) ds) (in_count (length ds) e) (walk with_weight (λ ws d. next_weights ws (two_of d)) weight_wrong AreWeights weight_walk ds [] refl)
weights_counted ds false e = inr (off_count (length ds) e, refl)

weights_listed : (o : Option Items) → TellsWeights (listed o) (weights_of_list (entries_of key.Weights o))
weights_listed None = refl
weights_listed (Some items) = weights_counted (list_of items) (nat_le 1 (length (list_of items)) && nat_le (length (list_of items)) 101) refl

pub weights_told : (d : Data) → TellsWeights (listed (as_array d)) (weights_of (Some d))
unfolding weights_of
weights_told d = weights_listed (as_array d)
