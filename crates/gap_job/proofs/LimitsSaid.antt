-- The limits, the lots at present and the weights of a job are what their entries say.
use Rattle.std.proofs.Common.{◌≡◌, ℕ, ◌+◌, ◌-◌, ◌<◌, ◌≤◌, Bool, true, false, not, ◌&&◌, cond, nat_le, Option, Some, None, List, [], ◌∷◌, ◌++◌, length, get_or, set, fold, Result, Ok, Err, refl, ◌∙◌, arith}
use Rattle.std.specs.Option.{is_some}
use Rattle.std.proofs.Math.ListN.{length-set, length-replicate}
use Rattle.std.proofs.lemmas.List.{get_or-replicate}
use Rattle.std.proofs.lemmas.Bool.Decides.{nat_tests}
use Rattle.serde_json.specs.Data.{Data, Items}
use Rattle.serde_json.specs.Find.{as_array}
use Rattle.gap_job.specs.declared.fault.Key.TheVariants as key
use Rattle.gap_job.specs.declared.fault.JobFault.{JobFault}
use Rattle.gap_job.specs.declared.fault.JobFault.TheVariants.{Kind, Range, Asset}
use Rattle.gap_job.specs.declared.entry.Three.{Three}
use Rattle.gap_job.specs.declared.limits.Limits.{Limits}
use Rattle.gap_job.specs.Numbers.{list_of, entries_of}
use Rattle.gap_job.specs.Entries.{three_of, is_new, limits_after, with_limit, limits_start, limits_of_list, limits_of}
use Rattle.gap_job.specs.Sayings.{said, is_within, limits_for, asset_of, limits_fault, limits_wrong, AreLimits, listed, values_of, TellsLimits}
use Rattle.gap_job.proofs.Sayings.{Told, all_sound, at_fault, told_by, IsWalk, walk, list_keeps, new_agrees}

-- an answer by two tests, in the two forms
pub by_tests : {S : Type 0} (x y : Bool) (s : S) (f g : JobFault) → cond (not x) (Err f) (cond y (Ok s) (Err g)) ≡ told_by (cond (not x) (Some f) (cond y None (Some g))) s
by_tests true true s f g = refl
by_tests true false s f g = refl
by_tests false y s f g = refl

-- nothing is wrong only where both tests pass
pub fine : (x y : Bool) (f g : JobFault) → cond (not x) (Some f) (cond y None (Some g)) ≡ None → x ≡ true
fine true y f g e = refl
fine false y f g e = absurd (some_none f e)
  where
    some_none : (f : JobFault) → ◌≡◌ {A = Option JobFault} (Some f) None → ⊥
    some_none f e = cc

pub in_range : (n a : ℕ) (taken : Bool) → (is_within 1 n a && not taken) ≡ true → (1 ≤ a) × (a ≤ n) × (taken ≡ false)
in_range n a true e = absurd (no_way (nat_le 1 a && nat_le a n) e)
  where
    no_way : (b : Bool) → (b && false) ≡ true → ⊥
    no_way true e = cc
    no_way false e = cc
in_range n a false e = (low a n e, high a n e, refl)
  where
    low : (a n : ℕ) → (nat_le 1 a && nat_le a n && true) ≡ true → 1 ≤ a
    low a n e = grind (arith, nat_tests)

    high : (a n : ℕ) → (nat_le 1 a && nat_le a n && true) ≡ true → a ≤ n
    high a n e = grind (arith, nat_tests)

pub not_taken : {T : Type 0} (o : Option T) → is_some o ≡ false → o ≡ None
not_taken None e = refl
not_taken (Some x) e = absurd (no_way e)
  where
    no_way : true ≡ false → ⊥
    no_way e = cc

-- limits after an entry, if nothing is wrong with it
next_limits : Limits → Option Three → Limits
next_limits s None = s
next_limits s (Some e) = record {
  least = set s.least (e.first - 1) e.second;
  greatest = set s.greatest (e.first - 1) e.third;
  named = set s.named (e.first - 1) 1;
}

-- the limits so far, and a mark for each asset that was named
record Said (n least greatest : ℕ) (ds : List Data) (s : Limits) : Type 0 where
  limits : AreLimits n least greatest ds s.least s.greatest
  named_length : length s.named ≡ n
  named_is : (i : ℕ) → i < n → get_or s.named i 0 ≡ said (λ e. 1) 0 (limits_for (i + 1) ds)

limits_step : (n lots : ℕ) (s : Limits) (taken : Bool) (p : Option Three) → ((e : Three) → p ≡ Some e → is_new n s.named e.first ≡ (is_within 1 n e.first && not taken)) → limits_after n lots s p ≡ told_by (limits_fault n lots taken p) (next_limits s p)
unfolding limits_after limits_fault next_limits
limits_step n lots s taken None agrees = refl
limits_step n lots s taken (Some e) agrees =
    rw (agrees e refl) (by_tests (is_within 1 n e.first && not taken) (is_within 1 lots e.second && is_within 1 lots e.third)
    (record { least = set s.least (e.first - 1) e.second; greatest = set s.greatest (e.first - 1) e.third; named = set s.named (e.first - 1) 1 }) (Asset key.Limits) (Range key.Limits))

limits_fine : (n lots : ℕ) (taken : Bool) (p : Option Three) → limits_fault n lots taken p ≡ None → (e : Three) × (p ≡ Some e) × (1 ≤ e.first) × (e.first ≤ n) × (taken ≡ false)
unfolding limits_fault
limits_fine n lots taken None e = absurd (some_none e)
  where
    some_none : ◌≡◌ {A = Option JobFault} (Some (Kind key.Limits)) None → ⊥
    some_none e = cc
limits_fine n lots taken (Some x) e =
    let r = in_range n x.first taken (fine (is_within 1 n x.first && not taken) (is_within 1 lots x.second && is_within 1 lots x.third) (Asset key.Limits) (Range key.Limits) e) in
    (x, refl, r.0, r.1, r.2)

limits_keep : (n least greatest : ℕ) (before : List Data) (d : Data) (s : Limits) (e : Three) → Said n least greatest before s → three_of d ≡ Some e → 1 ≤ e.first → e.first ≤ n → limits_for e.first before ≡ None → Said n least greatest (before ++ d ∷ []) (next_limits s (Some e))
unfolding next_limits
limits_keep n least greatest before d s e r p low high none = record {
  limits = record {
    least_length = length-set s.least (e.first - 1) e.second ∙ r.limits.least_length;
    greatest_length = length-set s.greatest (e.first - 1) e.third ∙ r.limits.greatest_length;
    least_is = list_keeps three_of (λ x. x.first) (λ x. x.second) least n s.least before d e r.limits.least_length r.limits.least_is p low high none;
    greatest_is = list_keeps three_of (λ x. x.first) (λ x. x.third) greatest n s.greatest before d e r.limits.greatest_length r.limits.greatest_is p low high none;
  };
  named_length = length-set s.named (e.first - 1) 1 ∙ r.named_length;
  named_is = list_keeps three_of (λ x. x.first) (λ x. 1) 0 n s.named before d e r.named_length r.named_is p low high none;
}

limits_walk : (n lots least greatest : ℕ) → IsWalk (with_limit n lots) (λ s d. next_limits s (three_of d)) (limits_wrong n lots) (Said n least greatest)
limits_walk n lots least greatest = record {
  stays = λ f d. refl;
  steps = λ before d s r. limits_step n lots s (is_some (limits_for (asset_of (λ e. e.first) (three_of d)) before)) (three_of d)
      (λ e p. rw p (new_agrees three_of (λ x. x.first) n s.named before e.first r.named_is));
  keeps = λ before d s r none. (let ok = limits_fine n lots (is_some (limits_for (asset_of (λ e. e.first) (three_of d)) before)) (three_of d) none in
      let free : is_some (limits_for ok.0.first before) ≡ false = rw ok.1 at ok.4 in
      rw ok.1 (limits_keep n least greatest before d s ok.0 r ok.1 ok.2 ok.3 (not_taken (limits_for ok.0.first before) free)));
}

limits_begin : (n least greatest : ℕ) → Said n least greatest [] (limits_start n least greatest)
limits_begin n least greatest = record {
  limits = record {
    least_length = length-replicate n least;
    greatest_length = length-replicate n greatest;
    least_is = λ i less. get_or-replicate n i least 0 less;
    greatest_is = λ i less. get_or-replicate n i greatest 0 less;
  };
  named_length = length-replicate n 0;
  named_is = λ i less. get_or-replicate n i 0 0 less;
}

limits_tell : (n lots least greatest : ℕ) (ds : List Data) (r : Result Limits JobFault) → Told (limits_wrong n lots) (Said n least greatest) ds r → TellsLimits n lots least greatest (Some ds) r
limits_tell n lots least greatest ds r (all_sound s sound is) = (sound, is.limits)
limits_tell n lots least greatest ds r (at_fault f first) = first

limits_listed : (n lots least greatest : ℕ) (o : Option Items) → TellsLimits n lots least greatest (listed o) (limits_of_list n lots least greatest (entries_of key.Limits o))
limits_listed n lots least greatest None = refl
limits_listed n lots least greatest (Some items) =
    limits_tell n lots least greatest (list_of items) (fold (with_limit n lots) (Ok (limits_start n least greatest)) (list_of items))
    (walk (with_limit n lots) (λ s d. next_limits s (three_of d)) (limits_wrong n lots) (Said n least greatest) (limits_walk n lots least greatest) (list_of items) (limits_start n least greatest) (limits_begin n least greatest))

pub limits_told : (n lots least greatest : ℕ) (o : Option Data) → TellsLimits n lots least greatest (values_of o) (limits_of n lots least greatest o)
unfolding limits_of
limits_told n lots least greatest None = (λ k less. absurd (omega arith), (limits_begin n least greatest).limits)
limits_told n lots least greatest (Some d) = limits_listed n lots least greatest (as_array d)
