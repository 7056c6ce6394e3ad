-- The lists of a job are in their ranges.
use Rattle.std.proofs.Common.{◌≡◌, ℕ, ◌+◌, ◌-◌, ◌<◌, ◌≤◌, Bool, true, false, not, ◌&&◌, cond, nat_le, inl, inr, Option, Some, None, List, [], ◌∷◌, ◌++◌, length, get_or, set, fold, replicate, Result, Ok, Err, refl, sym, ap, ◌∙◌, subst, arith}
use Rattle.std.specs.List.{All}
use Rattle.std.proofs.Math.ListN.{length-set, length-replicate}
use Rattle.std.proofs.lemmas.Bool.{cases_eq}
use Rattle.std.proofs.lemmas.Bool.Decides.{nat_tests}
use Rattle.std.proofs.lemmas.List.{get_or-replicate, get_or-set_same, get_or-set_other, length-append}
use Rattle.std.proofs.lemmas.List.Elements.{All-append, All-cons, All-nil}
use Rattle.serde_json.specs.Data.{Data}
use Rattle.serde_json.specs.Find.{as_array}
use Rattle.gap_base.specs.declared.weight.Weight.{Weight}
use Rattle.gap_instance.specs.Instances.{AreBetween}
use Rattle.gap_job.specs.declared.fault.Key.TheVariants as key
use Rattle.gap_job.specs.declared.fault.JobFault.{JobFault}
use Rattle.gap_job.specs.declared.fault.JobFault.TheVariants.{Kind, Range, Asset}
use Rattle.gap_job.specs.declared.entry.Two.{Two}
use Rattle.gap_job.specs.declared.entry.Three.{Three}
use Rattle.gap_job.specs.declared.limits.Limits.{Limits}
use Rattle.gap_job.specs.declared.present.Present.{Present}
use Rattle.gap_job.specs.Numbers.{entries_of}
use Rattle.gap_job.specs.Entries.{two_of, three_of, limits_after, with_limit, limits_start, limits_of_list, limits_of, present_after, with_present, present_start, present_of_list, present_of, weights_after, with_weight, weights_of_list, weights_of}
use Rattle.gap_job.specs.Ranges.{IsWeight}

between_same : (n low high : ℕ) (xs : List ℕ) (i k v : ℕ) → AreBetween n low high xs → low ≤ v → v ≤ high → k < n → (low ≤ get_or (set xs i v) k 0) × (get_or (set xs i v) k 0 ≤ high)
between_same n low high xs i k v are least most inside =
    elim (cases_eq k i) [
      | inl same ↦
          let count = are.count in
          let is : get_or (set xs i v) k 0 ≡ v = subst (λ (j : ℕ). get_or (set xs i v) j 0 ≡ v) (sym same) (get_or-set_same xs i v 0 (omega arith)) in
          (subst (λ (z : ℕ). low ≤ z) (sym is) least, subst (λ (z : ℕ). z ≤ high) (sym is) most)
      | inr other ↦
          let is : get_or (set xs i v) k 0 ≡ get_or xs k 0 = get_or-set_other xs i k v 0 other in
          (subst (λ (z : ℕ). low ≤ z) (sym is) (are.least k inside), subst (λ (z : ℕ). z ≤ high) (sym is) (are.most k inside))
    ]

-- a number in the range is put into a list of numbers in it
between_set : (n low high : ℕ) (xs : List ℕ) (i v : ℕ) → AreBetween n low high xs → low ≤ v → v ≤ high → AreBetween n low high (set xs i v)
between_set n low high xs i v are least most = record {
  count = length-set xs i v ∙ are.count;
  least = λ k inside. (between_same n low high xs i k v are least most inside).0;
  most = λ k inside. (between_same n low high xs i k v are least most inside).1;
}

between_replicate : (n low high v : ℕ) → low ≤ v → v ≤ high → AreBetween n low high (replicate n v)
between_replicate n low high v least most = record {
  count = length-replicate n v;
  least = λ k inside. subst (λ (z : ℕ). low ≤ z) (sym (get_or-replicate n k v 0 inside)) least;
  most = λ k inside. subst (λ (z : ℕ). z ≤ high) (sym (get_or-replicate n k v 0 inside)) most;
}

-- a fault stays
fold_fault : {S : Type 0} (f : Result S JobFault → Data → Result S JobFault) (e : JobFault) → ((d : Data) → f (Err e) d ≡ Err e) → (ds : List Data) → fold f (Err e) ds ≡ Err e
fold_fault f e stays [] = refl
fold_fault f e stays (d ∷ ds) = ap (λ a. fold f a ds) (stays d) ∙ fold_fault f e stays ds

-- what each step keeps, the walk over a list does
fold_keeps : {S : Type 0} (f : Result S JobFault → Data → Result S JobFault) (P : S → Type 0) → ((e : JobFault) (d : Data) → f (Err e) d ≡ Err e) → ((s t : S) (d : Data) → P s → f (Ok s) d ≡ Ok t → P t) → (ds : List Data) (s t : S) → P s → fold f (Ok s) ds ≡ Ok t → P t
fold_keeps f P stays keeps [] s t holds is = let same : s ≡ t = cc in subst P same holds
fold_keeps {S = S} f P stays keeps (d ∷ ds) s t holds is = fold_step (f (Ok s) d) refl is (λ u. fold_keeps f P stays keeps ds u t)
  where
    no_way : {a : Result S JobFault} {e : JobFault} {t : S} → a ≡ Err e → a ≡ Ok t → ⊥
    no_way h g = cc

    fold_step : (r : Result S JobFault) → f (Ok s) d ≡ r → fold f r ds ≡ Ok t → ((u : S) → P u → fold f (Ok u) ds ≡ Ok t → P t) → P t
    fold_step (Ok u) step is rest = rest u (keeps s u d holds step) is
    fold_step (Err e) step is rest = absurd (no_way (fold_fault f e (stays e) ds) is)

-- an answer by two tests is one only where both pass
both_pass : {S : Type 0} (a b : Bool) (u t : S) (f g : JobFault) → cond (not a) (Err f) (cond b (Ok u) (Err g)) ≡ Ok t → (b ≡ true) × (u ≡ t)
both_pass true true u t f g e = (refl, cc)
both_pass true false u t f g e = absurd (cc)
both_pass false b u t f g e = absurd (cc)

-- the limits of n assets are from 1 to so many lots
abbrev pub LimitsBetween : ℕ → ℕ → Limits → Type 0
LimitsBetween n lots s = AreBetween n 1 lots s.least × AreBetween n 1 lots s.greatest

limits_step : (n lots : ℕ) (s t : Limits) (o : Option Three) → LimitsBetween n lots s → limits_after n lots s o ≡ Ok t → LimitsBetween n lots t
unfolding limits_after
limits_step n lots s t None are is = absurd (cc)
limits_step n lots s t (Some e) are is =
    let pass = both_pass _ ((nat_le 1 e.second && nat_le e.second lots) && (nat_le 1 e.third && nat_le e.third lots)) _ t _ _ is in
    let tests = pass.0 in
    let ranges : (1 ≤ e.second) × (e.second ≤ lots) × (1 ≤ e.third) × (e.third ≤ lots) = in_both e.second e.third lots tests in
    subst (LimitsBetween n lots) pass.1 (between_set n 1 lots s.least _ e.second are.0 ranges.0 ranges.1, between_set n 1 lots s.greatest _ e.third are.1 ranges.2 ranges.3)
  where
    in_both : (a b lots : ℕ) → ((nat_le 1 a && nat_le a lots) && (nat_le 1 b && nat_le b lots)) ≡ true → (1 ≤ a) × (a ≤ lots) × (1 ≤ b) × (b ≤ lots)
    in_both a b lots h = (grind (arith, nat_tests), grind (arith, nat_tests), grind (arith, nat_tests), grind (arith, nat_tests))

limits_in_list : (n lots least greatest : ℕ) (r : Result (List Data) JobFault) (t : Limits) → LimitsBetween n lots (limits_start n least greatest) → limits_of_list n lots least greatest r ≡ Ok t → LimitsBetween n lots t
limits_in_list n lots least greatest (Ok ds) t begin is = fold_keeps (with_limit n lots) (LimitsBetween n lots) (λ e d. refl) (λ s u d holds step. limits_step n lots s u (three_of d) holds step) ds _ t begin is
limits_in_list n lots least greatest (Err e) t begin is = absurd (cc)

-- the limits that a job says are from 1 to its lots, where those for all assets are
pub limits_between : (n lots least greatest : ℕ) (o : Option Data) (t : Limits) → 1 ≤ least → least ≤ lots → 1 ≤ greatest → greatest ≤ lots → limits_of n lots least greatest o ≡ Ok t → LimitsBetween n lots t
unfolding limits_of
limits_between n lots least greatest None t a b c d is =
    let same : limits_start n least greatest ≡ t = cc in
    subst (LimitsBetween n lots) same (between_replicate n 1 lots least a b, between_replicate n 1 lots greatest c d)
limits_between n lots least greatest (Some value) t a b c d is =
    limits_in_list n lots least greatest (entries_of key.Limits (as_array value)) t (between_replicate n 1 lots least a b, between_replicate n 1 lots greatest c d) is

abbrev pub PresentBetween : ℕ → Present → Type 0
PresentBetween n s = AreBetween n 0 10000 s.lots

present_step : (n : ℕ) (s t : Present) (o : Option Two) → PresentBetween n s → present_after n s o ≡ Ok t → PresentBetween n t
unfolding present_after
present_step n s t None are is = absurd (cc)
present_step n s t (Some e) are is =
    let pass = both_pass _ (nat_le e.second 10000) _ t _ _ is in
    subst (PresentBetween n) pass.1 (between_set n 0 10000 s.lots _ e.second are (omega arith) (at_most e.second pass.0))
  where
    at_most : (a : ℕ) → nat_le a 10000 ≡ true → a ≤ 10000
    at_most a h = grind (arith, nat_tests)

present_in_list : (n : ℕ) (r : Result (List Data) JobFault) (t : Present) → PresentBetween n (present_start n) → present_of_list n r ≡ Ok t → PresentBetween n t
present_in_list n (Ok ds) t begin is = fold_keeps (with_present n) (PresentBetween n) (λ e d. refl) (λ s u d holds step. present_step n s u (two_of d) holds step) ds _ t begin is
present_in_list n (Err e) t begin is = absurd (cc)

-- the present lots that a job says are at most 10000
pub present_between : (n : ℕ) (o : Option Data) (t : Present) → present_of n o ≡ Ok t → PresentBetween n t
unfolding present_of
present_between n None t is =
    let same : present_start n ≡ t = cc in
    subst (PresentBetween n) same (between_replicate n 0 10000 0 (omega arith) (omega arith))
present_between n (Some value) t is = present_in_list n (entries_of key.Present (as_array value)) t (between_replicate n 0 10000 0 (omega arith) (omega arith)) is

-- one test for the answer
one_passes : {S : Type 0} (b : Bool) (u t : S) (g : JobFault) → cond b (Ok u) (Err g) ≡ Ok t → (b ≡ true) × (u ≡ t)
one_passes true u t g e = (refl, cc)
one_passes false u t g e = absurd (cc)

weights_step : (ws us : List Weight) (o : Option Two) → weights_after ws o ≡ Ok us → All IsWeight ws → (length us ≡ length ws + 1) × All IsWeight us
unfolding weights_after
weights_step ws us None is are = absurd (cc)
weights_step ws us (Some e) is are =
    let pass = one_passes (nat_le 1 e.second && nat_le e.second 100 && nat_le e.first e.second) _ us _ is in
    let next : Weight = record { p = e.first; q = e.second } in
    let fine : IsWeight next = is_weight e.first e.second pass.0 in
    subst (λ (x : List Weight). (length x ≡ length ws + 1) × All IsWeight x) pass.1
    (length-append ws (next ∷ []), All-append IsWeight ws (next ∷ []) are (All-cons IsWeight next [] fine (All-nil IsWeight)))
  where
    is_weight : (a b : ℕ) → (nat_le 1 b && nat_le b 100 && nat_le a b) ≡ true → IsWeight (record { p = a; q = b })
    is_weight a b h = record { least = grind (arith, nat_tests); most = grind (arith, nat_tests); within = grind (arith, nat_tests) }

weights_fold : (ds : List Data) (ws us : List Weight) → All IsWeight ws → fold with_weight (Ok ws) ds ≡ Ok us → (length us ≡ length ws + length ds) × All IsWeight us
weights_fold [] ws us are is =
    let same : ws ≡ us = cc in
    subst (λ (x : List Weight). (length x ≡ length ws + 0) × All IsWeight x) same (omega arith, are)
weights_fold (d ∷ ds) ws us are is = one_more (weights_after ws (two_of d)) refl is (λ vs. weights_fold ds vs us)
  where
    no_way : {a : Result (List Weight) JobFault} {e : JobFault} {t : List Weight} → a ≡ Err e → a ≡ Ok t → ⊥
    no_way h g = cc

    one_more : (r : Result (List Weight) JobFault) → weights_after ws (two_of d) ≡ r → fold with_weight r ds ≡ Ok us → ((vs : List Weight) → All IsWeight vs → fold with_weight (Ok vs) ds ≡ Ok us → (length us ≡ length vs + length ds) × All IsWeight us) → (length us ≡ length ws + length (d ∷ ds)) × All IsWeight us
    one_more (Ok vs) step is more =
        let here = weights_step ws vs (two_of d) step are in
        let rest = more vs here.1 is in
        let count = here.0 in
        let longer = rest.0 in
        (omega arith, rest.1)
    one_more (Err e) step is more = absurd (no_way (fold_fault with_weight e (λ d. refl) ds) is)

-- how many weights there are, and their ranges
abbrev pub AreInRange : List Weight → Type 0
AreInRange ws = (1 ≤ length ws) × (length ws ≤ 101) × All IsWeight ws

weights_in_list : (r : Result (List Data) JobFault) (us : List Weight) → weights_of_list r ≡ Ok us → AreInRange us
weights_in_list (Ok ds) us is = counted (nat_le 1 (length ds) && nat_le (length ds) 101) refl is
  where
    counted : (b : Bool) → (nat_le 1 (length ds) && nat_le (length ds) 101) ≡ b → cond b (fold with_weight (Ok []) ds) (Err (Range key.Weights)) ≡ Ok us → AreInRange us
    counted true test is =
        let all = weights_fold ds [] us (All-nil IsWeight) is in
        let count = all.0 in
        let low : 1 ≤ length ds = grind (arith, nat_tests) in
        let high : length ds ≤ 101 = grind (arith, nat_tests) in
        (omega arith, omega arith, all.1)
    counted false test is = absurd (cc)
weights_in_list (Err e) us is = absurd (cc)

-- the weights that a job says are in their ranges
pub weights_in_range : (o : Option Data) (us : List Weight) → weights_of o ≡ Ok us → AreInRange us
unfolding weights_of
weights_in_range None us is = absurd (cc)
weights_in_range (Some value) us is = weights_in_list (entries_of key.Weights (as_array value)) us is
