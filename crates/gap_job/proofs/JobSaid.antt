-- What each key's reading gives, in the words of the file.
use Rattle.std.proofs.Common.{◌≡◌, ℕ, ◌≤◌, ◌&&◌, Bool, true, false, cond, nat_le, Option, Some, None, unwrap_or, List, [], Result, Ok, Err, refl, sym, ap, ◌∙◌, subst, arith}
use Rattle.std.specs.Prelude.{option_and_then, codes}
use Rattle.std.proofs.lemmas.Bool.Decides.{nat_tests}
use Rattle.serde_json.specs.Data.{Data}
use Rattle.serde_json.specs.Find.{get, as_array}
use Rattle.gap_base.specs.declared.weight.Weight.{Weight}
use Rattle.gap_job.specs.declared.fault.Key.{Key}
use Rattle.gap_job.specs.declared.fault.Key.TheVariants as key
use Rattle.gap_job.specs.declared.fault.JobFault.{JobFault}
use Rattle.gap_job.specs.declared.fault.JobFault.TheVariants.{Kind, Range}
use Rattle.gap_job.specs.declared.entry.Two.{Two}
use Rattle.gap_job.specs.declared.held.HeldRange.{HeldRange}
use Rattle.gap_job.specs.declared.limits.Limits.{Limits}
use Rattle.gap_job.specs.declared.present.Present.{Present}
use Rattle.gap_job.specs.Numbers.{number_of, in_range, needed, number_or, number_if, some_number}
use Rattle.gap_job.specs.Held.{bounds_of, held_within, held_of}
use Rattle.gap_job.specs.Entries.{limits_of, present_of, weights_of}
use Rattle.gap_job.specs.Sayings.{AreSound, limits_wrong, present_wrong, weight_wrong, AreLimits, ArePresent, AreWeights, listed, values_of, TellsLimits, TellsPresent, TellsWeights}
use Rattle.gap_job.specs.Words.{number_said, entries_said, SaysJob}
use Rattle.gap_job.proofs.LimitsSaid.{limits_told}
use Rattle.gap_job.proofs.PresentSaid.{present_told, weights_told}

err_ok : {A : Type 0} (f : JobFault) (a : A) → ◌≡◌ {A = Result A JobFault} (Err f) (Ok a) → ⊥
err_ok f a e = cc

ok_is : {A : Type 0} (a b : A) → ◌≡◌ {A = Result A JobFault} (Ok a) (Ok b) → a ≡ b
ok_is a b e = cc

-- a number that was in its range
ranged : (k : Key) (low high v : ℕ) (o : Option ℕ) → in_range k low high o ≡ Ok v → (o ≡ Some v) × (low ≤ v) × (v ≤ high)
unfolding in_range
ranged k low high v None e = absurd (err_ok (Kind k) v e)
ranged k low high v (Some w) e = by_test (nat_le low w && nat_le w high) refl e
  where
    low_of : (low high w : ℕ) → (nat_le low w && nat_le w high) ≡ true → low ≤ w
    low_of low high w e = grind (arith, nat_tests)

    high_of : (low high w : ℕ) → (nat_le low w && nat_le w high) ≡ true → w ≤ high
    high_of low high w e = grind (arith, nat_tests)

    by_test : (b : Bool) → (nat_le low w && nat_le w high) ≡ b → cond b (Ok w) (Err (Range k)) ≡ Ok v → (◌≡◌ {A = Option ℕ} (Some w) (Some v)) × (low ≤ v) × (v ≤ high)
    by_test true t q = let same : w ≡ v = ok_is w v q in (ap (λ (x : ℕ). Some x) same, subst (λ (x : ℕ). low ≤ x) same (low_of low high w t), subst (λ (x : ℕ). x ≤ high) same (high_of low high w t))
    by_test false t q = absurd (err_ok (Range k) v q)

pub needed_said : (k : Key) (low high v : ℕ) (o : Option Data) → needed k low high o ≡ Ok v → (option_and_then number_of o ≡ Some v) × (low ≤ v) × (v ≤ high)
needed_said k low high v None e = absurd (err_ok (Kind k) v e)
needed_said k low high v (Some d) e = ranged k low high v (number_of d) e

pub or_said : (k : Key) (low high absent v : ℕ) (o : Option Data) → number_or k low high absent o ≡ Ok v → v ≡ unwrap_or (option_and_then number_of o) absent
or_said k low high absent v None e = sym (ok_is absent v e)
or_said k low high absent v (Some d) e = let r = ranged k low high v (number_of d) e in rw r.0 refl

pub if_said : (k : Key) (low high : ℕ) (v : Option ℕ) (o : Option Data) → number_if k low high o ≡ Ok v → v ≡ option_and_then number_of o
if_said k low high v None e = sym (ok_is None v e)
if_said k low high v (Some d) e = found (in_range k low high (number_of d)) refl e
  where
    found : (r : Result ℕ JobFault) → in_range k low high (number_of d) ≡ r → some_number r ≡ Ok v → v ≡ number_of d
    found (Ok w) p q = sym (ok_is (Some w) v q) ∙ sym (ranged k low high w (number_of d) p).0
    found (Err f) p q = absurd (err_ok f v q)

pub held_said : (n : ℕ) (h : HeldRange) (o : Option Data) → held_of n o ≡ Ok h → (option_and_then bounds_of o ≡ Some (record { first = h.fewest; second = h.most })) × (1 ≤ h.fewest) × (h.fewest ≤ h.most) × (h.most ≤ n)
unfolding held_within
held_said n h None e = absurd (err_ok (Kind key.Held) h e)
held_said n h (Some d) e = bounded (bounds_of d) e
  where
    low_of : (a b : ℕ) → (nat_le 1 a && nat_le a b && nat_le b n) ≡ true → (1 ≤ a) × (a ≤ b) × (b ≤ n)
    low_of a b e = (grind (arith, nat_tests), grind (arith, nat_tests), grind (arith, nat_tests))

    by_test : (t : Two) (b : Bool) → (nat_le 1 t.first && nat_le t.first t.second && nat_le t.second n) ≡ b → cond b (Ok (record { fewest = t.first; most = t.second })) (Err (Range key.Held)) ≡ Ok h → (◌≡◌ {A = Option Two} (Some t) (Some (record { first = h.fewest; second = h.most }))) × (1 ≤ h.fewest) × (h.fewest ≤ h.most) × (h.most ≤ n)
    by_test t true p q =
        let same : record { fewest = t.first; most = t.second } ≡ h = ok_is (record { fewest = t.first; most = t.second }) h q in
        let r = low_of t.first t.second p in
        (ap (λ (x : HeldRange). Some (record { first = x.fewest; second = x.most })) same, subst (λ (x : HeldRange). 1 ≤ x.fewest) same r.0, subst (λ (x : HeldRange). x.fewest ≤ x.most) same r.1, subst (λ (x : HeldRange). x.most ≤ n) same r.2)
    by_test t false p q = absurd (err_ok (Range key.Held) h q)

    bounded : (o : Option Two) → held_within n o ≡ Ok h → (o ≡ Some (record { first = h.fewest; second = h.most })) × (1 ≤ h.fewest) × (h.fewest ≤ h.most) × (h.most ≤ n)
    bounded None e = absurd (err_ok (Kind key.Held) h e)
    bounded (Some t) e = by_test t (nat_le 1 t.first && nat_le t.first t.second && nat_le t.second n) refl e

-- the lists, where they were read
limits_ok : (n lots least greatest : ℕ) (o : Option (List Data)) (s : Limits) → TellsLimits n lots least greatest o (Ok s) → AreSound (limits_wrong n lots) (unwrap_or o []) × AreLimits n least greatest (unwrap_or o []) s.least s.greatest
limits_ok n lots least greatest None s t = absurd (err_ok (Kind key.Limits) s (sym t))
limits_ok n lots least greatest (Some ds) s t = t

pub limits_said : (n lots least greatest : ℕ) (o : Option Data) (s : Limits) → limits_of n lots least greatest o ≡ Ok s → AreSound (limits_wrong n lots) (unwrap_or (values_of o) []) × AreLimits n least greatest (unwrap_or (values_of o) []) s.least s.greatest
limits_said n lots least greatest o s e = limits_ok n lots least greatest (values_of o) s (subst (λ r. TellsLimits n lots least greatest (values_of o) r) e (limits_told n lots least greatest o))

present_ok : (n : ℕ) (o : Option (List Data)) (s : Present) → TellsPresent n o (Ok s) → AreSound (present_wrong n) (unwrap_or o []) × ArePresent n (unwrap_or o []) s.lots
present_ok n None s t = absurd (err_ok (Kind key.Present) s (sym t))
present_ok n (Some ds) s t = t

pub present_said : (n : ℕ) (o : Option Data) (s : Present) → present_of n o ≡ Ok s → AreSound (present_wrong n) (unwrap_or (values_of o) []) × ArePresent n (unwrap_or (values_of o) []) s.lots
present_said n o s e = present_ok n (values_of o) s (subst (λ r. TellsPresent n (values_of o) r) e (present_told n o))

weights_ok : (o : Option (List Data)) (ws : List Weight) → TellsWeights o (Ok ws) → AreSound weight_wrong (unwrap_or o []) × AreWeights (unwrap_or o []) ws
weights_ok None ws t = absurd (err_ok (Kind key.Weights) ws (sym t))
weights_ok (Some ds) ws t = (t.2, t.3)

pub weights_said : (o : Option Data) (ws : List Weight) → weights_of o ≡ Ok ws → AreSound weight_wrong (unwrap_or (values_of o) []) × AreWeights (unwrap_or (values_of o) []) ws
unfolding weights_of
weights_said None ws e = absurd (err_ok (Kind key.Weights) ws e)
weights_said (Some d) ws e = weights_ok (listed (as_array d)) ws (subst (λ r. TellsWeights (listed (as_array d)) r) e (weights_told d))

-- the job of what each key's reading gives
pub job_said : (n : ℕ) (d : Data) (lots least greatest nodes workers : ℕ) (held : HeldRange) (limits : Limits) (present : Present) (turnover : Option ℕ) (weights : List Weight)
    → Ok lots ≡ needed key.Lots 1 10000 (get (codes "lots") d) → Ok held ≡ held_of n (get (codes "held") d) → Ok least ≡ number_or key.Least 1 lots 1 (get (codes "least") d) → Ok greatest ≡ number_or key.Greatest 1 lots lots (get (codes "greatest") d)
    → Ok limits ≡ limits_of n lots least greatest (get (codes "limits") d) → Ok present ≡ present_of n (get (codes "present") d) → Ok turnover ≡ number_if key.Turnover 0 3000000 (get (codes "turnover") d) → Ok weights ≡ weights_of (get (codes "weights") d)
    → Ok nodes ≡ number_or key.Nodes 0 100000 1000 (get (codes "nodes") d) → Ok workers ≡ number_or key.Workers 1 16 1 (get (codes "workers") d)
    → SaysJob n d (record { lots = lots; held = held.fewest; held_most = held.most; least = limits.least; greatest = limits.greatest; present = present.lots; turnover = turnover; weights = weights; nodes = nodes; workers = workers })
job_said n d lots least greatest nodes workers held limits present turnover weights p1 p2 p3 p4 p5 p6 p7 p8 p9 p10 = record {
  lots_is = (needed_said key.Lots 1 10000 lots (get (codes "lots") d) (sym p1)).0;
  lots_least = (needed_said key.Lots 1 10000 lots (get (codes "lots") d) (sym p1)).1;
  lots_most = (needed_said key.Lots 1 10000 lots (get (codes "lots") d) (sym p1)).2;
  held_is = (held_said n held (get (codes "held") d) (sym p2)).0;
  held_least = (held_said n held (get (codes "held") d) (sym p2)).1;
  held_order = (held_said n held (get (codes "held") d) (sym p2)).2;
  held_most = (held_said n held (get (codes "held") d) (sym p2)).3;
  limits_sound = (limits_said n lots least greatest (get (codes "limits") d) limits (sym p5)).0;
  limits_are =
      subst (λ (a : ℕ). AreLimits n a (unwrap_or (number_said (codes "greatest") d) lots) (entries_said (codes "limits") d) limits.least limits.greatest) (or_said key.Least 1 lots 1 least (get (codes "least") d) (sym p3))
      (subst (λ (b : ℕ). AreLimits n least b (entries_said (codes "limits") d) limits.least limits.greatest) (or_said key.Greatest 1 lots lots greatest (get (codes "greatest") d) (sym p4))
      (limits_said n lots least greatest (get (codes "limits") d) limits (sym p5)).1);
  present_sound = (present_said n (get (codes "present") d) present (sym p6)).0;
  present_is = (present_said n (get (codes "present") d) present (sym p6)).1;
  turnover_is = if_said key.Turnover 0 3000000 turnover (get (codes "turnover") d) (sym p7);
  weights_sound = (weights_said (get (codes "weights") d) weights (sym p8)).0;
  weights_are = (weights_said (get (codes "weights") d) weights (sym p8)).1;
  nodes_are = or_said key.Nodes 0 100000 1000 nodes (get (codes "nodes") d) (sym p9);
  workers_are = or_said key.Workers 1 16 1 workers (get (codes "workers") d) (sym p10);
}
