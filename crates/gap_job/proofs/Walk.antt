-- A walk over the entries of a list, each judged with those before it.
use Rattle.std.proofs.Common.{◌≡◌, ℕ, ◌+◌, ◌<◌, ◌≤◌, ◌&&◌, cond, nat_le, Option, Some, List, [], ◌∷◌, length, map, take, get_or, fold, Result, Ok, Err, refl, sym, ap, ◌∙◌}
use Rattle.std.proofs.lemmas.List.{take_all, length-map, get_or-map}
use Rattle.std.proofs.lemmas.List.Sums.{fold_more}
use Rattle.std.proofs.lemmas.List.Folds.{fold_stuck}
use Rattle.serde_json.specs.Data.{Data, null}
use Rattle.serde_json.specs.View.{view, items_of, items_view}
use Rattle.serde_json.specs.Find.{as_array}
use Rattle.serde_json.specs.declared.value.Value.{Value}
use Rattle.gap_job.specs.declared.fault.JobFault.{JobFault}
use Rattle.gap_job.specs.declared.fault.JobFault.TheVariants.{Range}
use Rattle.gap_job.specs.declared.fault.Key.TheVariants.{Weights}
use Rattle.gap_job.specs.Numbers.{list_of}
use Rattle.gap_job.specs.Entries.{limits_of, limits_start, with_limit, present_of, present_start, with_present, weights_of, with_weight}

-- the entry at hand
entry_is : (vs : List Value) (i : ℕ) (v : Value) → i < length vs → v ≡ get_or vs i v → get_or (map view vs) i null ≡ view v
entry_is vs i v l is = get_or-map view vs i v null l ∙ ap view (sym is)

-- one entry more
pub goes_on : {S : Type 0} (f : Result S JobFault → Data → Result S JobFault) (a : Result S JobFault) (vs : List Value) (i : ℕ) (v : Value) (s t : S) → i < length vs → v ≡ get_or vs i v → fold f a (take i (map view vs)) ≡ Ok s → f (Ok s) (view v) ≡ Ok t → fold f a (take (i + 1) (map view vs)) ≡ Ok t
goes_on f a vs i v s t l is h step =
    fold_more f a (map view vs) i null (rw (length-map vs view) l) ∙ rw (h, entry_is vs i v l is) step

-- a fault ends the walk
pub ends : {S : Type 0} (f : Result S JobFault → Data → Result S JobFault) (a : Result S JobFault) (vs : List Value) (i : ℕ) (v : Value) (s : S) (e : JobFault) → ((d : Data) → f (Err e) d ≡ Err e) → i < length vs → v ≡ get_or vs i v → fold f a (take i (map view vs)) ≡ Ok s → f (Ok s) (view v) ≡ Err e → Err e ≡ fold f a (map view vs)
ends f a vs i v s e stays l is h step =
    fold_stuck f (Err e) stays a (map view vs) i null (rw (length-map vs view) l) (rw (h, entry_is vs i v l is) step)

-- all entries were taken in
pub is_done : {S : Type 0} (f : Result S JobFault → Data → Result S JobFault) (a : Result S JobFault) (vs : List Value) (i : ℕ) (s : S) → length vs ≤ i → fold f a (take i (map view vs)) ≡ Ok s → Ok s ≡ fold f a (map view vs)
is_done f a vs i s l h = sym h ∙ ap (λ (ds : List Data). fold f a ds) (take_all i (map view vs) (rw (length-map vs view) l))

-- the values of a list, seen as data and back
listed : (ds : List Data) → list_of (items_of ds) ≡ ds
listed [] = refl
listed (d ∷ ds) = ap (λ (es : List Data). d ∷ es) (listed ds)

-- what the keys with a list say, where the list stands
pub limits_at : (n lots least greatest : ℕ) (o : Option Data) (d : Data) (vs : List Value) → o ≡ Some d → as_array d ≡ Some (items_view vs) → limits_of n lots least greatest o ≡ fold (with_limit n lots) (Ok (limits_start n least greatest)) (map view vs)
unfolding limits_of
limits_at n lots least greatest o d vs p q = rw (p, q, listed (map view vs)) refl

pub present_at : (n : ℕ) (o : Option Data) (d : Data) (vs : List Value) → o ≡ Some d → as_array d ≡ Some (items_view vs) → present_of n o ≡ fold (with_present n) (Ok (present_start n)) (map view vs)
unfolding present_of
present_at n o d vs p q = rw (p, q, listed (map view vs)) refl

pub weights_at : (o : Option Data) (d : Data) (vs : List Value) → o ≡ Some d → as_array d ≡ Some (items_view vs) → weights_of o ≡ cond (nat_le 1 (length vs) && nat_le (length vs) 101) (fold with_weight (Ok []) (map view vs)) (Err (Range Weights))
unfolding weights_of
weights_at o d vs p q = rw (p, q, listed (map view vs), length-map vs view) refl
