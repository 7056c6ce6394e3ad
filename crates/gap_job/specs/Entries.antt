-- The lists of a job, entry by entry.
use Rattle.std.specs.Prelude.{ℕ, ◌-◌, ◌&&◌, ◌==◌, not, Bool, nat_le, Option, Some, None, Result, Ok, Err, option_and_then, if◌then◌else◌, List, [], ◌∷◌, ◌++◌, length, fold, replicate, slice_index_or, slice_set}
use Rattle.std.specs.Option.{is_some}
use Rattle.serde_json.specs.Data.{Data}
use Rattle.serde_json.specs.Find.{at, as_array}
use Rattle.gap_base.specs.declared.weight.Weight.{Weight}
use Rattle.gap_job.specs.declared.fault.Key.TheVariants as key
use Rattle.gap_job.specs.declared.fault.JobFault.{JobFault}
use Rattle.gap_job.specs.declared.fault.JobFault.TheVariants.{Kind, Range, Asset}
use Rattle.gap_job.specs.declared.entry.Two.{Two}
use Rattle.gap_job.specs.declared.entry.Three.{Three}
use Rattle.gap_job.specs.declared.limits.Limits.{Limits}
use Rattle.gap_job.specs.declared.present.Present.{Present}
use Rattle.gap_job.specs.Numbers.{number_at, entries_of}

infixl 10 ◌>>=◌
abbrev ◌>>=◌ : {A B : Type 0} → Option A → (A → Option B) → Option B
o >>= f = option_and_then f o

-- an entry that is a list of exactly two whole numbers
unfoldable pub two_of : Data → Option Two
two_of d = do
  first ← number_at 0 d
  second ← number_at 1 d
  if is_some (at 2 d) then None else Some (record { first = first; second = second })

-- an entry that is a list of exactly three whole numbers
unfoldable pub three_of : Data → Option Three
three_of d = do
  first ← number_at 0 d
  second ← number_at 1 d
  third ← number_at 2 d
  if is_some (at 3 d) then None else Some (record { first = first; second = second; third = third })

-- whether a number names one of n assets, counted from 1, that no entry named before
abbrev pub is_new : ℕ → List ℕ → ℕ → Bool
is_new n named asset = (nat_le 1 asset && nat_le asset n) && slice_index_or named (asset - 1) 0 == 0

-- limits after an entry [asset, least, greatest]; both are 1 to lots
unfoldable pub limits_after : ℕ → ℕ → Limits → Option Three → Result Limits JobFault
limits_after n lots s None = Err (Kind key.Limits)
limits_after n lots s (Some e) =
    if not (is_new n s.named e.first) then Err (Asset key.Limits)
    else (if (nat_le 1 e.second && nat_le e.second lots) && (nat_le 1 e.third && nat_le e.third lots)
    then Ok (record {
      least = slice_set s.least (e.first - 1) e.second;
      greatest = slice_set s.greatest (e.first - 1) e.third;
      named = slice_set s.named (e.first - 1) 1;
    })
    else Err (Range key.Limits))

abbrev pub with_limit : ℕ → ℕ → Result Limits JobFault → Data → Result Limits JobFault
with_limit n lots (Ok s) d = limits_after n lots s (three_of d)
with_limit n lots (Err e) d = Err e

-- the limits of n assets: those for all, and then those of each entry for its asset
abbrev pub limits_start : ℕ → ℕ → ℕ → Limits
limits_start n least greatest = record { least = replicate n least; greatest = replicate n greatest; named = replicate n 0 }

abbrev pub limits_of_list : ℕ → ℕ → ℕ → ℕ → Result (List Data) JobFault → Result Limits JobFault
limits_of_list n lots least greatest (Ok entries) = fold (with_limit n lots) (Ok (limits_start n least greatest)) entries
limits_of_list n lots least greatest (Err e) = Err e

unfoldable pub limits_of : ℕ → ℕ → ℕ → ℕ → Option Data → Result Limits JobFault
limits_of n lots least greatest None = Ok (limits_start n least greatest)
limits_of n lots least greatest (Some d) = limits_of_list n lots least greatest (entries_of key.Limits (as_array d))

-- present lots after an entry [asset, lots]; the lots are at most 10000
unfoldable pub present_after : ℕ → Present → Option Two → Result Present JobFault
present_after n s None = Err (Kind key.Present)
present_after n s (Some e) =
    if not (is_new n s.named e.first) then Err (Asset key.Present)
    else (if nat_le e.second 10000
    then Ok (record { lots = slice_set s.lots (e.first - 1) e.second; named = slice_set s.named (e.first - 1) 1 })
    else Err (Range key.Present))

abbrev pub with_present : ℕ → Result Present JobFault → Data → Result Present JobFault
with_present n (Ok s) d = present_after n s (two_of d)
with_present n (Err e) d = Err e

-- the lots at present: 0, and then those of each entry for its asset
abbrev pub present_start : ℕ → Present
present_start n = record { lots = replicate n 0; named = replicate n 0 }

abbrev pub present_of_list : ℕ → Result (List Data) JobFault → Result Present JobFault
present_of_list n (Ok entries) = fold (with_present n) (Ok (present_start n)) entries
present_of_list n (Err e) = Err e

unfoldable pub present_of : ℕ → Option Data → Result Present JobFault
present_of n None = Ok (present_start n)
present_of n (Some d) = present_of_list n (entries_of key.Present (as_array d))

-- weights after an entry [p, q]: q is 1 to 100, and p at most q
unfoldable pub weights_after : List Weight → Option Two → Result (List Weight) JobFault
weights_after ws None = Err (Kind key.Weights)
weights_after ws (Some e) =
    if nat_le 1 e.second && nat_le e.second 100 && nat_le e.first e.second
    then Ok (ws ++ record { p = e.first; q = e.second } ∷ [])
    else Err (Range key.Weights)

abbrev pub with_weight : Result (List Weight) JobFault → Data → Result (List Weight) JobFault
with_weight (Ok ws) d = weights_after ws (two_of d)
with_weight (Err e) d = Err e

-- the weights: 1 to 101 of them
abbrev pub weights_of_list : Result (List Data) JobFault → Result (List Weight) JobFault
weights_of_list (Ok entries) =
    if nat_le 1 (length entries) && nat_le (length entries) 101 then fold with_weight (Ok []) entries else Err
    (Range key.Weights)
weights_of_list (Err e) = Err e

unfoldable pub weights_of : Option Data → Result (List Weight) JobFault
weights_of None = Err (Kind key.Weights)
weights_of (Some d) = weights_of_list (entries_of key.Weights (as_array d))
