-- The job of the bytes of a file.
use Rattle.std.specs.Prelude.{ℕ, not, Bool, nat_lt, min, Option, Some, None, Result, Ok, Err, if◌then◌else◌, List, [], ◌∷◌, length, codes}
use Rattle.std.specs.List.{position_or_len, list_any}
use Rattle.std.specs.Str.{bytes_eq, is_utf8}
use Rattle.serde_json.specs.Data.{Data, Members, no_members, member}
use Rattle.serde_json.specs.Find.{get, as_object}
use Rattle.serde_json.specs.Read.{read}
use Rattle.gap_base.specs.declared.job.Job.{Job}
use Rattle.gap_job.specs.declared.fault.Key.TheVariants as key
use Rattle.gap_job.specs.declared.fault.JobFault.{JobFault}
use Rattle.gap_job.specs.declared.fault.JobFault.TheVariants.{TooLong, NotJson, NotObject, Unknown}
use Rattle.gap_job.specs.Numbers.{needed, number_or, number_if}
use Rattle.gap_job.specs.Held.{held_of}
use Rattle.gap_job.specs.Entries.{limits_of, present_of, weights_of}

infixl 10 ◌>>=◌
abbrev ◌>>=◌ : {A B : Type 0} → Result A JobFault → (A → Result B JobFault) → Result B JobFault
(Ok a) >>= f = f a
(Err e) >>= f = Err e

-- the job of n assets that a JSON object says, or the first fault in the order of the keys
unfoldable pub job_of : ℕ → Data → Result Job JobFault
job_of n d = do
  lots ← needed key.Lots 1 10000 (get (codes "lots") d)
  held ← held_of n (get (codes "held") d)
  least ← number_or key.Least 1 lots 1 (get (codes "least") d)
  greatest ← number_or key.Greatest 1 lots lots (get (codes "greatest") d)
  limits ← limits_of n lots least greatest (get (codes "limits") d)
  present ← present_of n (get (codes "present") d)
  turnover ← number_if key.Turnover 0 3000000 (get (codes "turnover") d)
  weights ← weights_of (get (codes "weights") d)
  nodes ← number_or key.Nodes 0 100000 1000 (get (codes "nodes") d)
  workers ← number_or key.Workers 1 16 1 (get (codes "workers") d)
  Ok (record {
    lots = lots;
    held = held.fewest;
    held_most = held.most;
    least = limits.least;
    greatest = limits.greatest;
    present = present.lots;
    turnover = turnover;
    weights = weights;
    nodes = nodes;
    workers = workers;
  })

-- the keys of a job
abbrev pub known_keys : List (List ℕ)
known_keys =
    codes "lots" ∷ codes "held" ∷ codes "least" ∷ codes "greatest" ∷ codes "limits" ∷ codes "present"
    ∷ codes "turnover" ∷ codes "weights" ∷ codes "nodes" ∷ codes "workers" ∷ []

unfoldable pub is_known : List ℕ → Bool
is_known name = list_any (bytes_eq name) known_keys

-- the keys of an object, each once, in the order of their bytes
abbrev pub keys_of : Members → List (List ℕ)
keys_of no_members = []
keys_of (member k d ms) = k ∷ keys_of ms

-- the rank of the first unknown key, counted from 0, at most the greatest that a fault can say; a job's bytes are too few
-- for that many keys
abbrev pub first_unknown : List (List ℕ) → ℕ
first_unknown names = position_or_len (λ name. not (is_known name)) names

unfoldable pub job_of_object : ℕ → Data → Option Members → Result Job JobFault
job_of_object n d None = Err NotObject
job_of_object n d (Some ms) =
    if nat_lt (first_unknown (keys_of ms)) (length (keys_of ms))
    then Err (Unknown (min (first_unknown (keys_of ms)) 4294967295)) else job_of n d

-- the reading of a text that is UTF-8: `serde_json`'s
unfoldable pub reading : List ℕ → Option Data
reading bytes = if is_utf8 bytes then read bytes else None

abbrev pub job_of_reading : ℕ → Option Data → Result Job JobFault
job_of_reading n None = Err NotJson
job_of_reading n (Some d) = job_of_object n d (as_object d)

-- the job of n assets that a file of these bytes says, or its first fault.
-- Source: own to portgap
unfoldable pub job_in : ℕ → List ℕ → Result Job JobFault
job_in n bytes = if nat_lt 1048576 (length bytes) then Err TooLong else job_of_reading n (reading bytes)
