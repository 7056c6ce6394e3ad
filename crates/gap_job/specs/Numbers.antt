-- Whole numbers in a job.
use Rattle.std.specs.Prelude.{ℕ, ◌&&◌, nat_le, Option, Some, None, Result, Ok, Err, option_and_then, if◌then◌else◌, List}
use Rattle.serde_json.specs.Data.{Data, Items, no_items, item}
use Rattle.serde_json.specs.Find.{as_number, as_u64, at}
use Rattle.std.specs.Prelude.{[], ◌∷◌}
use Rattle.gap_job.specs.declared.fault.Key.{Key}
use Rattle.gap_job.specs.declared.fault.JobFault.{JobFault}
use Rattle.gap_job.specs.declared.fault.JobFault.TheVariants.{Kind, Range}

-- the whole number that a value is: one that was written without a point, an exponent and a sign, and is below 2 ^ 64
abbrev pub number_of : Data → Option ℕ
number_of d = option_and_then as_u64 (as_number d)

-- the whole number at a place of a list
abbrev pub number_at : ℕ → Data → Option ℕ
number_at i d = option_and_then number_of (at i d)

-- a value for a key that has to be a whole number, from low to high
unfoldable pub in_range : Key → ℕ → ℕ → Option ℕ → Result ℕ JobFault
in_range key low high None = Err (Kind key)
in_range key low high (Some v) = if nat_le low v && nat_le v high then Ok v else Err (Range key)

-- the number at a key that has to stand
abbrev pub needed : Key → ℕ → ℕ → Option Data → Result ℕ JobFault
needed key low high None = Err (Kind key)
needed key low high (Some d) = in_range key low high (number_of d)

-- the number at a key, or one to take where it is absent
abbrev pub number_or : Key → ℕ → ℕ → ℕ → Option Data → Result ℕ JobFault
number_or key low high absent None = Ok absent
number_or key low high absent (Some d) = in_range key low high (number_of d)

-- the number at a key, if it stands
abbrev pub some_number : Result ℕ JobFault → Result (Option ℕ) JobFault
some_number (Ok v) = Ok (Some v)
some_number (Err e) = Err e

abbrev pub number_if : Key → ℕ → ℕ → Option Data → Result (Option ℕ) JobFault
number_if key low high None = Ok None
number_if key low high (Some d) = some_number (in_range key low high (number_of d))

-- the values of a list
abbrev pub list_of : Items → List Data
list_of no_items = []
list_of (item d ds) = d ∷ list_of ds

-- the list at a key has to be one
abbrev pub entries_of : Key → Option Items → Result (List Data) JobFault
entries_of key None = Err (Kind key)
entries_of key (Some items) = Ok (list_of items)
