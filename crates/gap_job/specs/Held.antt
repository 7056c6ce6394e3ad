-- How many assets a job says to hold: a number, or the least and the greatest number.
use Rattle.std.specs.Prelude.{ℕ, ◌&&◌, nat_le, Option, Some, None, Result, Ok, Err, if◌then◌else◌}
use Rattle.serde_json.specs.Data.{Data}
use Rattle.gap_job.specs.declared.fault.Key.TheVariants as key
use Rattle.gap_job.specs.declared.fault.JobFault.{JobFault}
use Rattle.gap_job.specs.declared.fault.JobFault.TheVariants.{Kind, Range}
use Rattle.gap_job.specs.declared.entry.Two.{Two}
use Rattle.gap_job.specs.declared.held.HeldRange.{HeldRange}
use Rattle.gap_job.specs.Numbers.{number_of}
use Rattle.gap_job.specs.Entries.{two_of}

-- the two ends that a value says: a whole number is both, and a list of exactly two whole numbers has one after the other
abbrev pub both_or : Option ℕ → Option Two → Option Two
both_or None two = two
both_or (Some v) two = Some (record { first = v; second = v })

abbrev pub bounds_of : Data → Option Two
bounds_of d = both_or (number_of d) (two_of d)

-- the range between two ends, which has to be one of 1 to n
unfoldable pub held_within : ℕ → Option Two → Result HeldRange JobFault
held_within n None = Err (Kind key.Held)
held_within n (Some ends) =
    if nat_le 1 ends.first && nat_le ends.first ends.second && nat_le ends.second n
    then Ok (record { fewest = ends.first; most = ends.second })
    else Err (Range key.Held)

-- how many of n assets to hold; the key has to stand
abbrev pub held_of : ℕ → Option Data → Result HeldRange JobFault
held_of n None = held_within n None
held_of n (Some d) = held_within n (bounds_of d)
