-- The lines of faults: each ends with one line feed, one space stands between words, and numbers are plain decimals.
-- Own to portgap.
use Rattle.std.specs.Prelude.{ℕ, List, [], ◌∷◌, ◌++◌, codes, Option, Some, None}
use Rattle.std.specs.Fmt.{decimal}
use Rattle.gap_orlib.specs.declared.fault.PortFault.{PortFault}
use Rattle.gap_orlib.specs.declared.fault.PortKind.{PortKind}
use Rattle.gap_orlib.specs.declared.fault.PortKind.TheVariants.{Count, Numeral, Range, Deviation, Index, Diagonal, Conflict, Short, Missing, TooLong}
use Rattle.gap_job.specs.declared.fault.JobFault.{JobFault}
use Rattle.gap_job.specs.declared.fault.JobFault.TheVariants.{TooLong as LongJob, NotJson, NotObject, Unknown, Kind, Range as OutOfRange, Asset}
use Rattle.gap_job.specs.declared.fault.Key.{Key}
use Rattle.gap_job.specs.declared.fault.Key.TheVariants.{Lots, Held, Least, Greatest, Limits, Present, Turnover, Weights, Nodes, Workers}

-- texts one after another
abbrev pub joined : List (List ℕ) → List ℕ
joined [] = []
joined (text ∷ texts) = text ++ joined texts

-- the line of a port file at fault: the word of the kind, the place, and the two assets of a pair where it names one
unfoldable pub port_text : List ℕ → ℕ → Option (ℕ × ℕ) → List ℕ
port_text kind place None = joined (codes "port " ∷ kind ∷ codes " " ∷ decimal place ∷ codes "\n" ∷ [])
port_text kind place (Some pair) =
    joined (codes "port " ∷ kind ∷ codes " " ∷ decimal place ∷ codes " " ∷ decimal pair.0 ∷ codes " " ∷ decimal pair.1
    ∷ codes "\n" ∷ [])

-- the word of a kind of fault of a port file
abbrev pub kind_word : PortKind → List ℕ
kind_word Count = codes "Count"
kind_word Numeral = codes "Numeral"
kind_word Range = codes "Range"
kind_word Deviation = codes "Deviation"
kind_word Index = codes "Index"
kind_word Diagonal = codes "Diagonal"
kind_word (Conflict i j) = codes "Conflict"
kind_word Short = codes "Short"
kind_word (Missing i j) = codes "Missing"
kind_word TooLong = codes "TooLong"

-- the two assets that a kind of fault names, if it names some
abbrev pub kind_pair : PortKind → Option (ℕ × ℕ)
kind_pair Count = None
kind_pair Numeral = None
kind_pair Range = None
kind_pair Deviation = None
kind_pair Index = None
kind_pair Diagonal = None
kind_pair (Conflict i j) = Some (i, j)
kind_pair Short = None
kind_pair (Missing i j) = Some (i, j)
kind_pair TooLong = None

-- the line of a port file with this fault
abbrev pub port_line : PortFault → List ℕ
port_line fault = port_text (kind_word fault.kind) fault.place (kind_pair fault.kind)

-- a key as a job file writes it
abbrev pub key_word : Key → List ℕ
key_word Lots = codes "lots"
key_word Held = codes "held"
key_word Least = codes "least"
key_word Greatest = codes "greatest"
key_word Limits = codes "limits"
key_word Present = codes "present"
key_word Turnover = codes "turnover"
key_word Weights = codes "weights"
key_word Nodes = codes "nodes"
key_word Workers = codes "workers"

-- the line of a job file whose fault stands at a key
unfoldable pub keyed_text : List ℕ → List ℕ → List ℕ
keyed_text kind key = joined (codes "job " ∷ kind ∷ codes " " ∷ key ∷ codes "\n" ∷ [])

-- the line of a job file with a key that no job has, by its rank
unfoldable pub unknown_text : ℕ → List ℕ
unknown_text rank = joined (codes "job Unknown " ∷ decimal rank ∷ codes "\n" ∷ [])

-- the line of a job file with this fault
abbrev pub job_line : JobFault → List ℕ
job_line LongJob = codes "job TooLong\n"
job_line NotJson = codes "job NotJson\n"
job_line NotObject = codes "job NotObject\n"
job_line (Unknown rank) = unknown_text rank
job_line (Kind key) = keyed_text (codes "Kind") (key_word key)
job_line (OutOfRange key) = keyed_text (codes "Range") (key_word key)
job_line (Asset key) = keyed_text (codes "Asset") (key_word key)
