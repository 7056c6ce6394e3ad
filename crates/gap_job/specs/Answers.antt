-- What the reading of a job answers.
use Rattle.std.specs.Prelude.{◌≡◌, Result, Ok, Err, Option, Some, None, ⊤}
use Rattle.serde_json.specs.Data.{Data}
use Rattle.serde_json.specs.View.{view}
use Rattle.serde_json.specs.declared.value.Value.{Value}
use Rattle.gap_job.specs.declared.fault.JobFault.{JobFault}
use Rattle.gap_job.specs.declared.fault.JobFault.TheVariants.{NotJson}
use Rattle.gap_job.specs.declared.fault.JobStop.{JobStop}
use Rattle.gap_job.specs.declared.fault.JobStop.TheVariants.{Fault, OutOfMemory}

-- the call answered this, or had no memory
abbrev pub Answers : {A : Type 0} → Result A JobFault → Result A JobStop → Type 0
Answers told (Ok a) = told ≡ Ok a
Answers told (Err (Fault f)) = told ≡ Err f
Answers told (Err OutOfMemory) = Unit {0}

-- a step took in an entry, or found the fault
abbrev pub Steps : {A : Type 0} → Result ⊤ JobFault → A → Result A JobFault → Type 0
Steps (Ok _) now told = told ≡ Ok now
Steps (Err f) now told = told ≡ Err f

-- a text was read, or is no JSON, or memory was refused
abbrev pub ReadsText : Option Data → Result Value JobStop → Type 0
ReadsText told (Ok v) = told ≡ Some (view v)
ReadsText told (Err (Fault f)) = (told ≡ None) × (f ≡ NotJson)
ReadsText told (Err OutOfMemory) = Unit {0}
