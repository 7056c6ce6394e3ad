-- What files in memory hold, and how many of their calls failed. Own to portgap.
use Rattle.std.specs.Prelude.{ℕ, List, Option, Some}
use Rattle.gap_files.specs.Outside.{FilesNow}
use Rattle.gap_files.specs.Tally.{count_of}
use Rattle.gap_files.specs.Store.{content_in}
use Rattle.gap_files.specs.declared.memory_files.MemoryFiles.{MemoryFiles}
use Rattle.gap_files.specs.declared.steady_files.SteadyFiles.{SteadyFiles}

-- the content of a name: None where the file is missing
abbrev pub held_by : MemoryFiles → List ℕ → Option (List ℕ)
held_by files name = content_in files.store name

-- how many reads of a name failed
abbrev pub reads_failed : MemoryFiles → List ℕ → ℕ
reads_failed files name = count_of files.reads name

-- how many writes of a name failed
abbrev pub file_writes_failed : MemoryFiles → List ℕ → ℕ
file_writes_failed files name = count_of files.writes name

-- how many calls were begun
abbrev pub calls_begun : MemoryFiles → ℕ
calls_begun files = files.plan.calls

-- the numbers of the calls that are to fail
abbrev pub calls_to_fail : MemoryFiles → List ℕ
calls_to_fail files = files.plan.fail.items

-- the content of a name in files that never fail: None where the file is missing
abbrev pub steadily_held_by : SteadyFiles → List ℕ → Option (List ℕ)
steadily_held_by files name = content_in files.store name

-- what files in memory tell
abbrev pub files_now : MemoryFiles → FilesNow
files_now files = record {
  content = λ name. Some (held_by files name);
  read_faults = reads_failed files;
  write_faults = file_writes_failed files;
}

-- what files in memory that never fail tell
abbrev pub steady_files_now : SteadyFiles → FilesNow
steady_files_now files = record {
  content = λ name. Some (steadily_held_by files name);
  read_faults = λ name. 0;
  write_faults = λ name. 0;
}
