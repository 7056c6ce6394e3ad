-- What sinks in memory hold, and how many of their writes failed. Own to portgap.
use Rattle.std.specs.Prelude.{ℕ, List, Some}
use Rattle.gap_files.specs.Outside.{SinkNow}
use Rattle.gap_files.specs.declared.memory_sink.MemorySink.{MemorySink}
use Rattle.gap_files.specs.declared.steady_sink.SteadySink.{SteadySink}

-- the bytes written to a sink in memory
abbrev pub written_to : MemorySink → List ℕ
written_to sink = sink.bytes.items

-- how many writes to it failed
abbrev pub writes_failed : MemorySink → ℕ
writes_failed sink = sink.faults

-- how many writes were begun
abbrev pub writes_begun : MemorySink → ℕ
writes_begun sink = sink.plan.calls

-- the numbers of the writes that are to fail
abbrev pub writes_to_fail : MemorySink → List ℕ
writes_to_fail sink = sink.plan.fail.items

-- the bytes written to a sink that never fails
abbrev pub steadily_written_to : SteadySink → List ℕ
steadily_written_to sink = sink.bytes.items

-- what a sink in memory tells
abbrev pub sink_now : MemorySink → SinkNow
sink_now sink = record { written = Some (written_to sink); faults = writes_failed sink }

-- what a sink in memory that never fails tells
abbrev pub steady_sink_now : SteadySink → SinkNow
steady_sink_now sink = record { written = Some (steadily_written_to sink); faults = 0 }
