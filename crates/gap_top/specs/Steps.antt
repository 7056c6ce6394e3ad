-- What the steps of a run say: ruling first, then the work. Own to portgap.
use Rattle.std.specs.Prelude.{◌≡◌, ◌≤◌, Result, Ok, Err, ◌⊎◌}
use Rattle.gap_files.specs.Outside.{SinkNow}
use Rattle.gap_words.specs.Refusals.{refusal_line}
use Rattle.gap_words.specs.declared.refusal.Refusal.{Refusal}
use Rattle.gap_rule.specs.declared.stop.Halt.{Halt}
use Rattle.gap_rule.specs.declared.stop.Halt.TheVariants as halt
use Rattle.gap_top.specs.Printing.{WritesLine, WritesNothing}
use Rattle.gap_top.specs.declared.stop.Stop.{Stop}
use Rattle.gap_top.specs.declared.stop.Stop.TheVariants.{Refused, ReadFault, WriteFault, OutOfMemory}

-- what a refusal ends with, by what became of its line
abbrev pub refused_stop : Refusal → Result (Unit {0}) Stop → Stop
refused_stop why (Ok done) = Refused why
refused_stop why (Err (Refused other)) = Refused why
refused_stop why (Err ReadFault) = Refused why
refused_stop why (Err WriteFault) = Refused why
refused_stop why (Err OutOfMemory) = OutOfMemory

-- a refusal was answered: its line was written and it stands, or memory was wanted and nothing was written
pub record Refuses (why : Refusal) (s t : SinkNow) (stop : Stop) : Type 0 where
  pub stops : (stop ≡ Refused why) ⊎ (stop ≡ OutOfMemory)
  pub line : stop ≡ Refused why → WritesLine (refusal_line why) s t
  pub quiet : stop ≡ OutOfMemory → WritesNothing s t
  pub later : s.faults ≤ t.faults

-- what a run ends with that has no task to do: a refusal is answered, a fault and want of memory write nothing
abbrev pub EndsBy : Halt → SinkNow → SinkNow → Stop → Type 0
EndsBy (halt.Refused why) s t ended = Refuses why s t ended
EndsBy halt.ReadFault s t ended = (ended ≡ ReadFault) × (t ≡ s)
EndsBy halt.OutOfMemory s t ended = (ended ≡ OutOfMemory) × (t ≡ s)
