-- Why an upgrade stops. Own to portgap.
use Rattle.std.specs.Prelude.{Result, Ok, Err}
use Rattle.gap_judge.specs.declared.stop.CertStop.{CertStop}
use Rattle.gap_judge.specs.declared.stop.CertStop.TheVariants as cert
use Rattle.gap_files.specs.declared.halt.Halt.{Halt}
use Rattle.gap_files.specs.declared.halt.Halt.TheVariants as halt
use Rattle.gap_upgrade.specs.declared.stop.Stop.{Stop}
use Rattle.gap_upgrade.specs.declared.stop.Stop.TheVariants.{Refused, ReadFault, WriteFault, OutOfMemory}

-- what an upgrade ends with, by what a step that puts out ended with
abbrev pub stopped_by : Result (Unit {0}) Halt → Result (Unit {0}) Stop
stopped_by (Ok done) = Ok done
stopped_by (Err halt.WriteFault) = Err WriteFault
stopped_by (Err halt.OutOfMemory) = Err OutOfMemory

-- and by why a checker stopped
abbrev pub refused_by : CertStop → Stop
refused_by (cert.Fault fault) = Refused fault
refused_by cert.OutOfMemory = OutOfMemory

-- a stop that has no cause in the outside
abbrev pub IsInner : Stop → Type 0
IsInner (Refused fault) = Unit {0}
IsInner ReadFault = ⊥
IsInner WriteFault = ⊥
IsInner OutOfMemory = Unit {0}

-- a stop that isn't a refusal
abbrev pub IsUnrefused : Stop → Type 0
IsUnrefused (Refused fault) = ⊥
IsUnrefused ReadFault = Unit {0}
IsUnrefused WriteFault = Unit {0}
IsUnrefused OutOfMemory = Unit {0}
