-- What is written to the sink. Own to portgap.
use Rattle.std.specs.Prelude.{◌≡◌, ℕ, ◌≤◌, List, ◌++◌, Option, Some, Result, Ok, Err, IfErr}
use Rattle.std.specs.Option.{ForSome}
use Rattle.gap_files.specs.Outside.{SinkNow, Rose}
use Rattle.gap_top.specs.declared.stop.Stop.{Stop}
use Rattle.gap_top.specs.declared.stop.Stop.TheVariants.{Refused, ReadFault, WriteFault, OutOfMemory}

-- all of a text came behind what was written before
abbrev pub WritesAll : List ℕ → List ℕ → Option (List ℕ) → Type 0
WritesAll text before after = after ≡ Some (before ++ text)

-- a front of a text came behind what was written before, and nothing else
pub record WritesFront (text before : List ℕ) (after : Option (List ℕ)) : Type 0 where
  pub part : List ℕ
  pub rest : List ℕ
  pub split : text ≡ part ++ rest
  pub now : after ≡ Some (before ++ part)

-- a fact on what was written before and after, where the first is told
abbrev pub IfWritten : (List ℕ → Option (List ℕ) → Type 0) → SinkNow → SinkNow → Type 0
IfWritten P s t = ForSome s.written (λ before. P before t.written)

-- nothing was written
abbrev pub WritesNothing : SinkNow → SinkNow → Type 0
WritesNothing s t = IfWritten (λ before after. after ≡ Some before) s t

-- a line was written: a front of it, and all of it where the sink's count didn't rise
pub record WritesLine (line : List ℕ) (s t : SinkNow) : Type 0 where
  pub front : IfWritten (WritesFront line) s t
  pub whole : ¬ (Rose s.faults t.faults) → IfWritten (WritesAll line) s t

-- what a step has written of the text that is due: all of it, or a front of it where the step stopped
abbrev pub WritesDue : {T : Type 0} → Result T Stop → List ℕ → List ℕ → Option (List ℕ) → Type 0
WritesDue (Ok value) = WritesAll
WritesDue (Err stop) = WritesFront

-- why a step that writes stopped: a write fault only where the sink's count rose; want of memory is free
abbrev pub WriteCause : Type 0 → Stop → Type 0
WriteCause rose (Refused why) = ⊥
WriteCause rose ReadFault = ⊥
WriteCause rose WriteFault = rose
WriteCause rose OutOfMemory = Unit {0}

-- a step that writes a text
pub record Prints (due : List ℕ) (s t : SinkNow) (result : Result (Unit {0}) Stop) : Type 0 where
  pub does : IfWritten (WritesDue result due) s t
  pub cause : IfErr result (WriteCause (Rose s.faults t.faults))
  pub later : s.faults ≤ t.faults
