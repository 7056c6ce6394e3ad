-- What the reader's own calls answer, against the definition. Own to portgap.
use Rattle.std.specs.Prelude.{ℕ, ◌≡◌, Option, Result, Ok, Err}
use Rattle.gap_base.specs.declared.numeral_fault.Rounded.{Rounded}
use Rattle.gap_base.specs.declared.numeral_fault.NumeralFault.{NumeralFault}
use Rattle.gap_base.specs.Markets.{MarketValue}
use Rattle.gap_orlib.specs.declared.fault.PortFault.{PortFault}
use Rattle.gap_orlib.specs.declared.fault.PortKind.{PortKind}
use Rattle.gap_orlib.specs.declared.fault.PortKind.TheVariants.{Numeral}
use Rattle.gap_orlib.specs.declared.fault.PortStop.{PortStop}
use Rattle.gap_orlib.specs.declared.fault.PortStop.TheVariants.{Fault, OutOfMemory}
use Rattle.gap_orlib.specs.Sheets.{Sheet}
use Rattle.gap_orlib.specs.Ports.{fault_at, placed}
use Rattle.gap_orlib.specs.States.{Going, State, going, stopped}

-- the value of a numeral, or Numeral. Own to portgap.
abbrev pub Reads : Result Rounded PortKind → Result Rounded NumeralFault → Type 0
Reads answer (Ok r) = answer ≡ Ok r
Reads answer (Err e) = answer ≡ Err Numeral

-- a token was judged: the sheet is what it says, or the answer is its fault. Own to portgap.
abbrev pub Judges : Result (Unit {0}) PortKind → Sheet → Result Sheet PortKind → Type 0
Judges (Ok done) s r = r ≡ Ok s
Judges (Err kind) s r = r ≡ Err kind

-- the first token was judged at its place, unless memory was refused. Own to portgap.
abbrev pub Begins : Result Sheet PortStop → ℕ → Result Sheet PortKind → Type 0
Begins (Ok s) place r = r ≡ Ok s
Begins (Err (Fault f)) place r = placed place r ≡ Err f
Begins (Err OutOfMemory) place r = Unit {0}

-- a token was judged at its place, unless memory was refused. Own to portgap.
abbrev pub Takes : Result (Unit {0}) PortStop → Option Sheet → Result (Option Sheet) PortFault → Type 0
Takes (Ok done) s r = r ≡ Ok s
Takes (Err (Fault f)) s r = r ≡ Err f
Takes (Err OutOfMemory) s r = Unit {0}

-- a byte was read: the reader goes on as the definition says, or stops there, unless memory was
-- refused. Own to portgap.
abbrev pub NextIs : Result (Unit {0}) PortStop → Going → State → Type 0
NextIs (Ok done) g s = s ≡ going g
NextIs (Err (Fault f)) g s = s ≡ stopped f
NextIs (Err OutOfMemory) g s = Unit {0}

-- the bytes ended: the market, or the fault at their end. Own to portgap.
abbrev pub Closes : Result MarketValue PortKind → ℕ → Result MarketValue PortFault → Type 0
Closes (Ok m) size r = r ≡ Ok m
Closes (Err kind) size r = r ≡ Err (fault_at size kind)
