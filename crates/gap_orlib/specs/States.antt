-- Where a reader of a port file stands, by the bytes that it was fed. Own to portgap.
use Rattle.std.specs.Prelude.{ℕ, ◌+◌, ◌≡◌, ◌⊎◌, ◌++◌, if◌then◌else◌, nat_le, nat_lt, List, [], ◌∷◌, length, fold, Option, Some, None, Result, Ok, Err}
use Rattle.gap_base.specs.Markets.{MarketValue}
use Rattle.gap_orlib.specs.declared.fault.PortFault.{PortFault}
use Rattle.gap_orlib.specs.declared.fault.PortStop.{PortStop}
use Rattle.gap_orlib.specs.declared.fault.PortStop.TheVariants.{Fault, OutOfMemory}
use Rattle.gap_orlib.specs.declared.fault.PortKind.TheVariants.{TooLong}
use Rattle.gap_orlib.specs.Tokens.{Token, is_separator}
use Rattle.gap_orlib.specs.Sheets.{Sheet, judge}
use Rattle.gap_orlib.specs.Ports.{limit, fault_at, placed, judged, kept, finished}

-- bytes cut into the tokens that are whole, since a separator stands behind each, and the token at
-- hand, which may be empty, with the number of its first byte. Own to portgap.
pub record Cut : Type 0 where
  pub whole : List Token
  pub begin : ℕ
  pub tail : List ℕ

-- the token at hand, where there is one. Own to portgap.
abbrev pub at_hand : ℕ → List ℕ → List Token
at_hand begin [] = []
at_hand begin (x ∷ xs) = record { place = begin; text = x ∷ xs } ∷ []

-- one byte more. Own to portgap.
abbrev pub cut_byte : Cut → ℕ → Cut
cut_byte c b =
    if is_separator b
    then record { whole = c.whole ++ at_hand c.begin c.tail; begin = c.begin + length c.tail + 1; tail = [] }
    else record c { tail = c.tail ++ b ∷ [] }

unfoldable pub cut : List ℕ → Cut
cut bytes = fold cut_byte (record { whole = []; begin = 0; tail = [] }) bytes

-- what a reader keeps while it goes on: where the token at hand begins, its bytes so far, and what
-- the tokens before it say. Own to portgap.
pub record Going : Type 0 where
  pub begin : ℕ
  pub tail : List ℕ
  pub sheet : Option Sheet

-- a reader goes on, or has found the first fault, or was refused memory. Own to portgap.
pub data State : Type 0 where
  going : Going → State
  stopped : PortFault → State
  no_memory : State

-- where a reader stands, by what the whole tokens say. Own to portgap.
abbrev pub stated : Cut → Result (Option Sheet) PortFault → State
stated c (Err f) = stopped f
stated c (Ok s) =
    if nat_le (c.begin + length c.tail) limit
    then going (record { begin = c.begin; tail = c.tail; sheet = s })
    else stopped (fault_at limit TooLong)

-- where a reader stands that was fed the bytes of a cut: at the first fault of the whole tokens, at
-- TooLong where there are too many bytes, or at the token at hand. Own to portgap.
unfoldable pub state_of : Cut → State
state_of c = stated c (judged (kept c.whole))

-- a reader that was fed these bytes, or was refused memory over them, stands here. Own to portgap.
abbrev pub HasRead : State → List ℕ → Type 0
HasRead s fed = (s ≡ state_of (cut fed)) ⊎ (s ≡ no_memory)

-- what a feed answers, by where the reader then stands. Own to portgap.
abbrev pub answer_of : State → Result (Unit {0}) PortStop
answer_of (going g) = Ok tt
answer_of (stopped f) = Err (Fault f)
answer_of no_memory = Err OutOfMemory

-- a reader that has a fault or was refused memory. Own to portgap.
abbrev pub IsStopped : State → Type 0
IsStopped (going g) = ⊥
IsStopped (stopped f) = Unit {0}
IsStopped no_memory = Unit {0}

-- what the tokens say with the token at hand, which is whole now. Own to portgap.
abbrev pub with_last : ℕ → List ℕ → Option Sheet → Result (Option Sheet) PortFault
with_last begin [] sheet = Ok sheet
with_last begin (x ∷ xs) sheet = placed begin (judge sheet (x ∷ xs))

-- what the end of the bytes answers, by where the reader stands: none where it was refused memory.
-- Own to portgap.
abbrev pub end_of : State → Option (Result MarketValue PortFault)
end_of (going g) = Some (finished (g.begin + length g.tail) (with_last g.begin g.tail g.sheet))
end_of (stopped f) = Some (Err f)
end_of no_memory = None

-- an answer of a reader at the end tells what the definition does, or that memory was refused. Own to
-- portgap.
abbrev pub Tells : Result MarketValue PortStop → Result MarketValue PortFault → Type 0
Tells (Ok m) r = r ≡ Ok m
Tells (Err (Fault f)) r = r ≡ Err f
Tells (Err OutOfMemory) r = Unit {0}

-- where a reader stands behind a separator, by what the tokens before it say. Own to portgap.
abbrev pub behind_separator : ℕ → Result (Option Sheet) PortFault → State
behind_separator place (Err f) = stopped f
behind_separator place (Ok s) =
    if nat_lt place limit then going (record { begin = place + 1; tail = []; sheet = s }) else stopped
    (fault_at limit TooLong)

-- where a reader that goes on stands after one byte more. Own to portgap.
abbrev pub going_after : Going → ℕ → State
going_after g b =
    if is_separator b
    then behind_separator (g.begin + length g.tail) (with_last g.begin g.tail g.sheet)
    else (if nat_lt (g.begin + length g.tail) limit then going (record g { tail = g.tail ++ b ∷ [] }) else stopped
    (fault_at limit TooLong))

-- where a reader stands after one byte more. Own to portgap.
abbrev pub after_byte : State → ℕ → State
after_byte (going g) b = going_after g b
after_byte (stopped f) b = stopped f
after_byte no_memory b = no_memory

-- where a reader stands after more bytes. Own to portgap.
abbrev pub over : State → List ℕ → State
over s bytes = fold after_byte s bytes
