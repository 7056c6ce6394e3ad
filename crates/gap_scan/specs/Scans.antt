-- Where a scanner stands, and what it answers next. Own to portgap.

use Rattle.std.specs.Prelude.{◌≡◌, ℕ, Bool, true, false, List, [], ◌∷◌, ◌++◌, length, Option, Some, None, Result, Ok, Err}
use Rattle.gap_model.specs.declared.cert_fault.CertFault.{CertFault}
use Rattle.gap_model.specs.declared.cert_fault.CertKind.{CertKind}
use Rattle.gap_model.specs.declared.cert_fault.CertKind.TheVariants.{Magic, Trail, Range, Order}
use Rattle.gap_cert.specs.declared.field.Item.{Item}
use Rattle.gap_cert.specs.declared.field.Group.{Group}
use Rattle.gap_cert.specs.declared.field.Stop.{Stop}
use Rattle.gap_cert.specs.declared.field.Stop.TheVariants.{More, Fault}
use Rattle.gap_cert.specs.declared.context.Context.{Context}
use Rattle.gap_cert.specs.Formats.{Spot, read}
use Rattle.gap_cert.specs.Contexts.{format_of, after, start, Runs}

-- where a scanner stands: what the items so far say of those to come, the bytes that aren't in an item yet with the number
-- of the first of them, and the fault that it found
pub record Scan : Type 0 where
  pub context : Context
  pub place : ℕ
  pub rest : List ℕ
  pub fault : Option CertFault

-- a new scanner
abbrev pub fresh_scan : Scan
fresh_scan = record { context = start; place = 0; rest = []; fault = None }

-- a scanner that was fed more bytes
abbrev pub fed_more : Scan → List ℕ → Scan
fed_more s more = record s { rest = s.rest ++ more }

-- is it a kind of fault that the grammar alone names? The others speak of what the numbers mean
abbrev pub is_grammar_kind : CertKind → Bool
is_grammar_kind Magic = true
is_grammar_kind Trail = true
is_grammar_kind Range = true
is_grammar_kind Order = true
is_grammar_kind _ = false

-- an answer, and where the scanner stands behind it
pub record Scanned : Type 0 where
  pub answer : Result (Option Item) CertFault
  pub stands : Scan

-- what is answered by what was read: the item; nothing where more bytes are needed; or the fault
abbrev pub answered : Scan → Result (Group × Spot) Stop → Scanned
answered s (Ok r) = record {
  answer = Ok (Some (record { place = s.place; field = r.0.field }));
  stands = record { context = after s.context r.0; place = r.1.place; rest = r.1.rest; fault = None };
}
answered s (Err More) = record { answer = Ok None; stands = s }
answered s (Err (Fault f)) = record { answer = Err f; stands = record s { fault = Some f } }

abbrev pub next_by : Scan → Option CertFault → Scanned
next_by s (Some f) = record { answer = Err f; stands = s }
next_by s None = answered s (read (format_of s.context s.context.phase) (record { place = s.place; rest = s.rest }))

-- the next answer: after a fault the same again, else what the next bytes read as by the format of the next item
unfoldable pub next_of : Scan → Scanned
next_of s = next_by s s.fault

-- a scanner that has no fault stands behind these items of the bytes that it was fed
pub record HasScanned (s : Scan) (fed : List ℕ) (groups : List Group) : Type 0 where
  pub bytes : List ℕ
  pub run : Runs start groups s.context bytes
  pub fed_is : fed ≡ bytes ++ s.rest
  pub place_is : s.place ≡ length bytes
  pub sound : s.fault ≡ None

-- one item more: its place is where the bytes of those before end
pub record HasScannedMore (s : Scan) (fed : List ℕ) (groups : List Group) (item : Item) : Type 0 where
  pub group : Group
  pub field_is : item.field ≡ group.field
  pub place_is : item.place ≡ s.place
  pub more : HasScanned (next_of s).stands fed (groups ++ group ∷ [])
