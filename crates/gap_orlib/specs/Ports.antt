-- The market of the bytes of a port file, or its first fault. The order of the items is the
-- OR-Library's; the faults are own to portgap.
use Rattle.std.specs.Prelude.{ℕ, zero, suc, ◌+◌, ◌*◌, ◌/◌, ◌%◌, Bool, false, not, ◌&&◌, if◌then◌else◌, nat_le, nat_lt, List, length, fold, filter, slice_index_or, Option, Some, None, Result, Ok, Err}
use Rattle.gap_base.specs.Markets.{MarketValue}
use Rattle.gap_orlib.specs.declared.fault.PortFault.{PortFault}
use Rattle.gap_orlib.specs.declared.fault.PortKind.{PortKind}
use Rattle.gap_orlib.specs.declared.fault.PortKind.TheVariants.{Short, Missing, TooLong}
use Rattle.gap_orlib.specs.declared.wanted.Wanted.{Wanted}
use Rattle.gap_orlib.specs.declared.wanted.Wanted.TheVariants.{First}
use Rattle.gap_orlib.specs.Tokens.{Token, after, tokens}
use Rattle.gap_orlib.specs.Sheets.{Sheet, judge}

-- the greatest number of bytes of a port file: 2^24. Own to portgap.
abbrev pub limit : ℕ
limit = 16777216

-- a fault at a place. Own to portgap.
abbrev pub fault_at : ℕ → PortKind → PortFault
fault_at place kind = record { place = place; kind = kind }

-- what a token says, with its place where it is at fault. Own to portgap.
abbrev pub placed : ℕ → Result Sheet PortKind → Result (Option Sheet) PortFault
placed place (Ok s) = Ok (Some s)
placed place (Err kind) = Err (fault_at place kind)

-- what the tokens up to one say, by what those before it say: a fault stays. Own to portgap.
abbrev pub judged_one : Result (Option Sheet) PortFault → Token → Result (Option Sheet) PortFault
judged_one (Err f) t = Err f
judged_one (Ok s) t = placed t.place (judge s t.text)

-- what tokens say, or the first fault among them. Own to portgap.
unfoldable pub judged : List Token → Result (Option Sheet) PortFault
judged ts = fold judged_one (Ok None) ts

-- the tokens that hold no byte behind the limit: no other is judged. Own to portgap.
unfoldable pub kept : List Token → List Token
kept ts = filter (λ t. nat_le (after t) limit) ts

-- the first of `many` numbers from `at` on that passes. Own to portgap.
abbrev pub first_from : ℕ → ℕ → (ℕ → Bool) → Option ℕ
first_from zero at p = None
first_from (suc many) at p = if p at then Some at else first_from many (at + 1) p

-- whether the pair at a place never stood: pairs stand row by row, as i * n + j with i below j. Own
-- to portgap.
abbrev pub is_missing : ℕ → List Bool → ℕ → Bool
is_missing n seen at = nat_lt (at / n) (at % n) && not (slice_index_or seen at false)

-- the first pair that never stood. Own to portgap.
unfoldable pub missing : ℕ → List Bool → Option ℕ
missing n seen = first_from (n * n) 0 (is_missing n seen)

-- the market, unless a pair never stood. Own to portgap.
abbrev pub complete : ℕ → Sheet → Option ℕ → Result MarketValue PortFault
complete size s None = Ok s.market
complete size s (Some at) = Err (fault_at size (Missing (at / s.market.assets + 1) (at % s.market.assets + 1)))

-- the market of the tokens where the bytes end, where no asset and no triple is cut off. Own to portgap.
abbrev pub closed_at : Wanted → ℕ → Sheet → Result MarketValue PortFault
closed_at First size s = complete size s (missing s.market.assets s.seen)
closed_at _ size s = Err (fault_at size Short)

-- the market of the tokens where the bytes end, `size` of them. Own to portgap.
abbrev pub ended : ℕ → Option Sheet → Result MarketValue PortFault
ended size None = Err (fault_at size Short)
ended size (Some s) = closed_at s.next size s

-- the market of `size` bytes, by what their tokens say. Own to portgap.
abbrev pub finished : ℕ → Result (Option Sheet) PortFault → Result MarketValue PortFault
finished size (Err f) = Err f
finished size (Ok s) = if nat_le size limit then ended size s else Err (fault_at limit TooLong)

-- the market of the bytes, or their first fault. Own to portgap, over the OR-Library's order.
unfoldable pub port : List ℕ → Result MarketValue PortFault
port bytes = finished (length bytes) (judged (kept (tokens bytes)))
