-- What the tokens of a port file say, one after another, and the fault of a token. The order of the
-- tokens is the OR-Library's; the faults are own to portgap.
use Rattle.std.specs.Prelude.{ℕ, ℤ, pos, negsuc, ◌+◌, ◌-◌, ◌*◌, Bool, true, false, not, ◌==◌, ◌&&◌, if◌then◌else◌, nat_le, nat_lt, min, max, List, [], ◌∷◌, replicate, slice_index_or, slice_set, Option, Some, None, Result, Ok, Err}
use Rattle.std.specs.Int.RustNames.{unsigned_abs}
use Rattle.std.specs.Ordering.{int_eq}
use Rattle.gap_base.specs.Numerals.{numeral_of, number_of, is_number}
use Rattle.gap_base.specs.declared.numeral_fault.Rounded.{Rounded}
use Rattle.gap_base.specs.declared.numeral_fault.NumeralFault.{NumeralFault}
use Rattle.gap_base.specs.Markets.{MarketValue, rho_of, fresh_market, with_mean, with_deviation, with_rho, with_one_more_rounded}
use Rattle.gap_orlib.specs.declared.fault.PortKind.{PortKind}
use Rattle.gap_orlib.specs.declared.fault.PortKind.TheVariants.{Count, Numeral, Range, Deviation as BelowZero, Index, Diagonal, Conflict}
use Rattle.gap_orlib.specs.declared.wanted.Wanted.{Wanted}
use Rattle.gap_orlib.specs.declared.wanted.Wanted.TheVariants.{Mean, Deviation, First, Second, Correlation}

-- a text without the plus (43) that it may begin with. Own to portgap.
abbrev pub without_plus : List ℕ → List ℕ
without_plus [] = []
without_plus (x ∷ xs) = if x == 43 then xs else x ∷ xs

-- the number of a whole token: a plus or none, and one digit or more. Own to portgap.
unfoldable pub whole : List ℕ → Option ℕ
whole text = if is_number (without_plus text) then Some (number_of (without_plus text)) else None

-- a number where it is in low..high. Own to portgap.
abbrev pub within : ℕ → ℕ → Option ℕ → Option ℕ
within low high None = None
within low high (Some n) = if nat_le low n && nat_le n high then Some n else None

-- the number of a whole token that is in low..high. Own to portgap.
abbrev pub whole_in : ℕ → ℕ → List ℕ → Option ℕ
whole_in low high text = within low high (whole text)

-- what the tokens so far say: the market as far as it is known, which pairs stood, and what the next
-- token is to be. Own to portgap.
pub record Sheet : Type 0 where
  pub market : MarketValue
  pub seen : List Bool
  pub next : Wanted

-- the place of a pair among all pairs, row by row, whichever way round it is named. Own to portgap.
abbrev pub slot : ℕ → ℕ → ℕ → ℕ
slot n i j = min i j * n + max i j

-- the market with the numeral counted, if it was rounded. Own to portgap.
abbrev pub counted : Bool → MarketValue → MarketValue
counted exact m = if exact then m else with_one_more_rounded m

-- what the first token says: the number of assets. Own to portgap.
abbrev pub begun : Option ℕ → Result Sheet PortKind
begun None = Err Count
begun (Some n) = Ok (record { market = fresh_market n; seen = replicate (n * n) false; next = Mean 0 })

unfoldable pub count_told : List ℕ → Result Sheet PortKind
count_told text = begun (whole_in 2 256 text)

-- what a numeral's value says, where the token is a numeral. Own to portgap.
abbrev pub with_value : Result Rounded NumeralFault → (Rounded → Result Sheet PortKind) → Result Sheet PortKind
with_value (Ok r) f = f r
with_value (Err e) f = Err Numeral

-- whether a size is at most 1, in millionths. Own to portgap.
abbrev pub is_unit_size : ℤ → Bool
is_unit_size v = nat_le (unsigned_abs v) 1000000

abbrev pub is_negative : ℤ → Bool
is_negative (pos n) = false
is_negative (negsuc n) = true

-- what the mean of asset k says. Own to portgap.
unfoldable pub mean_told : Sheet → ℕ → Rounded → Result Sheet PortKind
mean_told s k r =
    if is_unit_size r.value
    then Ok (record s { market = counted r.exact (with_mean s.market k r.value); next = Deviation k })
    else Err Range

-- what is to come behind the deviation of asset k. Own to portgap.
abbrev pub behind_deviation : ℕ → ℕ → Wanted
behind_deviation n k = if nat_lt (k + 1) n then Mean (k + 1) else First

-- what the deviation of asset k says. Own to portgap.
unfoldable pub deviation_told : Sheet → ℕ → Rounded → Result Sheet PortKind
deviation_told s k r =
    if is_negative r.value then Err BelowZero
    else (if is_unit_size r.value
    then Ok (record s {
      market = counted r.exact (with_deviation s.market k (unsigned_abs r.value));
      next = behind_deviation s.market.assets k;
    })
    else Err Range)

-- what the number of a triple's first asset says. Own to portgap.
abbrev pub first_told : Sheet → Option ℕ → Result Sheet PortKind
first_told s None = Err Index
first_told s (Some i) = Ok (record s { next = Second (i - 1) })

-- what the number of a triple's second asset says. Own to portgap.
abbrev pub second_told : Sheet → ℕ → Option ℕ → Result Sheet PortKind
second_told s i None = Err Index
second_told s i (Some j) = Ok (record s { next = Correlation i (j - 1) })

-- whether the pair stood with another value. Own to portgap.
abbrev pub is_conflict : Sheet → ℕ → ℕ → ℤ → Bool
is_conflict s i j v = slice_index_or s.seen (slot s.market.assets i j) false && not (int_eq (rho_of s.market i j) v)

-- what the correlation of two assets says. Own to portgap.
unfoldable pub pair_told : Sheet → ℕ → ℕ → Rounded → Result Sheet PortKind
pair_told s i j r =
    if is_conflict s i j r.value then Err (Conflict (min i j + 1) (max i j + 1))
    else Ok (record {
      market = counted r.exact (with_rho s.market i j r.value);
      seen = slice_set s.seen (slot s.market.assets i j) true;
      next = First;
    })

-- what the correlation of an asset with itself says. Own to portgap.
unfoldable pub diagonal_told : Sheet → Rounded → Result Sheet PortKind
diagonal_told s r =
    if int_eq r.value (pos 1000000)
    then Ok (record s { market = counted r.exact s.market; next = First })
    else Err Diagonal

-- what the correlation of a triple says. Own to portgap.
unfoldable pub correlation_told : Sheet → ℕ → ℕ → Rounded → Result Sheet PortKind
correlation_told s i j r =
    if is_unit_size r.value then (if i == j then diagonal_told s r else pair_told s i j r) else Err Range

-- what the value of a numeral says, by what the token is to be. Own to portgap.
abbrev pub value_told : Wanted → Sheet → Rounded → Result Sheet PortKind
value_told (Mean k) s r = mean_told s k r
value_told (Deviation k) s r = deviation_told s k r
value_told (Correlation i j) s r = correlation_told s i j r
value_told First s r = Err Index
value_told (Second i) s r = Err Index

-- what a token behind the first says, by what it is to be. Own to portgap.
unfoldable pub item_told : Wanted → Sheet → List ℕ → Result Sheet PortKind
item_told (Mean k) s text = with_value (numeral_of text) (value_told (Mean k) s)
item_told (Deviation k) s text = with_value (numeral_of text) (value_told (Deviation k) s)
item_told First s text = first_told s (whole_in 1 s.market.assets text)
item_told (Second i) s text = second_told s i (whole_in 1 s.market.assets text)
item_told (Correlation i j) s text = with_value (numeral_of text) (value_told (Correlation i j) s)

-- what a token says, behind those that made this sheet (none for the first token). Own to portgap.
abbrev pub judge : Option Sheet → List ℕ → Result Sheet PortKind
judge None text = count_told text
judge (Some s) text = item_told s.next s text
