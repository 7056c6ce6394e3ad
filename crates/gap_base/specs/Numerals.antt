-- Numerals: a text as a sign, digits before and after a point and an exponent, and the value that
-- these say in millionths, as a quotient of whole numbers that is rounded once. Own to portgap.
use Rattle.std.specs.Prelude.{ℕ, ℤ, pos, neg_ℤ, ◌+◌, ◌-◌, ◌*◌, ◌/◌, ◌%◌, ◌^◌, Bool, true, false, ◌≡◌, ◌==◌, ◌||◌, if◌then◌else◌, nat_le, nat_lt, List, [], ◌∷◌, ◌++◌, length, take_while, drop, fold, Option, Some, None, Result, Ok, Err}
use Rattle.std.specs.List.{prefix_len, list_all}
use Rattle.std.specs.Char.{is_ascii_digit}
use Rattle.gap_base.specs.Sizes.{most_numeral}
use Rattle.gap_base.specs.declared.numeral_fault.Rounded.{Rounded}
use Rattle.gap_base.specs.declared.numeral_fault.NumeralFault.{NumeralFault}
use Rattle.gap_base.specs.declared.numeral_fault.NumeralFault.TheVariants.{Shape, TooManyDigits, Exponent}

-- what is written behind the digits: whether the exponent is below 0, and the digits of its size
-- (none where no exponent is written). Own to portgap.
pub record Power : Type 0 where
  pub lowers : Bool
  pub digits : List ℕ

-- what a numeral's text says: a minus or none, the digits before the point, those after it, and
-- the exponent. Own to portgap.
pub record Parts : Type 0 where
  pub negative : Bool
  pub whole : List ℕ
  pub fraction : List ℕ
  pub power : Power

-- whether a text begins with a minus, and the text without the sign it may begin with: 43 is `+`
-- and 45 is `-`. Own to portgap.
abbrev pub without_sign : List ℕ → Bool × List ℕ
without_sign [] = (false, [])
without_sign (x ∷ xs) = if x == 43 then (false, xs) else (if x == 45 then (true, xs) else (false, x ∷ xs))

-- the digits that a text begins with. Own to portgap.
abbrev pub digits_of : List ℕ → List ℕ
digits_of text = take_while is_ascii_digit text

-- what follows the digits that a text begins with. Own to portgap.
abbrev pub after_digits : List ℕ → List ℕ
after_digits text = drop (prefix_len is_ascii_digit text) text

-- the text behind a point (46) that it begins with, if it begins with one. Own to portgap.
abbrev pub after_point : List ℕ → Option (List ℕ)
after_point [] = None
after_point (x ∷ xs) = if x == 46 then Some xs else None

-- one digit or more, and nothing else. Own to portgap.
abbrev pub is_number : List ℕ → Bool
is_number [] = false
is_number (x ∷ xs) = list_all is_ascii_digit (x ∷ xs)

-- the exponent that a text is: nothing at all, or `e` (101) or `E` (69), a sign or none, and one
-- digit or more. Own to portgap.
unfoldable pub power_of : List ℕ → Option Power
power_of [] = Some (record { lowers = false; digits = [] })
power_of (x ∷ xs) =
    if x == 101 || x == 69
    then (if is_number (without_sign xs).1
    then Some (record { lowers = (without_sign xs).0; digits = (without_sign xs).1 })
    else None)
    else None

-- the parts, where at least one digit stands before or after the point. Own to portgap.
unfoldable pub assembled : Bool → List ℕ → List ℕ → List ℕ → Option Parts
assembled negative whole fraction rest =
    if length whole + length fraction == 0 then None
    else elim (power_of rest) [
      | Some power ↦ Some (record { negative = negative; whole = whole; fraction = fraction; power = power })
      | None ↦ None
    ]

-- the parts of a text behind its sign. Own to portgap.
unfoldable pub unsigned_parts : Bool → List ℕ → Option Parts
unsigned_parts negative text = elim (after_point (after_digits text)) [
  | Some rest ↦ assembled negative (digits_of text) (digits_of rest) (after_digits rest)
  | None ↦ assembled negative (digits_of text) [] (after_digits text)
]

-- the parts of a numeral, where the text has the form of one: at most 64 bytes, a sign or none;
-- digits, or digits, a point and digits, where one of both groups may be missing; an exponent or
-- none. Own to portgap.
unfoldable pub parts_of : List ℕ → Option Parts
parts_of text = if nat_le (length text) 64 then unsigned_parts (without_sign text).0 (without_sign text).1 else None

-- digits and nothing else. Own to portgap.
pub record AreDigits (text : List ℕ) : Type 0 where
  pub all : list_all is_ascii_digit text ≡ true

-- the number that digits write: 48 is `0`. Own to portgap.
abbrev pub number_of : List ℕ → ℕ
number_of digits = fold (λ n d. n * 10 + (d - 48)) 0 digits

-- digits without the zeros they begin with. Own to portgap.
abbrev pub without_zeros : List ℕ → List ℕ
without_zeros [] = []
without_zeros (x ∷ xs) = if x == 48 then without_zeros xs else x ∷ xs

-- the value in millionths is `numerator / denominator`: the digits of both groups as one number,
-- times 10 to the exponent and to 6, over 10 to the number of digits behind the point. A negative
-- exponent stands in the denominator. Own to portgap.
abbrev pub numerator : Parts → ℕ
numerator p = number_of (p.whole ++ p.fraction) * 10 ^ (6 + (if p.power.lowers then 0 else number_of p.power.digits))

abbrev pub denominator : Parts → ℕ
denominator p = 10 ^ (length p.fraction + (if p.power.lowers then number_of p.power.digits else 0))

-- `n / d` to the nearest whole number, a half up. Own to portgap.
abbrev pub nearest : ℕ → ℕ → ℕ
nearest n d = (2 * n + d) / (2 * d)

-- a size with its sign. Own to portgap.
abbrev pub signed_size : Bool → ℕ → ℤ
signed_size negative size = if negative then neg_ℤ (pos size) else pos size

-- a size of at most 10^30 as it is, and 10^30 for a greater one, which isn't exact. Own to portgap.
unfoldable pub capped : Bool → ℕ → Bool → Rounded
capped negative size exact =
    if nat_le size most_numeral
    then record { value = signed_size negative size; exact = exact }
    else record { value = signed_size negative most_numeral; exact = false }

-- `n / d` millionths: rounded to the nearest, a half away from zero, and cut off at 10^30. Own to
-- portgap.
unfoldable pub rounded_quotient : Bool → ℕ → ℕ → Rounded
rounded_quotient negative n d = capped negative (nearest n d) (n % d == 0)

-- what parts say: digits that are more than 30 without leading zeros are too many; then an exponent
-- outside -40..40 is at fault; else the value. Own to portgap.
unfoldable pub valued : Parts → Result Rounded NumeralFault
valued p =
    if nat_lt 30 (length (without_zeros (p.whole ++ p.fraction))) then Err TooManyDigits
    else (if nat_lt 40 (number_of p.power.digits) then Err Exponent
    else Ok (rounded_quotient p.negative (numerator p) (denominator p)))

-- what a text with these parts is as a numeral: at fault where it hasn't any. Own to portgap.
abbrev pub told : Option Parts → Result Rounded NumeralFault
told None = Err Shape
told (Some p) = valued p

-- what a token is as a numeral: at fault where it hasn't the form of one, else what its parts say.
-- Own to portgap.
unfoldable pub numeral_of : List ℕ → Result Rounded NumeralFault
numeral_of token = told (parts_of token)
