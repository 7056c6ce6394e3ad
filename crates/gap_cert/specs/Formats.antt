-- Formats: which numbers a group of a certificate has, one after another, and what they say. Own to portgap.

use Rattle.std.specs.Prelude.{◌≡◌, ℕ, ◌+◌, ◌-◌, ◌<◌, ◌≤◌, ◌≤ℤ◌, ◌&&◌, if◌then◌else◌, nat_lt, nat_le, int_le, Bool, true, List, [], ◌++◌, length, take, drop, Result, Ok, Err, ℤ}
use Rattle.gap_model.specs.declared.cert_fault.CertKind.{CertKind}
use Rattle.gap_model.specs.declared.cert_fault.CertKind.TheVariants.{Range}
use Rattle.gap_cert.specs.declared.field.Group.{Group}
use Rattle.gap_cert.specs.declared.field.Stop.{Stop}
use Rattle.gap_cert.specs.declared.field.Stop.TheVariants.{More, Fault}
use Rattle.gap_cert.specs.Bytes.{be, value_of, full, signed_be, signed_from, IsSigned}

-- a format is the numbers of a group, one after another, where each may say what follows: a whole number of a width with
-- its least and its greatest value, and the fault of any other; a signed one of that kind, any other being out of range;
-- a test of the numbers so far with the fault, so many bytes back, where it fails; and what the numbers say
pub data Format : Type 0 where
  natural : ℕ → CertKind → ℕ → ℕ → (ℕ → Format) → Format
  signed : ℕ → ℤ → ℤ → (ℤ → Format) → Format
  guard : Bool → ℕ → CertKind → Format → Format
  says : Group → Format

-- bytes spell a whole number in its range, and then more
pub record SpellsNatural (width least greatest : ℕ) (bytes : List ℕ) (Behind : ℕ → List ℕ → Type 0) : Type 0 where
  pub value : ℕ
  pub more : List ℕ
  pub low : least ≤ value
  pub high : value ≤ greatest
  pub fits : value < full width
  pub bytes_are : bytes ≡ be width value ++ more
  pub behind : Behind value more

-- bytes spell a signed number in its range, and then more
pub record SpellsSigned (width : ℕ) (least greatest : ℤ) (bytes : List ℕ) (Behind : ℤ → List ℕ → Type 0) : Type 0 where
  pub value : ℤ
  pub more : List ℕ
  pub low : least ≤ℤ value
  pub high : value ≤ℤ greatest
  pub fits : IsSigned width value
  pub bytes_are : bytes ≡ signed_be width value ++ more
  pub behind : Behind value more

-- bytes spell a group by a format: each number in its range, each test met, and what they say is the group
unfoldable pub Spells : Format → Group → List ℕ → Type 0
Spells (natural width wrong least greatest next) group bytes =
    SpellsNatural width least greatest bytes (λ value more. Spells (next value) group more)
Spells (signed width least greatest next) group bytes =
    SpellsSigned width least greatest bytes (λ value more. Spells (next value) group more)
Spells (guard test back wrong format) group bytes = (test ≡ true) × Spells format group bytes
Spells (says said) group bytes = (group ≡ said) × (bytes ≡ [])

-- bytes that aren't read yet, with the number of the first of them
pub record Spot : Type 0 where
  pub place : ℕ
  pub rest : List ℕ

infixl 10 ◌>>=◌
abbrev pub ◌>>=◌ : {A B : Type 0} → Result A Stop → (A → Result B Stop) → Result B Stop
(Ok a) >>= f = f a
(Err e) >>= f = Err e

-- behind the next bytes
abbrev pub behind : ℕ → Spot → Spot
behind width s = record { place = s.place + width; rest = drop width s.rest }

-- a fault of the next number
abbrev pub fault_here : CertKind → Spot → Stop
fault_here wrong s = Fault (record { place = s.place; kind = wrong })

-- a fault so many bytes back
abbrev pub fault_back : ℕ → CertKind → Spot → Stop
fault_back back wrong s = Fault (record { place = s.place - back; kind = wrong })

-- the next whole number, where all of its bytes are there and it is in its range
unfoldable pub natural_at : ℕ → CertKind → ℕ → ℕ → Spot → Result (ℕ × Spot) Stop
natural_at width wrong least greatest s =
    if nat_lt (length s.rest) width
    then Err More
    else (if nat_le least (value_of (take width s.rest)) && nat_le (value_of (take width s.rest)) greatest
    then Ok (value_of (take width s.rest), behind width s)
    else Err (fault_here wrong s))

-- the next signed number, where all of its bytes are there and it is in its range
unfoldable pub signed_at : ℕ → ℤ → ℤ → Spot → Result (ℤ × Spot) Stop
signed_at width least greatest s =
    if nat_lt (length s.rest) width
    then Err More
    else (if int_le least (signed_from width (value_of (take width s.rest)))
    && int_le (signed_from width (value_of (take width s.rest))) greatest
    then Ok (signed_from width (value_of (take width s.rest)), behind width s)
    else Err (fault_here Range s))

-- a group read by a format from the next bytes, or why not: numbers are judged in the order of the bytes, each when its
-- last byte is there
abbrev pub read : Format → Spot → Result (Group × Spot) Stop
read (natural width wrong least greatest next) s = natural_at width wrong least greatest s >>= λ r. read (next r.0) r.1
read (signed width least greatest next) s = signed_at width least greatest s >>= λ r. read (next r.0) r.1
read (guard test back wrong format) s = if test then read format s else Err (fault_back back wrong s)
read (says said) s = Ok (said, s)

-- what a number or a group was read as, and where the reading stands behind it; or why it wasn't read
abbrev pub Takes : {A : Type 0} → Result (A × Spot) Stop → Spot → Result A Stop → Type 0
Takes outcome new (Ok a) = outcome ≡ Ok (a, new)
Takes outcome new (Err e) = outcome ≡ Err e

-- what was read of bytes: a front of them, which spells the group, and where the reading ends
pub record IsReadFrom (format : Format) (group : Group) (s t : Spot) : Type 0 where
  pub bytes : List ℕ
  pub spells : Spells format group bytes
  pub rest_is : s.rest ≡ bytes ++ t.rest
  pub place_is : t.place ≡ s.place + length bytes
