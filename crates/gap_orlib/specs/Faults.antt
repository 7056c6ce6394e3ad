-- The first fault of the bytes, in the words of the file: which token is at fault, by its text and the
-- tokens before it. Own to portgap.
use Rattle.std.specs.Prelude.{ℕ, ℤ, pos, ◌+◌, ◌*◌, ◌<◌, ◌≤◌, ◌≡◌, ◌≢◌, ◌⊎◌, true, false, List, [], ◌∷◌, ◌++◌, length, Some, None, Result, Ok, Err}
use Rattle.std.specs.Int.RustNames.{unsigned_abs}
use Rattle.gap_base.specs.Numerals.{numeral_of}
use Rattle.gap_base.specs.declared.numeral_fault.Rounded.{Rounded}
use Rattle.gap_base.specs.declared.numeral_fault.NumeralFault.{NumeralFault}
use Rattle.gap_orlib.specs.declared.fault.PortFault.{PortFault}
use Rattle.gap_orlib.specs.declared.fault.PortKind.{PortKind}
use Rattle.gap_orlib.specs.declared.fault.PortKind.TheVariants.{Count, Numeral, Range, Deviation, Index, Diagonal, Conflict, Short, Missing, TooLong}
use Rattle.gap_orlib.specs.Tokens.{Token, tokens}
use Rattle.gap_orlib.specs.Sheets.{whole, whole_in, is_negative}
use Rattle.gap_orlib.specs.Ports.{limit, kept}
use Rattle.gap_orlib.specs.Fields.{text_at, IsValue, IsTriple, NamesPair, triple_at, is_value_place}

-- token 0 is the number of assets, 2 to 256. Own to portgap.
pub record IsCount (ts : List Token) (n : ℕ) : Type 0 where
  pub number : whole (text_at ts 0) ≡ Some n
  pub few : 2 ≤ n
  pub many : n ≤ 256

-- no numeral. Own to portgap.
abbrev pub IsNoNumeral : Result Rounded NumeralFault → Type 0
IsNoNumeral (Ok r) = ⊥
IsNoNumeral (Err e) = Unit {0}

-- token k is to be a mean, a deviation or a correlation, and is no numeral. Own to portgap.
pub record HasNumeral (ts : List Token) (k : ℕ) : Type 0 where
  pub assets : ℕ
  pub count : IsCount ts assets
  pub place : is_value_place assets k ≡ true
  pub no_numeral : IsNoNumeral (numeral_of (text_at ts k))

-- token k is to be a mean, a deviation or a correlation, and is above 1 in size after rounding (and no
-- deviation below 0). Own to portgap.
pub record HasRange (ts : List Token) (k : ℕ) : Type 0 where
  pub assets : ℕ
  pub count : IsCount ts assets
  pub place : is_value_place assets k ≡ true
  pub value : ℤ
  pub is_value : IsValue ts k value
  pub great : 1000000 < unsigned_abs value
  pub not_below : (a : ℕ) → a < assets → k ≡ 2 * a + 2 → is_negative value ≡ false

-- token k is the deviation of an asset, and below 0 after rounding. Own to portgap.
pub record HasDeviation (ts : List Token) (k : ℕ) : Type 0 where
  pub assets : ℕ
  pub count : IsCount ts assets
  pub asset : ℕ
  pub there : asset < assets
  pub place : k ≡ 2 * asset + 2
  pub value : ℤ
  pub is_value : IsValue ts k value
  pub negative : is_negative value ≡ true

-- token k is to be the number of an asset, and isn't. Own to portgap.
pub record HasIndex (ts : List Token) (k : ℕ) : Type 0 where
  pub assets : ℕ
  pub count : IsCount ts assets
  pub triple : ℕ
  pub place : (k ≡ triple_at assets triple) ⊎ (k ≡ triple_at assets triple + 1)
  pub no_asset : whole_in 1 assets (text_at ts k) ≡ None

-- token k ends a triple that gives an asset another correlation with itself than 1. Own to portgap.
pub record HasDiagonal (ts : List Token) (k : ℕ) : Type 0 where
  pub assets : ℕ
  pub count : IsCount ts assets
  pub triple : ℕ
  pub place : k ≡ triple_at assets triple + 2
  pub asset : ℕ
  pub value : ℤ
  pub is_triple : IsTriple ts assets triple asset asset value
  pub small : unsigned_abs value ≤ 1000000
  pub not_one : value ≢ pos 1000000

-- token k ends a triple that gives two assets, i below j (from 1), another correlation than a triple
-- before it did. Own to portgap.
pub record HasConflict (ts : List Token) (k i j : ℕ) : Type 0 where
  pub assets : ℕ
  pub count : IsCount ts assets
  pub triple : ℕ
  pub place : k ≡ triple_at assets triple + 2
  pub low : ℕ
  pub high : ℕ
  pub i_is : i ≡ low + 1
  pub j_is : j ≡ high + 1
  pub in_order : low < high
  pub value : ℤ
  pub small : unsigned_abs value ≤ 1000000
  pub names : NamesPair ts assets triple low high value
  pub earlier : ℕ
  pub before : earlier < triple
  pub other : ℤ
  pub named : NamesPair ts assets earlier low high other
  pub differs : value ≢ other

-- token k has a fault of this kind. Own to portgap.
abbrev pub IsAtFault : List Token → ℕ → PortKind → Type 0
IsAtFault ts k Count = (k ≡ 0) × (whole_in 2 256 (text_at ts 0) ≡ None)
IsAtFault ts k Numeral = HasNumeral ts k
IsAtFault ts k Range = HasRange ts k
IsAtFault ts k Deviation = HasDeviation ts k
IsAtFault ts k Index = HasIndex ts k
IsAtFault ts k Diagonal = HasDiagonal ts k
IsAtFault ts k (Conflict i j) = HasConflict ts k i j
IsAtFault ts k Short = ⊥
IsAtFault ts k (Missing i j) = ⊥
IsAtFault ts k TooLong = ⊥

-- none of the first k tokens is at fault. Own to portgap.
abbrev pub AreSound : List Token → ℕ → Type 0
AreSound ts k = (l : ℕ) (kind : PortKind) → l < k → IsAtFault ts l kind → ⊥

-- the tokens begin with sound ones and then one that is at fault. Own to portgap.
pub record IsTokenFault (ts : List Token) (f : PortFault) : Type 0 where
  pub front : List Token
  pub token : Token
  pub rest : List Token
  pub all : ts ≡ front ++ token ∷ rest
  pub sound : AreSound front (length front)
  pub at_fault : IsAtFault (front ++ token ∷ []) (length front) f.kind
  pub place : f.place ≡ token.place

-- the tokens end before the first, in the list of assets or inside a triple. Own to portgap.
pub data IsCut (ts : List Token) : Type 0 where
  nothing : length ts ≡ 0 → IsCut ts
  assets : (n : ℕ) → IsCount ts n → length ts ≤ 2 * n → IsCut ts
  triple : (n t r : ℕ) → IsCount ts n → 1 ≤ r → r ≤ 2 → length ts ≡ triple_at n t + r → IsCut ts

-- assets and triples are whole, and i and j (from 1) are the first pair that never stood. Own to portgap.
pub record IsMissing (ts : List Token) (i j : ℕ) : Type 0 where
  pub assets : ℕ
  pub triples : ℕ
  pub count : IsCount ts assets
  pub whole : length ts ≡ triple_at assets triples
  pub low : ℕ
  pub high : ℕ
  pub i_is : i ≡ low + 1
  pub j_is : j ≡ high + 1
  pub in_order : low < high
  pub there : high < assets
  pub never : (t : ℕ) (v : ℤ) → NamesPair ts assets t low high v → ⊥
  pub first : (a b : ℕ) → a < b → b < assets → (a < low) ⊎ ((a ≡ low) × (b < high))
      → (t : ℕ) × (v : ℤ) × NamesPair ts assets t a b v

-- the bytes have this fault at their end, of this many bytes, or a token is at fault. Own to portgap.
abbrev pub IsFaultBy : PortKind → List ℕ → PortFault → Type 0
IsFaultBy Short bytes f =
    (f.place ≡ length bytes) × (length bytes ≤ limit) × AreSound (tokens bytes) (length (tokens bytes))
    × IsCut (tokens bytes)
IsFaultBy (Missing i j) bytes f =
    (f.place ≡ length bytes) × (length bytes ≤ limit) × AreSound (tokens bytes) (length (tokens bytes))
    × IsMissing (tokens bytes) i j
IsFaultBy TooLong bytes f =
    (f.place ≡ limit) × (limit < length bytes) × AreSound (kept (tokens bytes)) (length (kept (tokens bytes)))
IsFaultBy _ bytes f = IsTokenFault (kept (tokens bytes)) f

-- the first fault of the bytes. Own to portgap.
abbrev pub IsFaultOf : List ℕ → PortFault → Type 0
IsFaultOf bytes f = IsFaultBy f.kind bytes f
