-- How a numeral is spelled: which text says which sign, digits, digits behind the point and exponent. Own to portgap.
use Rattle.std.specs.Prelude.{◌≡◌, ◌⊎◌, ℕ, ◌≤◌, Bool, true, false, List, [], ◌∷◌, ◌++◌, length}
use Rattle.gap_base.specs.Numerals.{Power, Parts, AreDigits}

-- a minus (45), or a plus (43) or nothing
abbrev pub IsSign : Bool → List ℕ → Type 0
IsSign true text = text ≡ 45 ∷ []
IsSign false text = (text ≡ []) ⊎ (text ≡ 43 ∷ [])

-- a point (46) and these digits, or nothing where there are none
abbrev pub IsFraction : List ℕ → List ℕ → Type 0
IsFraction digits text = (text ≡ 46 ∷ digits) ⊎ ((text ≡ []) × (digits ≡ []))

-- `e` (101) or `E` (69), a sign or none, and one digit or more; or nothing
pub data IsPower (power : Power) (text : List ℕ) : Type 0 where
  none : power.lowers ≡ false → power.digits ≡ [] → text ≡ [] → IsPower power text
  some : (mark : ℕ) (sign : List ℕ) → (mark ≡ 101) ⊎ (mark ≡ 69) → IsSign power.lowers sign → 1 ≤ length power.digits
      → AreDigits power.digits
      → text ≡ mark ∷ (sign ++ power.digits) → IsPower power text

-- a text spells the parts of a numeral: a sign or none, digits, a point and digits, and an exponent or none; one digit at
-- least stands before or behind the point; the text has at most 64 bytes
pub record Spells (text : List ℕ) (parts : Parts) : Type 0 where
  pub sign : List ℕ
  pub fraction : List ℕ
  pub power : List ℕ
  pub size : length text ≤ 64
  pub sign_is : IsSign parts.negative sign
  pub whole_is : AreDigits parts.whole
  pub digits_behind : AreDigits parts.fraction
  pub fraction_is : IsFraction parts.fraction fraction
  pub some_digit : 1 ≤ length (parts.whole ++ parts.fraction)
  pub power_is : IsPower parts.power power
  pub text_is : text ≡ sign ++ (parts.whole ++ (fraction ++ power))
