-- The parts of a text are those that it spells, and a text that has none spells none.
use Rattle.std.proofs.Common.{◌≡◌, ℕ, suc, ◌+◌, ◌<◌, ◌≤◌, ◌⊎◌, inl, inr, ⊎_elim, Bool, true, false, ◌&&◌, ◌||◌, ◌==◌, cond, if◌then◌else◌, nat_le, nat_lt, List, [], ◌∷◌, ◌++◌, length, take, drop, take_while, Option, Some, None, Result, Ok, Err, refl, sym, ap, ◌∙◌, subst, arith, append-nil, length-append}
use Rattle.std.proofs.Math.Seq.{take-append_seam, drop-append_seam}
use Rattle.std.proofs.lemmas.Bool.Decides.{nat_tests}
use Rattle.std.proofs.lemmas.List.{take-append-drop}
use Rattle.std.specs.List.{list_all, prefix_len}
use Rattle.std.specs.Char.{is_ascii_digit}
use Rattle.gap_base.specs.declared.numeral_fault.Rounded.{Rounded}
use Rattle.gap_base.specs.declared.numeral_fault.NumeralFault.{NumeralFault}
use Rattle.gap_base.specs.declared.numeral_fault.NumeralFault.TheVariants.{Shape, TooManyDigits, Exponent}
use Rattle.gap_base.specs.Numerals.{Parts, Power, AreDigits, without_sign, is_number, without_zeros, number_of, numerator, denominator, rounded_quotient, valued, told, numeral_of, parts_of, unsigned_parts, assembled, digits_of, after_digits, after_point, power_of}
use Rattle.gap_base.specs.Spellings.{IsSign, IsFraction, IsPower, none, some, Spells}
use Rattle.gap_base.proofs.NumeralParts.{front_digits}

-- a text that is empty or begins with no digit
NoDigit : List ℕ → Type 0
NoDigit [] = Unit {0}
NoDigit (x ∷ xs) = is_ascii_digit x ≡ false

prefix_all : (p : ℕ → Bool) (w tail : List ℕ) → list_all p w ≡ true → prefix_len p tail ≡ 0 → prefix_len p (w ++ tail) ≡ length w
prefix_all p [] tail h n = n
prefix_all p (x ∷ xs) tail h n =
    let here : p x ≡ true = and_first (p x) (list_all p xs) h in
    let more : prefix_len p (xs ++ tail) ≡ length xs = prefix_all p xs tail (and_second (p x) (list_all p xs) h) n in
    rw (here, more) (omega arith)
  where
    and_first : (a b : Bool) → (a && b) ≡ true → a ≡ true
    and_first true b e = refl
    and_first false b e = e

    and_second : (a b : Bool) → (a && b) ≡ true → b ≡ true
    and_second true b e = e
    and_second false b e = absurd (no_way e)
      where
        no_way : false ≡ true → ⊥
        no_way e = cc

prefix_none : (tail : List ℕ) → NoDigit tail → prefix_len is_ascii_digit tail ≡ 0
unfolding NoDigit
prefix_none [] n = refl
prefix_none (x ∷ xs) n = rw n refl

prefix-digits : (w tail : List ℕ) → list_all is_ascii_digit w ≡ true → NoDigit tail → prefix_len is_ascii_digit (w ++ tail) ≡ length w
prefix-digits w tail h n = prefix_all is_ascii_digit w tail h (prefix_none tail n)

digits_front : (w tail : List ℕ) → AreDigits w → NoDigit tail → digits_of (w ++ tail) ≡ w
digits_front w tail d n = rw (prefix-digits w tail d.all n) (take-append_seam w tail)

digits_rest : (w tail : List ℕ) → AreDigits w → NoDigit tail → after_digits (w ++ tail) ≡ tail
digits_rest w tail d n = rw (prefix-digits w tail d.all n) (drop-append_seam w tail)

-- a text that begins with no sign
NoSign : List ℕ → Type 0
NoSign [] = ⊥
NoSign (x ∷ xs) = ((x == 43) ≡ false) × ((x == 45) ≡ false)

sign_off : (negative : Bool) (sign rest : List ℕ) → IsSign negative sign → NoSign rest → without_sign (sign ++ rest) ≡ (negative, rest)
unfolding NoSign
sign_off true sign rest h n = rw h refl
sign_off false sign rest (inr h) n = rw h refl
sign_off false sign [] (inl h) n = absurd n
sign_off false sign (x ∷ xs) (inl h) n = rw (h, n.0, n.1) refl

digit_no_sign : (x : ℕ) → is_ascii_digit x ≡ true → ((x == 43) ≡ false) × ((x == 45) ≡ false)
digit_no_sign x e = (grind (arith, nat_tests), grind (arith, nat_tests))

digits_no_sign : (w tail : List ℕ) → AreDigits w → 1 ≤ length w → NoSign (w ++ tail)
unfolding NoSign
digits_no_sign [] tail d h = absurd (omega arith)
digits_no_sign (x ∷ xs) tail d h = digit_no_sign x (first (is_ascii_digit x) (list_all is_ascii_digit xs) d.all)
  where
    first : (a b : Bool) → (a && b) ≡ true → a ≡ true
    first true b e = refl
    first false b e = e

-- the exponent that a text spells
power_first : (p : Power) (text : List ℕ) → IsPower p text → NoDigit text
unfolding NoDigit
power_first p text (none a b e) = rw e tt
power_first p text (some mark sign m s k d e) = rw e (⊎_elim (λ q. rw q refl) (λ q. rw q refl) m)

power_here : (p : Power) (text : List ℕ) → IsPower p text → power_of text ≡ Some p
unfolding power_of
power_here p text (none a b e) = rw (e, ← a, ← b) refl
power_here p text (some mark sign m s k d e) =
    let off : without_sign (sign ++ p.digits) ≡ (p.lowers, p.digits) = rw append-nil at (sign_off p.lowers sign (p.digits ++ []) s (digits_no_sign p.digits [] d k)) in
    rw (e, marked mark m, off, number p.digits d k) refl
  where
    marked : (mark : ℕ) → (mark ≡ 101) ⊎ (mark ≡ 69) → (mark == 101 || mark == 69) ≡ true
    marked mark (inl q) = rw q refl
    marked mark (inr q) = rw q refl

    number : (digits : List ℕ) → AreDigits digits → 1 ≤ length digits → is_number digits ≡ true
    number [] d k = absurd (omega arith)
    number (x ∷ xs) d k = d.all

point_off : (p : Power) (text : List ℕ) → IsPower p text → after_point text ≡ None
point_off p text (none a b e) = rw e refl
point_off p text (some mark sign m s k d e) = rw e (⊎_elim (λ q. rw q refl) (λ q. rw q refl) m)

assembled_here : (negative : Bool) (w f rest : List ℕ) (p : Power) → 1 ≤ length (w ++ f) → IsPower p rest → assembled negative w f rest ≡ Some (record { negative = negative; whole = w; fraction = f; power = p })
unfolding assembled
assembled_here negative w f rest p h is = let count : (length w + length f == 0) ≡ false = counted (length w) (length f) (omega (arith, length-append w f)) in rw (count, power_here p rest is) refl
  where
    counted : (a b : ℕ) → 1 ≤ a + b → (a + b == 0) ≡ false
    counted a b e = grind (arith, nat_tests)

with_point : (negative : Bool) (text rest : List ℕ) → after_point (after_digits text) ≡ Some rest → unsigned_parts negative text ≡ assembled negative (digits_of text) (digits_of rest) (after_digits rest)
unfolding unsigned_parts
with_point negative text rest e = ap (λ (o : Option (List ℕ)). elim o [
  | Some rest ↦ assembled negative (digits_of text) (digits_of rest) (after_digits rest)
  | None ↦ assembled negative (digits_of text) [] (after_digits text)
]) e

without_point : (negative : Bool) (text : List ℕ) → after_point (after_digits text) ≡ None → unsigned_parts negative text ≡ assembled negative (digits_of text) [] (after_digits text)
unfolding unsigned_parts
without_point negative text e = ap (λ (o : Option (List ℕ)). elim o [
  | Some rest ↦ assembled negative (digits_of text) (digits_of rest) (after_digits rest)
  | None ↦ assembled negative (digits_of text) [] (after_digits text)
]) e

assembled_same : (negative : Bool) (w w' f f' r r' : List ℕ) → w ≡ w' → f ≡ f' → r ≡ r' → assembled negative w f r ≡ assembled negative w' f' r'
assembled_same negative w w' f f' r r' a b c = rw (a, b, c) refl

pointed_here : (negative : Bool) (w f rest : List ℕ) (p : Power) → AreDigits w → AreDigits f → 1 ≤ length (w ++ f) → IsPower p rest → unsigned_parts negative (w ++ 46 ∷ (f ++ rest)) ≡ Some (record { negative = negative; whole = w; fraction = f; power = p })
unfolding NoDigit
pointed_here negative w f rest p dw df h is =
    with_point negative (w ++ 46 ∷ (f ++ rest)) (f ++ rest) (ap after_point (digits_rest w (46 ∷ (f ++ rest)) dw refl))
    ∙ (assembled_same negative (digits_of (w ++ 46 ∷ (f ++ rest))) w (digits_of (f ++ rest)) f (after_digits (f ++ rest)) rest (digits_front w (46 ∷ (f ++ rest)) dw refl) (digits_front f rest df (power_first p rest is)) (digits_rest f rest df (power_first p rest is))
    ∙ assembled_here negative w f rest p h is)

pointless_here : (negative : Bool) (w rest : List ℕ) (p : Power) → AreDigits w → 1 ≤ length (w ++ []) → IsPower p rest → unsigned_parts negative (w ++ rest) ≡ Some (record { negative = negative; whole = w; fraction = []; power = p })
pointless_here negative w rest p dw h is =
    without_point negative (w ++ rest) (ap after_point (digits_rest w rest dw (power_first p rest is)) ∙ point_off p rest is)
    ∙ (assembled_same negative (digits_of (w ++ rest)) w [] [] (after_digits (w ++ rest)) rest (digits_front w rest dw (power_first p rest is)) refl (digits_rest w rest dw (power_first p rest is))
    ∙ assembled_here negative w [] rest p h is)

unsigned_here : (negative : Bool) (w f fraction rest : List ℕ) (p : Power) → AreDigits w → AreDigits f → IsFraction f fraction → 1 ≤ length (w ++ f) → IsPower p rest → unsigned_parts negative (w ++ (fraction ++ rest)) ≡ Some (record { negative = negative; whole = w; fraction = f; power = p })
unsigned_here negative w f fraction rest p dw df (inl e) h is = rw e (pointed_here negative w f rest p dw df h is)
unsigned_here negative w f fraction rest p dw df (inr e) h is = rw (e.0, e.1) (pointless_here negative w rest p dw (rw e.1 at h) is)

begins : (w f fraction rest : List ℕ) → AreDigits w → IsFraction f fraction → 1 ≤ length (w ++ f) → NoSign (w ++ (fraction ++ rest))
unfolding NoSign
begins (x ∷ xs) f fraction rest dw e h = digits_no_sign (x ∷ xs) (fraction ++ rest) dw (omega arith)
begins [] f fraction rest dw (inl e) h = rw e (refl, refl)
begins [] f fraction rest dw (inr e) h = absurd (empty f e.1 h)
  where
    empty : (f : List ℕ) → f ≡ [] → 1 ≤ length f → ⊥
    empty f q k = let none : length f ≡ 0 = ap length q in omega arith

parts_by : (text : List ℕ) (q : Bool × List ℕ) → nat_le (length text) 64 ≡ true → without_sign text ≡ q → parts_of text ≡ unsigned_parts q.0 q.1
unfolding parts_of
parts_by text q fits off = rw fits (ap (λ (s : Bool × List ℕ). unsigned_parts s.0 s.1) off)

-- what a text spells are its parts
pub parts_spelled : (text : List ℕ) (p : Parts) → Spells text p → parts_of text ≡ Some p
parts_spelled text p s =
    let off : without_sign (s.sign ++ (p.whole ++ (s.fraction ++ s.power))) ≡ (p.negative, p.whole ++ (s.fraction ++ s.power)) =
    sign_off p.negative s.sign (p.whole ++ (s.fraction ++ s.power)) s.sign_is (begins p.whole p.fraction s.fraction s.power s.whole_is s.fraction_is s.some_digit) in
    parts_by text (p.negative, p.whole ++ (s.fraction ++ s.power)) (few (length text) s.size) (ap without_sign s.text_is ∙ off)
    ∙ unsigned_here p.negative p.whole p.fraction s.fraction s.power p.power s.whole_is s.digits_behind s.fraction_is s.some_digit s.power_is
  where
    few : (n : ℕ) → n ≤ 64 → nat_le n 64 ≡ true
    few n h = grind (arith, nat_tests)

-- and it has their value
pub spelled_value : (text : List ℕ) (p : Parts) → Spells text p → numeral_of text ≡ valued p
unfolding numeral_of
spelled_value text p s = ap told (parts_spelled text p s)

pub none_spelled : (text : List ℕ) (p : Parts) → None ≡ parts_of text → Spells text p → ⊥
none_spelled text p e s = no_way (e ∙ parts_spelled text p s)
  where
    no_way : ◌≡◌ {A = Option Parts} None (Some p) → ⊥
    no_way q = cc

pub none_value : (text : List ℕ) → None ≡ parts_of text → Err Shape ≡ numeral_of text
unfolding numeral_of
none_value text e = ap told e
