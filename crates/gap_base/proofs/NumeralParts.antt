-- What the parts of a numeral say, by numbers that were cut off; and that its groups are digits.
use Rattle.std.proofs.Common.{◌≡◌, ℕ, suc, ◌+◌, ◌*◌, ◌^◌, ◌<◌, ◌≤◌, Bool, true, false, ◌==◌, List, [], ◌∷◌, ◌++◌, length, refl, sym, ap, ◌∙◌, arith, min, take, cond, if◌then◌else◌, nat_lt, nat_le, subst, Option, Some, None, Ok, Err}
use Rattle.std.proofs.lemmas.Bool.Decides.{nat_tests}
use Rattle.std.proofs.lemmas.List.Folds.{list_all-append}
use Rattle.std.specs.List.{list_all, prefix_len}
use Rattle.std.specs.Char.{is_ascii_digit}
use Rattle.gap_base.specs.declared.numeral_fault.NumeralFault.TheVariants.{TooManyDigits, Exponent}
use Rattle.gap_base.specs.Numerals.{Parts, Power, AreDigits, without_zeros, without_sign, number_of, rounded_quotient, valued, told, numeral_of, parts_of, unsigned_parts, assembled, digits_of, after_digits, after_point, power_of}
use Rattle.gap_base.proofs.NumeralLaws.{many_digits, both_groups, value_behind}

-- the number of both groups, read up to 10^30
abbrev pub IsSizeOf : ℕ → Parts → Type 0
IsSizeOf size p = size ≡ min (10 ^ 30) (value_behind (min (10 ^ 30) (value_behind 0 p.whole)) p.fraction)

many : (size : ℕ) (p : Parts) → AreDigits (p.whole ++ p.fraction) → IsSizeOf size p
    → nat_lt 30 (length (without_zeros (p.whole ++ p.fraction))) ≡ nat_le (10 ^ 30) size
many size p digits is =
    let number : size ≡ min (10 ^ 30) (number_of (p.whole ++ p.fraction)) = is ∙ both_groups p.whole p.fraction in
    many_digits (p.whole ++ p.fraction) digits.all ∙ cut_off size (number_of (p.whole ++ p.fraction)) number
  where
    cut_off : (size n : ℕ) → size ≡ min (10 ^ 30) n → nat_le (10 ^ 30) n ≡ nat_le (10 ^ 30) size
    cut_off size n e = grind (arith, nat_tests)

pub valued_many : (size : ℕ) (p : Parts) → IsSizeOf size p → 10 ^ 30 ≤ size → AreDigits (p.whole ++ p.fraction) → Err TooManyDigits ≡ valued p
unfolding valued
valued_many size p is great digits =
    let yes' : nat_le (10 ^ 30) size ≡ true = grind (arith, nat_tests) in
    rw (many size p digits is, yes') refl

pub valued_exponent : (size power : ℕ) (p : Parts) → IsSizeOf size p → size < 10 ^ 30
    → power ≡ min (10 ^ 30) (number_of p.power.digits) → 40 < power
    → AreDigits (p.whole ++ p.fraction) → Err Exponent ≡ valued p
unfolding valued
valued_exponent size power p is small e great digits =
    let no' : nat_le (10 ^ 30) size ≡ false = grind (arith, nat_tests) in
    let past : nat_lt 40 (number_of p.power.digits) ≡ true = tests power (number_of p.power.digits) e great in
    rw (many size p digits is, no', past) refl
  where
    tests : (power n : ℕ) → power ≡ min (10 ^ 30) n → 40 < power → nat_lt 40 n ≡ true
    tests power n e h = grind (arith, nat_tests)

pub valued_ok : (size power : ℕ) (p : Parts) → IsSizeOf size p → size < 10 ^ 30
    → power ≡ min (10 ^ 30) (number_of p.power.digits) → power ≤ 40
    → AreDigits (p.whole ++ p.fraction)
    → Ok (rounded_quotient p.negative (size * 10 ^ (6 + (if p.power.lowers then 0 else power))) (10 ^ (length p.fraction + (if p.power.lowers then power else 0)))) ≡ valued p
unfolding valued
valued_ok size power p is small e few digits =
    let no' : nat_le (10 ^ 30) size ≡ false = grind (arith, nat_tests) in
    let same : power ≡ number_of p.power.digits = whole_number power (number_of p.power.digits) e few in
    let past : nat_lt 40 (number_of p.power.digits) ≡ false = tests power (number_of p.power.digits) same few in
    let number : size ≡ number_of (p.whole ++ p.fraction) = whole_size size (number_of (p.whole ++ p.fraction)) (is ∙ both_groups p.whole p.fraction) small in
    rw (many size p digits is, no', past, ← same, ← number) refl
  where
    whole_number : (power n : ℕ) → power ≡ min (10 ^ 30) n → power ≤ 40 → power ≡ n
    whole_number power n e h = omega arith

    whole_size : (size n : ℕ) → size ≡ min (10 ^ 30) n → size < 10 ^ 30 → size ≡ n
    whole_size size n e h = omega arith

    tests : (power n : ℕ) → power ≡ n → power ≤ 40 → nat_lt 40 n ≡ false
    tests power n e h = grind (arith, nat_tests)

-- the digits that a text begins with are digits
front_step : (p : ℕ → Bool) (x : ℕ) (xs : List ℕ) (b : Bool) → p x ≡ b → list_all p (take (prefix_len p xs) xs) ≡ true
    → list_all p (take (cond (p x) (1 + prefix_len p xs) 0) (x ∷ xs)) ≡ true
front_step p x xs true e more = let one_more : 1 + prefix_len p xs ≡ suc (prefix_len p xs) = omega arith in rw (e, one_more, e) more
front_step p x xs false e more = rw e refl

pub front_digits : (p : ℕ → Bool) (text : List ℕ) → list_all p (take (prefix_len p text) text) ≡ true
front_digits p [] = refl
front_digits p (x ∷ xs) = front_step p x xs (p x) refl (front_digits p xs)

HaveDigits : Option Parts → Type 0
HaveDigits None = Unit {0}
HaveDigits (Some p) = AreDigits (p.whole ++ p.fraction)

either : (b : Bool) (x y : Option Parts) → HaveDigits x → HaveDigits y → HaveDigits (if b then x else y)
unfolding HaveDigits
either true x y hx hy = hx
either false x y hx hy = hy

groups : (w f : List ℕ) → list_all is_ascii_digit w ≡ true → list_all is_ascii_digit f ≡ true → AreDigits (w ++ f)
groups w f hw hf = record { all = rw (list_all-append is_ascii_digit w f, hw, hf) refl }

with_power : (negative : Bool) (w f : List ℕ) (o : Option Power) → AreDigits (w ++ f)
    → HaveDigits (elim o [
      | Some power ↦ Some (record { negative = negative; whole = w; fraction = f; power = power })
      | None ↦ None
    ])
unfolding HaveDigits
with_power negative w f None h = tt
with_power negative w f (Some power) h = h

assembled_digits : (negative : Bool) (w f rest : List ℕ) → AreDigits (w ++ f) → HaveDigits (assembled negative w f rest)
unfolding HaveDigits assembled
assembled_digits negative w f rest h = either (length w + length f == 0) _ _ tt (with_power negative w f (power_of rest) h)

behind : (negative : Bool) (text : List ℕ) (o : Option (List ℕ)) → HaveDigits (elim o [
  | Some rest ↦ assembled negative (digits_of text) (digits_of rest) (after_digits rest)
  | None ↦ assembled negative (digits_of text) [] (after_digits text)
])
behind negative text None =
    assembled_digits negative (digits_of text) [] (after_digits text) (groups (digits_of text) [] (front_digits is_ascii_digit text) refl)
behind negative text (Some rest) =
    assembled_digits negative (digits_of text) (digits_of rest) (after_digits rest)
    (groups (digits_of text) (digits_of rest) (front_digits is_ascii_digit text) (front_digits is_ascii_digit rest))

unsigned_digits : (negative : Bool) (text : List ℕ) → HaveDigits (unsigned_parts negative text)
unfolding HaveDigits unsigned_parts
unsigned_digits negative text = behind negative text (after_point (after_digits text))

whole_digits : (text : List ℕ) → HaveDigits (parts_of text)
unfolding HaveDigits parts_of
whole_digits text = either (nat_le (length text) 64) _ _ (unsigned_digits (without_sign text).0 (without_sign text).1) tt

-- both groups of a numeral are digits
pub parts_are_digits : (text : List ℕ) (p : Parts) → Some p ≡ parts_of text → AreDigits (p.whole ++ p.fraction)
unfolding HaveDigits
parts_are_digits text p e = subst HaveDigits (sym e) (whole_digits text)

-- what a numeral is, from its parts
pub numeral_from : (text : List ℕ) (p : Parts) → Some p ≡ parts_of text → valued p ≡ numeral_of text
unfolding numeral_of
numeral_from text p e = ap told e
