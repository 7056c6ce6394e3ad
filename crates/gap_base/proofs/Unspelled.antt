-- The parts of a text are spelled by it: a text that spells none has the wrong shape.
use Rattle.std.proofs.Common.{◌≡◌, ℕ, ◌+◌, ◌≤◌, ◌⊎◌, inl, inr, ◌↔◌, Bool, true, false, ◌||◌, ◌==◌, cond, if◌then◌else◌, nat_le, nat_lt, List, [], ◌∷◌, ◌++◌, length, Option, Some, None, Result, Ok, Err, refl, sym, ap, ◌∙◌, arith, length-append}
use Rattle.std.proofs.lemmas.Bool.Decides.{nat_tests}
use Rattle.std.proofs.lemmas.List.{take-append-drop}
use Rattle.std.specs.List.{list_all, prefix_len}
use Rattle.std.specs.Char.{is_ascii_digit}
use Rattle.gap_base.specs.declared.numeral_fault.Rounded.{Rounded}
use Rattle.gap_base.specs.declared.numeral_fault.NumeralFault.{NumeralFault}
use Rattle.gap_base.specs.declared.numeral_fault.NumeralFault.TheVariants.{Shape, TooManyDigits, Exponent}
use Rattle.gap_base.specs.Numerals.{Parts, Power, AreDigits, without_sign, is_number, without_zeros, number_of, numerator, denominator, rounded_quotient, valued, told, numeral_of, parts_of, unsigned_parts, assembled, digits_of, after_digits, after_point, power_of}
use Rattle.gap_base.specs.Spellings.{IsSign, IsFraction, IsPower, none, some, Spells}
use Rattle.gap_base.proofs.NumeralParts.{front_digits}
use Rattle.gap_base.proofs.Spelled.{spelled_value}

eq_of : (a b : ℕ) → (a == b) ≡ true → a ≡ b
eq_of a b e = grind (arith, nat_tests)

or_split : (a b : Bool) → (a || b) ≡ true → (a ≡ true) ⊎ (b ≡ true)
or_split true b e = inl refl
or_split false b e = inr e

-- the sign of a text
abbrev chosen_sign : Bool → Bool → ℕ → List ℕ → Bool × List ℕ
chosen_sign b c x xs = if b then (false, xs) else (if c then (true, xs) else (false, x ∷ xs))

split_by : (x : ℕ) (xs : List ℕ) (b c : Bool) → (b ≡ true → x ≡ 43) → (c ≡ true → x ≡ 45) → (sign : List ℕ) × IsSign (chosen_sign b c x xs).0 sign × (x ∷ xs ≡ sign ++ (chosen_sign b c x xs).1)
split_by x xs true c h k = (43 ∷ [], inr refl, ap (λ (y : ℕ). y ∷ xs) (h refl))
split_by x xs false true h k = (45 ∷ [], refl, ap (λ (y : ℕ). y ∷ xs) (k refl))
split_by x xs false false h k = ([], inl refl, refl)

sign_split : (text : List ℕ) → (sign : List ℕ) × IsSign (without_sign text).0 sign × (text ≡ sign ++ (without_sign text).1)
sign_split [] = ([], inl refl, refl)
sign_split (x ∷ xs) = split_by x xs (x == 43) (x == 45) (λ e. eq_of x 43 e) (λ e. eq_of x 45 e)

-- the exponent
IsExponent : List ℕ → Option Power → Type 0
IsExponent rest None = Unit {0}
IsExponent rest (Some p) = IsPower p rest

choose : (b c : Bool) (p : Power) (rest : List ℕ) → (b ≡ true → c ≡ true → IsPower p rest) → IsExponent rest (cond b (cond c (Some p) None) None)
unfolding IsExponent
choose true true p rest h = h refl refl
choose true false p rest h = tt
choose false c p rest h = tt

number_parts : (digits : List ℕ) → is_number digits ≡ true → (1 ≤ length digits) × AreDigits digits
number_parts [] e = absurd (no_way e)
  where
    no_way : false ≡ true → ⊥
    no_way e = cc
number_parts (x ∷ xs) e = (omega arith, record { all = e })

mark_of : (x : ℕ) → (x == 101 || x == 69) ≡ true → (x ≡ 101) ⊎ (x ≡ 69)
mark_of x e = elim (or_split (x == 101) (x == 69) e) [ inl a ↦ inl (eq_of x 101 a) | inr a ↦ inr (eq_of x 69 a) ]

power_sound : (rest : List ℕ) → IsExponent rest (power_of rest)
unfolding power_of IsExponent
power_sound [] = none refl refl refl
power_sound (x ∷ xs) =
    choose (x == 101 || x == 69) (is_number (without_sign xs).1) (record { lowers = (without_sign xs).0; digits = (without_sign xs).1 }) (x ∷ xs)
    (λ b c. some x (sign_split xs).0 (mark_of x b) (sign_split xs).1 (number_parts (without_sign xs).1 c).0 (number_parts (without_sign xs).1 c).1 (ap (λ (ys : List ℕ). x ∷ ys) (sign_split xs).2))

AreSpelled : List ℕ → Option Parts → Type 0
AreSpelled text None = Unit {0}
AreSpelled text (Some p) = Spells text p

-- what stands before an exponent
record Front (text sign w f fraction rest : List ℕ) (negative : Bool) : Type 0 where
  size : length text ≤ 64
  sign_is : IsSign negative sign
  whole_is : AreDigits w
  behind_is : AreDigits f
  fraction_is : IsFraction f fraction
  text_is : text ≡ sign ++ (w ++ (fraction ++ rest))

finish : (text sign w f fraction rest : List ℕ) (negative : Bool) (b : Bool) (o : Option Power) → Front text sign w f fraction rest negative → (b ≡ false → 1 ≤ length (w ++ f)) → IsExponent rest o → AreSpelled text (cond b None (elim o [
  | Some power ↦ Some (record { negative = negative; whole = w; fraction = f; power = power })
  | None ↦ None
]))
unfolding AreSpelled IsExponent
finish text sign w f fraction rest negative true o r h e = tt
finish text sign w f fraction rest negative false None r h e = tt
finish text sign w f fraction rest negative false (Some p) r h e = record {
  sign = sign;
  fraction = fraction;
  power = rest;
  size = r.size;
  sign_is = r.sign_is;
  whole_is = r.whole_is;
  digits_behind = r.behind_is;
  fraction_is = r.fraction_is;
  some_digit = h refl;
  power_is = e;
  text_is = r.text_is;
}

assembled_sound : (text sign w f fraction rest : List ℕ) (negative : Bool) → Front text sign w f fraction rest negative → AreSpelled text (assembled negative w f rest)
unfolding assembled
assembled_sound text sign w f fraction rest negative r = finish text sign w f fraction rest negative (length w + length f == 0) (power_of rest) r (λ e. omega (arith, length-append w f, counted (length w + length f) e)) (power_sound rest)
  where
    counted : (n : ℕ) → (n == 0) ≡ false → 1 ≤ n
    counted n e = grind (arith, nat_tests)

-- a point
PointIs : List ℕ → Option (List ℕ) → Type 0
PointIs text None = Unit {0}
PointIs text (Some rest) = text ≡ 46 ∷ rest

point_by : (x : ℕ) (xs : List ℕ) (b : Bool) → (b ≡ true → x ≡ 46) → PointIs (x ∷ xs) (cond b (Some xs) None)
unfolding PointIs
point_by x xs true h = ap (λ (y : ℕ). y ∷ xs) (h refl)
point_by x xs false h = tt

point_sound : (text : List ℕ) → PointIs text (after_point text)
unfolding PointIs
point_sound [] = tt
point_sound (x ∷ xs) = point_by x xs (x == 46) (λ e. eq_of x 46 e)

whole_again : (text : List ℕ) → digits_of text ++ after_digits text ≡ text
whole_again text = take-append-drop (prefix_len is_ascii_digit text) text

are_digits : (text : List ℕ) → AreDigits (digits_of text)
are_digits text = record { all = front_digits is_ascii_digit text }

no_digits : AreDigits []
no_digits = record { all = refl }

pointed_text : (text sign t r : List ℕ) → text ≡ sign ++ t → after_digits t ≡ 46 ∷ r → text ≡ sign ++ (digits_of t ++ ((46 ∷ digits_of r) ++ after_digits r))
pointed_text text sign t r e q = e ∙ ap (λ (y : List ℕ). sign ++ y) (sym (whole_again t) ∙ ap (λ (y : List ℕ). digits_of t ++ y) (q ∙ ap (λ (y : List ℕ). 46 ∷ y) (sym (whole_again r))))

unsigned_by : (text sign t : List ℕ) (negative : Bool) (o : Option (List ℕ)) → length text ≤ 64 → IsSign negative sign → text ≡ sign ++ t → PointIs (after_digits t) o → AreSpelled text (elim o [
  | Some rest ↦ assembled negative (digits_of t) (digits_of rest) (after_digits rest)
  | None ↦ assembled negative (digits_of t) [] (after_digits t)
])
unfolding PointIs
unsigned_by text sign t negative None size is e q = assembled_sound text sign (digits_of t) [] [] (after_digits t) negative (record {
  size = size;
  sign_is = is;
  whole_is = are_digits t;
  behind_is = no_digits;
  fraction_is = inr (refl, refl);
  text_is = e ∙ ap (λ (y : List ℕ). sign ++ y) (sym (whole_again t));
})
unsigned_by text sign t negative (Some r) size is e q = assembled_sound text sign (digits_of t) (digits_of r) (46 ∷ digits_of r) (after_digits r) negative (record {
  size = size;
  sign_is = is;
  whole_is = are_digits t;
  behind_is = are_digits r;
  fraction_is = inl refl;
  text_is = pointed_text text sign t r e q;
})

unsigned_sound : (text sign t : List ℕ) (negative : Bool) → length text ≤ 64 → IsSign negative sign → text ≡ sign ++ t → AreSpelled text (unsigned_parts negative t)
unfolding unsigned_parts
unsigned_sound text sign t negative size is e = unsigned_by text sign t negative (after_point (after_digits t)) size is e (point_sound (after_digits t))

-- the parts of a text are spelled by it
sized : (text : List ℕ) (b : Bool) (o : Option Parts) → (b ≡ true → AreSpelled text o) → AreSpelled text (cond b o None)
unfolding AreSpelled
sized text true o h = h refl
sized text false o h = tt

parts_sound : (text : List ℕ) → AreSpelled text (parts_of text)
unfolding parts_of
parts_sound text = sized text (nat_le (length text) 64) (unsigned_parts (without_sign text).0 (without_sign text).1) (λ e. unsigned_sound text (sign_split text).0 (without_sign text).1 (without_sign text).0 (few (length text) e) (sign_split text).1 (sign_split text).2)
  where
    few : (n : ℕ) → nat_le n 64 ≡ true → n ≤ 64
    few n e = grind (arith, nat_tests)

told_shape : (text : List ℕ) (o : Option Parts) → AreSpelled text o → ((p : Parts) → Spells text p → ⊥) → told o ≡ Err Shape
unfolding AreSpelled
told_shape text None s h = refl
told_shape text (Some p) s h = absurd (h p s)

valued_shape : (p : Parts) → valued p ≡ Err Shape → ⊥
unfolding valued
valued_shape p e = by_tests (nat_lt 30 (length (without_zeros (p.whole ++ p.fraction)))) (nat_lt 40 (number_of p.power.digits)) (rounded_quotient p.negative (numerator p) (denominator p)) e
  where
    by_tests : (b c : Bool) (r : Rounded) → ◌≡◌ {A = Result Rounded NumeralFault} (cond b (Err TooManyDigits) (cond c (Err Exponent) (Ok r))) (Err Shape) → ⊥
    by_tests true c r e = cc
    by_tests false true r e = cc
    by_tests false false r e = cc

-- the wrong shape comes exactly where a text spells no parts
pub shape_exactly : (text : List ℕ) → (numeral_of text ≡ Err Shape) ↔ ((p : Parts) → Spells text p → ⊥)
unfolding numeral_of
shape_exactly text = (λ e p s. valued_shape p (sym (spelled_value text p s) ∙ e), λ h. told_shape text (parts_of text) (parts_sound text) h)
