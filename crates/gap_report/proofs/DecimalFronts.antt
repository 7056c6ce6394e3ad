-- A numeral in plain decimals is told from the text that it begins, where no digit follows it.
use Rattle.std.proofs.Common.{◌≡◌, ℕ, suc, ◌<◌, ◌^◌, ◌⊎◌, inl, inr, List, [], ◌∷◌, ◌++◌, length, drop, ℤ, pos, negsuc, refl, sym, ap, ◌∙◌, subst, arith, get_or, unsigned_abs}
use Rattle.std.specs.Fmt.{decimal, signed_decimal}
use Rattle.std.specs.Str.Parse.{AllDigits, digits_value}
use Rattle.std.specs.Char.{digit_value}
use Rattle.std.proofs.lemmas.Fmt.{decimal_is_IsNumeral_wide}
use Rattle.std.proofs.lemmas.Str.Parse.{digit_from_value}

-- a byte that is no digit
abbrev pub NoDigit : ℕ → Type 0
NoDigit c = (c < 48) ⊎ (57 < c)

-- a text that is empty or begins with no digit
abbrev pub Stops : List ℕ → Type 0
Stops [] = Unit {0}
Stops (c ∷ s) = NoDigit c

pub first_same : (c d : ℕ) (s t : List ℕ) → c ∷ s ≡ d ∷ t → c ≡ d
first_same c d s t e = ap (λ l. get_or l 0 0) e

pub rest_same : (c d : ℕ) (s t : List ℕ) → c ∷ s ≡ d ∷ t → s ≡ t
rest_same c d s t e = ap (drop 1) e

pub digit_or_not : (c : ℕ) → digit_value c < 10 → NoDigit c → ⊥
digit_or_not c d (inl n) = omega (arith, digit_from_value c d)
digit_or_not c d (inr n) = omega (arith, digit_from_value c d)

-- digits behind which none follows
pub digits_front : (xs ys s t : List ℕ) → AllDigits 10 xs → AllDigits 10 ys → Stops s → Stops t → xs ++ s ≡ ys ++ t → (xs ≡ ys) × (s ≡ t)
digits_front [] [] s t a b m n e = (refl, e)
digits_front [] (y ∷ ys) s t a b m n e = absurd (digit_or_not y b.0 (subst Stops e m))
digits_front (x ∷ xs) [] s t a b m n e = absurd (digit_or_not x a.0 (subst Stops (sym e) n))
digits_front (x ∷ xs) (y ∷ ys) s t a b m n e =
    let head : x ≡ y = first_same x y (xs ++ s) (ys ++ t) e in
    let r = digits_front xs ys s t a.1 b.1 m n (rest_same x y (xs ++ s) (ys ++ t) e) in
    ((λ i. head i ∷ r.0 i), r.1)

pub decimal_digits : (n : ℕ) → n < 10 ^ 64 → AllDigits 10 (decimal n)
decimal_digits n h = (decimal_is_IsNumeral_wide n h).0.1

-- a number in decimals
pub decimal_front : (m n : ℕ) (s t : List ℕ) → m < 10 ^ 64 → n < 10 ^ 64 → Stops s → Stops t → decimal m ++ s ≡ decimal n ++ t → (m ≡ n) × (s ≡ t)
decimal_front m n s t p q a b e =
    let r = digits_front (decimal m) (decimal n) s t (decimal_digits m p) (decimal_digits n q) a b e in
    (sym (decimal_is_IsNumeral_wide m p).1 ∙ ap (digits_value 10) r.0 ∙ (decimal_is_IsNumeral_wide n q).1, r.1)

-- a number in decimals is no text that begins with no digit
pub decimal_some : (n : ℕ) (s t : List ℕ) → n < 10 ^ 64 → Stops s → Stops t → decimal n ++ s ≡ t → ⊥
decimal_some n s t h a b e =
    let r = digits_front (decimal n) [] s t (decimal_digits n h) tt a b e in
    let some : 0 < length (decimal n) = (decimal_is_IsNumeral_wide n h).0.0 in
    let none : length (decimal n) ≡ 0 = ap length r.0 in
    omega arith

-- a number with its sign in decimals
pub signed_front : (y z : ℤ) (s t : List ℕ) → unsigned_abs y < 10 ^ 64 → unsigned_abs z < 10 ^ 64 → Stops s → Stops t → signed_decimal y ++ s ≡ signed_decimal z ++ t → (y ≡ z) × (s ≡ t)
signed_front (pos m) (pos n) s t p q a b e = let r = decimal_front m n s t p q a b e in (ap pos r.0, r.1)
signed_front (pos m) (negsuc n) s t p q a b e = absurd (decimal_some m s (45 ∷ (decimal (suc n) ++ t)) p a (inl (omega arith)) e)
signed_front (negsuc m) (pos n) s t p q a b e = absurd (decimal_some n t (45 ∷ (decimal (suc m) ++ s)) q b (inl (omega arith)) (sym e))
signed_front (negsuc m) (negsuc n) s t p q a b e =
    let r = decimal_front (suc m) (suc n) s t p q a b (rest_same 45 45 (decimal (suc m) ++ s) (decimal (suc n) ++ t) e) in
    let same : m ≡ n = omega (arith, r.0) in
    (ap negsuc same, r.1)

-- a number with its sign isn't a lone minus
pub no_lone_minus : (z : ℤ) (s t : List ℕ) → unsigned_abs z < 10 ^ 64 → Stops s → signed_decimal z ++ s ≡ 45 ∷ 32 ∷ t → ⊥
no_lone_minus (pos n) s t h a e = decimal_some n s (45 ∷ 32 ∷ t) h a (inl (omega arith)) e
no_lone_minus (negsuc n) s t h a e = decimal_some (suc n) s (32 ∷ t) h a (inl (omega arith)) (rest_same 45 45 (decimal (suc n) ++ s) (32 ∷ t) e)

-- texts whose first bytes differ
pub apart : (s t : List ℕ) → s ≡ t → (c d : ℕ) → get_or s 0 0 ≡ c → get_or t 0 0 ≡ d → (c ≡ d → ⊥) → ⊥
apart s t e c d p q n = n (sym p ∙ ap (λ l. get_or l 0 0) e ∙ q)
