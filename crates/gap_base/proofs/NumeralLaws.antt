-- Laws of numerals: powers of ten, quotients with a common factor, and the size of a number by its digits.
use Rattle.std.proofs.Common.{◌≡◌, ℕ, zero, suc, ◌+◌, ◌-◌, ◌*◌, ◌/◌, ◌%◌, ◌^◌, ◌<◌, ◌≤◌, Bool, true, false, ◌==◌, ◌&&◌, List, [], ◌∷◌, ◌++◌, length, refl, sym, ap, ◌∙◌, arith, fold, min, nat_lt, nat_le, inl, inr}
use Rattle.std.proofs.Math.Nat.{pow-le-pow_right, pow-suc, div-eq_of_lt, mod-eq_of_lt, mul-div-mul_right, mul_assoc, mul_comm, mod-eq-sub-div-mul, mul-sub, mul-le-mul_right}
use Rattle.std.proofs.lemmas.Nat.{pow-add}
use Rattle.std.proofs.lemmas.Grind.{common_steps, pow_more}
use Rattle.std.proofs.lemmas.Bool.{cases_eq, cases_lt}
use Rattle.std.proofs.lemmas.Bool.Decides.{nat_tests}
use Rattle.std.proofs.lemmas.List.Sums.{fold-append}
use Rattle.std.specs.List.{list_all}
use Rattle.std.specs.Char.{is_ascii_digit}
use Rattle.gap_base.specs.Numerals.{nearest, capped, rounded_quotient, without_zeros, number_of}

pub power_below : (k : ℕ) → k ≤ 31 → 10 ^ k ≤ 10 ^ 31
power_below k h = let ten : 0 < 10 = omega arith in pow-le-pow_right ten h

pub power_above : (k : ℕ) → 31 < k → 10 ^ 32 ≤ 10 ^ k
power_above k h = let ten : 0 < 10 = omega arith in let h2 : 32 ≤ k = omega arith in pow-le-pow_right ten h2

pub power_positive : (k : ℕ) → 0 < 10 ^ k
power_positive k = let ten : 0 < 10 = omega arith in let h2 : 0 ≤ k = omega arith in
    let p : 10 ^ 0 ≤ 10 ^ k = pow-le-pow_right ten h2 in omega arith

pub nearest_small : (n d : ℕ) → 2 * n < d → nearest n d ≡ 0
nearest_small n d h = let below : 2 * n + d < 2 * d = omega arith in div-eq_of_lt below

pub rest_small : (n d : ℕ) → n < d → n % d ≡ n
rest_small n d h = mod-eq_of_lt h

pub nearest_common : (n d c : ℕ) → 0 < c → nearest (n * c) (d * c) ≡ nearest n d
nearest_common n d c h =
    let top : 2 * (n * c) + d * c ≡ (2 * n + d) * c = grind arith in
    let below : 2 * (d * c) ≡ 2 * d * c = grind arith in
    rw (top, below) (mul-div-mul_right (2 * n + d) (2 * d) h)

pub times_sub : (m n c : ℕ) → (m - n) * c ≡ m * c - n * c
times_sub m n c = mul_comm (m - n) c ∙ mul-sub c m n ∙ let e : c * m - c * n ≡ m * c - n * c = rw (mul_comm c m, mul_comm c n) refl in e

pub rest_common : (n d c : ℕ) → 0 < c → (n * c) % (d * c) ≡ (n % d) * c
rest_common n d c h =
    let whole : n * c / (d * c) * (d * c) ≡ n / d * d * c = rw (mul-div-mul_right n d h) (sym (mul_assoc (n / d) d c)) in
    mod-eq-sub-div-mul (n * c) (d * c) ∙ ap (λ x. n * c - x) whole ∙ sym (times_sub n (n / d * d) c) ∙ ap (λ x. x * c) (sym (mod-eq-sub-div-mul n d))

pub times_is_zero : (x c : ℕ) → 0 < c → (x * c == 0) ≡ (x == 0)
times_is_zero zero c h = let none : zero * c ≡ 0 = omega arith in rw none refl
times_is_zero (suc x) c h =
    let some : suc x * c ≡ c + x * c = grind arith in
    grind (arith, nat_tests)

pub exact_common : (n d c : ℕ) → 0 < c → ((n * c) % (d * c) == 0) ≡ (n % d == 0)
exact_common n d c h = rw (rest_common n d c h) (times_is_zero (n % d) c h)

pub nearest_whole : (n : ℕ) → nearest n 1 ≡ n
nearest_whole n = omega arith

pub quotient_common : (negative : Bool) (n d c : ℕ) → 0 < c → rounded_quotient negative (n * c) (d * c) ≡ rounded_quotient negative n d
unfolding rounded_quotient
quotient_common negative n d c h = rw (nearest_common n d c h, exact_common n d c h) refl

pub rest_one : (n : ℕ) → n % 1 ≡ 0
rest_one n = omega arith

pub whole_quotient : (negative : Bool) (n : ℕ) → rounded_quotient negative n 1 ≡ capped negative n true
unfolding rounded_quotient
whole_quotient negative n = rw (nearest_whole n, rest_one n) refl

-- more powers over the line than under it
pub quotient_up : (negative : Bool) (m up down : ℕ) → down ≤ up
    → rounded_quotient negative (m * 10 ^ up) (10 ^ down) ≡ capped negative (m * 10 ^ (up - down)) true
unfolding rounded_quotient
quotient_up negative m up down h =
    let split : 10 ^ up ≡ 10 ^ (up - down) * 10 ^ down = ap (λ k. 10 ^ k) (let e : up ≡ up - down + down = omega arith in e) ∙ pow-add 10 (up - down) down in
    let top : m * 10 ^ up ≡ (m * 10 ^ (up - down)) * 10 ^ down = grind (arith, split) in
    let below : 10 ^ down ≡ 1 * 10 ^ down = omega arith in
    ap (λ n. rounded_quotient negative n (10 ^ down)) top
    ∙ ap (λ d. rounded_quotient negative (m * 10 ^ (up - down) * 10 ^ down) d) below
    ∙ quotient_common negative (m * 10 ^ (up - down)) 1 (10 ^ down) (power_positive down)
    ∙ whole_quotient negative (m * 10 ^ (up - down))

-- one more power of ten
pub times_step : (p s i : ℕ) → p ≤ 10 ^ 30 → min (10 ^ 30 + 1) p ≡ min (10 ^ 30 + 1) (s * 10 ^ i)
    → min (10 ^ 30 + 1) (p * 10) ≡ min (10 ^ 30 + 1) (s * 10 ^ (i + 1))
times_step p s i h e =
    let more : s * 10 ^ (i + 1) ≡ s * 10 ^ i * 10 = rw pow_more (sym (mul_assoc s (10 ^ i) 10)) in
    omega arith

pub times_kept : (p s i : ℕ) → 10 ^ 30 < p → min (10 ^ 30 + 1) p ≡ min (10 ^ 30 + 1) (s * 10 ^ i)
    → min (10 ^ 30 + 1) p ≡ min (10 ^ 30 + 1) (s * 10 ^ (i + 1))
times_kept p s i h e =
    let more : s * 10 ^ (i + 1) ≡ s * 10 ^ i * 10 = rw pow_more (sym (mul_assoc s (10 ^ i) 10)) in
    omega arith

-- more powers under the line than over it
pub quotient_down : (negative : Bool) (m up down : ℕ) → up < down
    → rounded_quotient negative (m * 10 ^ up) (10 ^ down) ≡ rounded_quotient negative m (10 ^ (down - up))
quotient_down negative m up down h =
    let split : 10 ^ down ≡ 10 ^ (down - up) * 10 ^ up = ap (λ k. 10 ^ k) (let e : down ≡ down - up + up = omega arith in e) ∙ pow-add 10 (down - up) up in
    rw split (quotient_common negative m (10 ^ (down - up)) (10 ^ up) (power_positive up))

-- sizes that agree up to one past the greatest are cut off alike
pub capped_alike : (negative : Bool) (a b : ℕ) (exact : Bool) → min (10 ^ 30 + 1) a ≡ min (10 ^ 30 + 1) b → capped negative a exact ≡ capped negative b exact
unfolding capped
capped_alike negative a b exact h = grind (arith, common_steps)

-- a number lies between what its digits say at least and at most
abbrev pub value_behind : ℕ → List ℕ → ℕ
value_behind n digits = fold (λ n d. n * 10 + (d - 48)) n digits

pub digit_between : (d : ℕ) → is_ascii_digit d ≡ true → (48 ≤ d) × (d ≤ 57)
digit_between d h = grind (arith, nat_tests)

list_all-cons : (p : ℕ → Bool) (d : ℕ) (ds : List ℕ) → list_all p (d ∷ ds) ≡ true → (p d && list_all p ds) ≡ true
list_all-cons p d ds h = h

pub first_of_all : (p : ℕ → Bool) (d : ℕ) (ds : List ℕ) → list_all p (d ∷ ds) ≡ true → p d ≡ true
first_of_all p d ds h = elim (p d) as (λ v. (v && list_all p ds) ≡ true → v ≡ true) [ true ↦ λ _. refl | false ↦ λ e. cc ] (list_all-cons p d ds h)

pub rest_of_all : (p : ℕ → Bool) (d : ℕ) (ds : List ℕ) → list_all p (d ∷ ds) ≡ true → list_all p ds ≡ true
rest_of_all p d ds h = elim (p d) as (λ v. (v && list_all p ds) ≡ true → list_all p ds ≡ true) [ true ↦ λ e. e | false ↦ λ e. cc ] (list_all-cons p d ds h)

bounds_step : (n e P v : ℕ) → e ≤ 9 → (n * 10 + e) * P ≤ v → v < (n * 10 + e + 1) * P
    → (n * (P * 10) ≤ v) × (v < (n + 1) * (P * 10))
bounds_step n e P v small low high =
    let nine : e * P ≤ 9 * P = mul-le-mul_right P small in
    let a : (n * 10 + e) * P ≡ n * P * 10 + e * P = grind arith in
    let b : (n * 10 + e + 1) * P ≡ n * P * 10 + e * P + P = grind arith in
    let c : n * (P * 10) ≡ n * P * 10 = grind arith in
    let d : (n + 1) * (P * 10) ≡ n * P * 10 + P * 10 = grind arith in
    (omega arith, omega arith)

pub behind_bounds : (n : ℕ) (digits : List ℕ) → list_all is_ascii_digit digits ≡ true
    → (n * 10 ^ length digits ≤ value_behind n digits) × (value_behind n digits < (n + 1) * 10 ^ length digits)
behind_bounds n [] h = (omega arith, omega arith)
behind_bounds n (d ∷ ds) h =
    let small : (48 ≤ d) × (d ≤ 57) = digit_between d (first_of_all is_ascii_digit d ds h) in
    let rest : (let k = n * 10 + (d - 48) in (k * 10 ^ length ds ≤ value_behind k ds) × (value_behind k ds < (k + 1) * 10 ^ length ds))
    = behind_bounds (n * 10 + (d - 48)) ds (rest_of_all is_ascii_digit d ds h) in
    rw pow-suc (bounds_step n (d - 48) (10 ^ length ds) (value_behind (n * 10 + (d - 48)) ds) (omega arith) rest.0 rest.1)

led : (e n v : ℕ) → 0 < e → e ≤ 9 → (e * 10 ^ n ≤ v) × (v < (e + 1) * 10 ^ n) → nat_lt 30 (suc n) ≡ nat_le (10 ^ 30) v
led e n v some small bounds =
    let ten : 0 < 10 = omega arith in
    let least : 1 * 10 ^ n ≤ e * 10 ^ n = let one : 1 ≤ e = omega arith in mul-le-mul_right (10 ^ n) one in
    let most : (e + 1) * 10 ^ n ≤ 10 * 10 ^ n = let few : e + 1 ≤ 10 = omega arith in mul-le-mul_right (10 ^ n) few in
    elim (cases_lt n 30) [
      | inl below ↦
          let few : n ≤ 29 = omega arith in
          let p : 10 ^ n ≤ 10 ^ 29 = pow-le-pow_right ten few in
          let small_value : v < 10 ^ 30 = omega arith in
          grind (arith, nat_tests)
      | inr above ↦
          let p : 10 ^ 30 ≤ 10 ^ n = pow-le-pow_right ten above in
          let great_value : 10 ^ 30 ≤ v = omega arith in
          grind (arith, nat_tests)
    ]

-- more than 30 digits without leading zeros, exactly where the number is at least 10^30
pub many_digits : (digits : List ℕ) → list_all is_ascii_digit digits ≡ true
    → nat_lt 30 (length (without_zeros digits)) ≡ nat_le (10 ^ 30) (value_behind 0 digits)
many_digits [] h = refl
many_digits (d ∷ ds) h = elim (cases_eq d 48) [
  | inl same ↦ rw same (many_digits ds (rest_of_all is_ascii_digit d ds h))
  | inr other ↦
      let no : (d == 48) ≡ false = grind (arith, nat_tests) in
      let digit : (48 ≤ d) × (d ≤ 57) = digit_between d (first_of_all is_ascii_digit d ds h) in
      let P : (let k = 0 * 10 + (d - 48) in (k * 10 ^ length ds ≤ value_behind k ds) × (value_behind k ds < (k + 1) * 10 ^ length ds))
      = behind_bounds (0 * 10 + (d - 48)) ds (rest_of_all is_ascii_digit d ds h) in
      rw no (led (0 * 10 + (d - 48)) (length ds) (value_behind (0 * 10 + (d - 48)) ds) (omega arith) (omega arith) P)
]

-- the number behind a number that was cut off at 10^30 is the same up to there
pub min_behind : (a : ℕ) (ds : List ℕ) → min (10 ^ 30) (value_behind (min (10 ^ 30) a) ds) ≡ min (10 ^ 30) (value_behind a ds)
min_behind a [] = omega arith
min_behind a (d ∷ ds) =
    let e : min (10 ^ 30) (min (10 ^ 30) a * 10 + (d - 48)) ≡ min (10 ^ 30) (a * 10 + (d - 48)) = omega arith in
    sym (min_behind (min (10 ^ 30) a * 10 + (d - 48)) ds)
    ∙ ap (λ x. min (10 ^ 30) (value_behind x ds)) e
    ∙ min_behind (a * 10 + (d - 48)) ds

pub both_groups : (w f : List ℕ) → min (10 ^ 30) (value_behind (min (10 ^ 30) (value_behind 0 w)) f) ≡ min (10 ^ 30) (number_of (w ++ f))
both_groups w f = min_behind (value_behind 0 w) f ∙ ap (λ x. min (10 ^ 30) x) (sym (fold-append (λ n d. n * 10 + (d - 48)) 0 w f))
