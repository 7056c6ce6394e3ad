-- The laws of whole numbers as bytes.
use Rattle.std.proofs.Common.{to_z, of_z, ◌≡◌, ℕ, zero, suc, ◌+◌, ◌*◌, ◌-◌, ◌/◌, ◌%◌, ◌^◌, ◌<◌, ◌≤◌, ◌⊎◌, inl, inr, if◌then◌else◌, Bool, true, false, nat_lt, List, [], ◌∷◌, length, fold, ℤ, pos, negsuc, ◌-ℤ◌, refl, sym, ap, ◌∙◌, arith}
use Rattle.std.proofs.Math.Nat.{add-mul, mul_assoc, mul_comm}
use Rattle.std.proofs.lemmas.Nat.{div-add-mod', div_below, mod_below, mul-add-lt, div-mul-add, mod-mul-add}
use Rattle.std.proofs.lemmas.Bool.{cases_lt, lt-ltb, le-ltb}
use Rattle.std.proofs.lemmas.Int.{ints}
use Rattle.gap_cert.specs.Bytes.{be, value_of, AreBytes, full, half, raw_of, signed_from, IsSigned}
use Rattle.std.specs.Int.{w128}

pub full_pos : (k : ℕ) → 0 < full k
unfolding full
full_pos zero = omega arith
full_pos (suc k) = let h = full_pos k in omega arith

pub length-be : (k n : ℕ) → length (be k n) ≡ k
unfolding be
length-be zero n = refl
length-be (suc k) n = ap suc (length-be k (n % full k))

-- a number read on from another
placed : (a b f v : ℕ) → (a * 256 + b) * f + v ≡ a * (256 * f) + (b * f + v)
placed a b f v = let e = add-mul (a * 256) b f in let m = mul_assoc a 256 f in omega (arith, e, m)

from_be : (k a n : ℕ) → n < full k → fold (λ v b. v * 256 + b) a (be k n) ≡ a * full k + n
unfolding be full
from_be zero a n h = let z : n ≡ 0 = omega arith in rw z (omega arith)
from_be (suc k) a n h =
    let d = div-add-mod' n (full k) in
    from_be k (a * 256 + n / full k) (n % full k) (mod_below n (full k) (full_pos k)) ∙ placed a (n / full k) (full k) (n % full k) ∙ ap (λ (v : ℕ). a * (256 * full k) + v) d

-- the bytes of a number are its bytes
pub value_of-be : (k n : ℕ) → n < full k → value_of (be k n) ≡ n
value_of-be k n h = from_be k 0 n h ∙ omega arith

pub bytes_of_be : (k n : ℕ) → n < full k → AreBytes (be k n)
unfolding be full
bytes_of_be zero n h = tt
bytes_of_be (suc k) n h = (div_below n (full k) 256 (full_pos k) h, bytes_of_be k (n % full k) (mod_below n (full k) (full_pos k)))

-- bytes read on from a number
read_on : (a : ℕ) (bytes : List ℕ) → fold (λ v b. v * 256 + b) a bytes ≡ a * full (length bytes) + value_of bytes
unfolding full
read_on a [] = omega arith
read_on a (b ∷ bytes) =
    let one = read_on (a * 256 + b) bytes in
    let two = read_on (0 * 256 + b) bytes in
    let e = placed a b (full (length bytes)) (value_of bytes) in
    let z : 0 * 256 + b ≡ b = omega arith in
    one ∙ e ∙ ap (λ (v : ℕ). a * (256 * full (length bytes)) + v) (sym (two ∙ ap (λ (v : ℕ). v * full (length bytes) + value_of bytes) z))

value_cons : (b : ℕ) (bytes : List ℕ) → value_of (b ∷ bytes) ≡ b * full (length bytes) + value_of bytes
value_cons b bytes = let z : 0 * 256 + b ≡ b = omega arith in read_on (0 * 256 + b) bytes ∙ ap (λ (v : ℕ). v * full (length bytes) + value_of bytes) z

pub value_fits : (bytes : List ℕ) → AreBytes bytes → value_of bytes < full (length bytes)
unfolding full
value_fits [] h = omega arith
value_fits (b ∷ bytes) h =
    let f = mul-add-lt b (full (length bytes)) (value_of bytes) 256 h.0 (value_fits bytes h.1) in
    let m = mul_comm (full (length bytes)) 256 in
    let e = value_cons b bytes in omega arith

-- the bytes of what bytes spell are these
pub be-value_of : (bytes : List ℕ) → AreBytes bytes → be (length bytes) (value_of bytes) ≡ bytes
unfolding be
be-value_of [] h = refl
be-value_of (b ∷ bytes) h =
    let e = value_cons b bytes in
    let f = value_fits bytes h.1 in
    let q : value_of (b ∷ bytes) / full (length bytes) ≡ b = rw e (div-mul-add b (full (length bytes)) (value_of bytes) f) in
    let r : value_of (b ∷ bytes) % full (length bytes) ≡ value_of bytes = rw e (mod-mul-add b (full (length bytes)) (value_of bytes) f) in
    rw q (rw r (ap (λ (bs : List ℕ). b ∷ bs) (be-value_of bytes h.1)))

half_fits : (k : ℕ) → half k ≤ full k
unfolding half full
half_fits zero = omega arith
half_fits (suc k) = omega arith

if_true : {A : Type 0} (b : Bool) (s t : A) → b ≡ true → (if b then s else t) ≡ s
if_true b s t e = rw e refl

if_false : {A : Type 0} (b : Bool) (s t : A) → b ≡ false → (if b then s else t) ≡ t
if_false b s t e = rw e refl

below_half : (k n : ℕ) → n < half k → signed_from k n ≡ pos n
unfolding signed_from
below_half k n h = if_true (nat_lt n (half k)) (pos n) (pos n -ℤ pos (full k)) (lt-ltb n (half k) h)

from_half : (k n : ℕ) → half k ≤ n → signed_from k n ≡ pos n -ℤ pos (full k)
unfolding signed_from
from_half k n h = if_false (nat_lt n (half k)) (pos n) (pos n -ℤ pos (full k)) (le-ltb n (half k) h)

negative : (f n : ℕ) → n < f → pos (f - suc n) -ℤ pos f ≡ negsuc n
negative f n h = omega (arith, ints)

-- a signed number comes back from its bytes
pub signed_from-raw_of : (k : ℕ) (z : ℤ) → IsSigned k z → signed_from k (raw_of k z) ≡ z
unfolding IsSigned raw_of
signed_from-raw_of k (pos n) h = below_half k n h
signed_from-raw_of k (negsuc n) h = from_half k (full k - suc n) (omega arith) ∙ negative (full k) n (omega arith)

pub raw_fits : (k : ℕ) (z : ℤ) → IsSigned k z → raw_of k z < full k
unfolding IsSigned raw_of
raw_fits k (pos n) h = let f = half_fits k in omega arith
raw_fits k (negsuc n) h = omega arith

raw_negative : (k n : ℕ) → n < full k → half k ≤ n → (IsSigned k (pos n -ℤ pos (full k))) × (raw_of k (pos n -ℤ pos (full k)) ≡ n)
unfolding IsSigned raw_of
raw_negative k n h l =
    let e : pos n -ℤ pos (full k) ≡ negsuc ((full k - n) - 1) = omega (arith, ints) in
    rw e (omega arith, omega arith)

is_signed_by : (k n : ℕ) → n < full k → (n < half k) ⊎ (half k ≤ n) → IsSigned k (signed_from k n) × (raw_of k (signed_from k n) ≡ n)
unfolding IsSigned raw_of
is_signed_by k n h (inl l) = rw (below_half k n l) (l, refl)
is_signed_by k n h (inr l) = rw (from_half k n l) (raw_negative k n h l)

-- what bytes stand for is a signed number with these bytes
pub is_signed : (k n : ℕ) → n < full k → IsSigned k (signed_from k n) × (raw_of k (signed_from k n) ≡ n)
is_signed k n h = is_signed_by k n h (cases_lt n (half k))

-- full grows with the width
full_more : (d k : ℕ) → full k ≤ full (d + k)
unfolding full
full_more zero k = let e : 0 + k ≡ k = omega arith in rw e (omega arith)
full_more (suc d) k = let h = full_more d k in let e : suc d + k ≡ suc (d + k) = omega arith in rw e (omega arith)

pub full_grows : (k n : ℕ) → k ≤ n → full k ≤ full n
full_grows k n h = let e : (n - k) + k ≡ n = omega arith in rw e at (full_more (n - k) k)

pub full_next : (k : ℕ) → full (suc k) ≡ 256 * full k
unfolding full
full_next k = refl

pub full_16 : full 16 ≡ 2 ^ 128
unfolding full
full_16 = refl

pub full_8 : full 8 ≡ 2 ^ 64
unfolding full
full_8 = refl

-- half is half of full
pub full_twice : (k : ℕ) → 1 ≤ k → full k ≡ half k + half k
unfolding full half
full_twice zero h = absurd (omega arith)
full_twice (suc k) h = omega arith

-- the difference of a number and a whole range, by machine numbers
pub taken : (raw h : ℕ) → 1 ≤ h → h ≤ 2 ^ 127 → h ≤ raw → raw < h + h → to_z w128 (of_z w128 (to_z w128 (of_z w128 (to_z w128 (raw - h) -ℤ to_z w128 (h - 1))) -ℤ pos 1)) ≡ pos raw -ℤ pos (h + h)
taken raw h p q r s = omega (arith, ints)

pub signed_below_zero : (k raw h : ℕ) → raw < full k → h ≡ half k → 1 ≤ k → h ≤ raw → signed_from k raw ≡ pos raw -ℤ pos (h + h)
signed_below_zero k raw h f e l r = let t = full_twice k l in let s : full k ≡ h + h = omega (arith, t, e) in from_half k raw (omega (arith, e)) ∙ ap (λ (n : ℕ). pos raw -ℤ pos n) s

-- a machine number read on by a byte fits
pub byte_behind : (value i b : ℕ) → value < full i → i < 16 → b < 256 → value * 256 + b < 2 ^ 128
byte_behind value i b h l m = let g = full_grows (suc i) 16 l in let e = full_next i in let f = full_16 in omega arith
