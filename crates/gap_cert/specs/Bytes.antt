-- Whole numbers as bytes of fixed width, the highest first; signed ones are two's complement. Own to portgap.

use Rattle.std.specs.Prelude.{ℕ, zero, suc, ◌+◌, ◌*◌, ◌-◌, ◌/◌, ◌%◌, ◌<◌, if◌then◌else◌, nat_lt, List, [], ◌∷◌, fold, ℤ, pos, negsuc, ◌-ℤ◌}

-- how many numbers k bytes have
unfoldable pub full : ℕ → ℕ
full zero = 1
full (suc k) = 256 * full k

-- the k bytes of a number below full k, the highest first
unfoldable pub be : ℕ → ℕ → List ℕ
be zero n = []
be (suc k) n = n / full k ∷ be k (n % full k)

-- the number that bytes spell, the highest first
abbrev pub value_of : List ℕ → ℕ
value_of bytes = fold (λ v b. v * 256 + b) 0 bytes

-- each number of a list is a byte
abbrev pub AreBytes : List ℕ → Type 0
AreBytes [] = Unit {0}
AreBytes (b ∷ bs) = (b < 256) × AreBytes bs

-- the first number of k bytes that stands for a negative one
unfoldable pub half : ℕ → ℕ
half zero = 1
half (suc k) = 128 * full k

-- the number below full that stands for a signed one
unfoldable pub raw_of : ℕ → ℤ → ℕ
raw_of k (pos n) = n
raw_of k (negsuc n) = full k - suc n

-- the signed number that a number below full stands for
unfoldable pub signed_from : ℕ → ℕ → ℤ
signed_from k n = if nat_lt n (half k) then pos n else pos n -ℤ pos (full k)

-- a signed number of k bytes
unfoldable pub IsSigned : ℕ → ℤ → Type 0
IsSigned k (pos n) = n < half k
IsSigned k (negsuc n) = suc n + half k < suc (full k)

-- a signed number as k bytes
abbrev pub signed_be : ℕ → ℤ → List ℕ
signed_be k z = be k (raw_of k z)
