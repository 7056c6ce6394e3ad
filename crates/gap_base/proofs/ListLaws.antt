-- Laws of lists by place with a default, for the fixed arrays behind lots and eighths.

use Rattle.std.proofs.Common.{ℕ, zero, suc, ◌<◌, List, [], ◌∷◌, take, replicate, slice_index_or, slice_set, arith}

-- each number of the first n is below a bound where each number is
pub small-take : (n b : ℕ) (xs : List ℕ) → 0 < b → ((k : ℕ) → slice_index_or xs k 0 < b) → (k : ℕ) → slice_index_or (take n xs) k 0 < b
small-take zero b xs p h k = p
small-take (suc n) b [] p h k = p
small-take (suc n) b (x ∷ xs) p h zero = h 0
small-take (suc n) b (x ∷ xs) p h (suc k) = small-take n b xs p (λ j. h (suc j)) k

-- a list of equal numbers below a bound has only numbers below it
pub small-filled : (n v b : ℕ) → v < b → (k : ℕ) → slice_index_or (replicate n v) k 0 < b
small-filled zero v b p k = omega arith
small-filled (suc n) v b p zero = p
small-filled (suc n) v b p (suc k) = small-filled n v b p k

-- writing a small number keeps all small
pub small-set : (b : ℕ) (xs : List ℕ) (i v : ℕ) → v < b → ((k : ℕ) → slice_index_or xs k 0 < b) → (k : ℕ) → slice_index_or (slice_set xs i v) k 0 < b
small-set b [] i v p h k = h k
small-set b (x ∷ xs) zero v p h zero = p
small-set b (x ∷ xs) zero v p h (suc k) = h (suc k)
small-set b (x ∷ xs) (suc i) v p h zero = h 0
small-set b (x ∷ xs) (suc i) v p h (suc k) = small-set b xs i v p (λ j. h (suc j)) k
