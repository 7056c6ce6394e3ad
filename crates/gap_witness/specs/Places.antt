-- Places where a number is greatest, and lists made place by place. Own to portgap.
use Rattle.std.specs.Prelude.{◌≡◌, ℕ, zero, suc, ◌<◌, Bool, true, false, if◌then◌else◌, List, [], ◌∷◌, ◌++◌, Option, Some, None, ℤ, ◌≤ℤ◌, ◌<ℤ◌, int_lt}

-- f 0, f 1 .. f (n - 1)
unfoldable pub table : ℕ → (ℕ → ℕ) → List ℕ
table zero f = []
table (suc n) f = table n f ++ f n ∷ []

-- a place below n that passes a test and where f is the greatest of all such places, the first of equal ones
pub record IsFirstGreatest (n : ℕ) (p : ℕ → Bool) (f : ℕ → ℤ) (i : ℕ) : Type 0 where
  pub below : i < n
  pub allowed : p i ≡ true
  pub greatest : (k : ℕ) → k < n → p k ≡ true → f k ≤ℤ f i
  pub first : (k : ℕ) → k < i → p k ≡ true → f k <ℤ f i

-- the next place in place of the one found before, where it passes the test and f is greater there
abbrev pub later : Bool → (ℕ → ℤ) → ℕ → Option ℕ → Option ℕ
later false f n found = found
later true f n None = Some n
later true f n (Some k) = if int_lt (f k) (f n) then Some n else Some k

-- that place, found in one pass; None where no place passes the test
unfoldable pub first_greatest : ℕ → (ℕ → Bool) → (ℕ → ℤ) → Option ℕ
first_greatest zero p f = None
first_greatest (suc n) p f = later (p n) f n (first_greatest n p f)
