-- Whole numbers in words. Own to portgap.
use Rattle.std.specs.Prelude.{ℕ, ◌&&◌, Bool, nat_le, nat_lt, eqb, List, length, Option, Some, None, if◌then◌else◌}
use Rattle.std.specs.List.{position_or_len, before_first, after_first}
use Rattle.std.specs.Option.{option_map, option_and_then}
use Rattle.gap_base.specs.Numerals.{is_number, number_of}

-- the number that a word is, where it is decimal digits and nothing else, at most so many; leading zeros count as digits
abbrev pub number : ℕ → List ℕ → Option ℕ
number digits word = if nat_le (length word) digits && is_number word then Some (number_of word) else None

-- a number, where there is one and it lies in a range
abbrev pub within : ℕ → ℕ → Option ℕ → Option ℕ
within least most value = option_and_then (λ n. if nat_le least n && nat_le n most then Some n else None) value

-- the number that a word of at most nine digits is, where it is one and lies in a range
unfoldable pub number_in : ℕ → ℕ → List ℕ → Option ℕ
number_in least most word = within least most (number 9 word)

-- is it the byte of a `-`?
abbrev pub is_dash : ℕ → Bool
is_dash byte = eqb byte 45

-- a first number up to a second one, which is at most 256
unfoldable pub range_in : List ℕ → List ℕ → Option (ℕ × ℕ)
range_in fewest most = option_and_then (λ b. option_map (λ a. (a, b)) (number_in 1 b fewest)) (number_in 1 256 most)

-- how many assets a word says are to be held, at least and at most: K, which is both, or K1-K2
unfoldable pub held_in : List ℕ → Option (ℕ × ℕ)
held_in word =
    if nat_lt (position_or_len is_dash word) (length word) then range_in (before_first is_dash word)
    (after_first is_dash word)
    else option_map (λ k. (k, k)) (number_in 1 256 word)
