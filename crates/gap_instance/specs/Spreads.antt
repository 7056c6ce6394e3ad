-- The equal spread of lots over the first assets. Own to portgap.
use Rattle.std.specs.Prelude.{ℕ, ◌+◌, ◌/◌, ◌%◌, cond, nat_lt}

-- what asset i gets where L lots are spread over the first K assets: L/K rounded down, and one more for the first L mod K
abbrev pub spread_of : ℕ → ℕ → ℕ → ℕ
spread_of L K i = cond (nat_lt i K) (L / K + cond (nat_lt i (L % K)) 1 0) 0
