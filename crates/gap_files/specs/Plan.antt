-- Which calls are to fail. Own to portgap.
use Rattle.std.specs.Prelude.{ℕ, List}
use Rattle.std.specs.List.{Contains}
use Rattle.gap_files.specs.Outside.{one_more}

-- the number of the coming call, where so many were begun: they are counted from 1
abbrev pub next_call : ℕ → ℕ
next_call calls = one_more calls

-- the coming call is one of those that are to fail
abbrev pub IsToFail : List ℕ → ℕ → Type 0
IsToFail fail calls = Contains fail (next_call calls)
