-- The lines of a report: each ends with one line feed, one space stands between words, and numbers are plain decimals.
-- Own to portgap.

use Rattle.std.specs.Prelude.{ℕ, ◌+◌, ◌*◌, ◌^◌, Bool, nat_lt, List, [], ◌∷◌, ◌++◌, ℤ, codes, if◌then◌else◌, Option, Some, None}
use Rattle.std.specs.Fmt.{decimal, signed_decimal}
use Rattle.gap_model.specs.declared.front.FrontRow.{FrontRow}
use Rattle.gap_model.specs.declared.outcome.Best.{Best}
use Rattle.gap_model.specs.declared.outcome.Told.{Told}
use Rattle.gap_model.specs.declared.outcome.Outcome.{Outcome}
use Rattle.gap_model.specs.declared.outcome.Outcome.TheVariants.{Closed, NoPortfolio, Bounded}

-- texts one after another
abbrev pub joined : List (List ℕ) → List ℕ
joined [] = []
joined (text ∷ []) = text
joined (text ∷ more ∷ texts) = text ++ joined (more ∷ texts)

-- the line of a market: its assets, how many numerals were rounded, and the total of the shift
unfoldable pub market_line : ℕ → ℕ → ℤ → List ℕ
market_line n rounded shift =
    joined (codes "assets " ∷ decimal n ∷ codes " rounded " ∷ decimal rounded ∷ codes " shift " ∷ signed_decimal shift
    ∷ codes "\n" ∷ [])

-- the denominator of the objectives that are printed for a weight p/q and a budget of L lots: q * 10^18 * L^2
abbrev pub denominator : ℕ → ℕ → ℕ
denominator q lots = q * 10 ^ 18 * lots ^ 2

-- what is known of a weight, in one word
abbrev pub known_word : Outcome → List ℕ
known_word (Closed best) = codes "closed"
known_word NoPortfolio = codes "none"
known_word (Bounded best bound) = codes "open"

-- an objective and a bound over one denominator, not reduced
unfoldable pub bounds_text : ℤ → ℤ → ℕ → List ℕ
bounds_text value bound below =
    joined (codes " objective " ∷ signed_decimal value ∷ codes "/" ∷ decimal below ∷ codes " bound "
    ∷ signed_decimal bound ∷ codes "/" ∷ decimal below ∷ [])

-- a bound where no portfolio was found
unfoldable pub bound_text : ℤ → ℕ → List ℕ
bound_text bound below = joined (codes " objective - bound " ∷ signed_decimal bound ∷ codes "/" ∷ decimal below ∷ [])

abbrev pub found_text : Option Best → ℤ → ℕ → List ℕ
found_text (Some best) bound below = bounds_text best.value bound below
found_text None bound below = bound_text bound below

-- the numbers of an outcome: of a closed one the bound is the objective
abbrev pub numbers_text : Outcome → ℕ → List ℕ
numbers_text (Closed best) below = bounds_text best.value best.value below
numbers_text NoPortfolio below = []
numbers_text (Bounded best bound) below = found_text best bound below

-- the line of a weight for a budget of L lots, with the number of split nodes
unfoldable pub weight_line : ℕ → Told → ℕ → List ℕ
weight_line lots told nodes =
    joined (codes "weight " ∷ decimal told.weight.p ∷ codes "/" ∷ decimal told.weight.q ∷ codes " "
    ∷ known_word told.outcome ∷ codes " nodes " ∷ decimal nodes
    ∷ numbers_text told.outcome (denominator told.weight.q lots) ∷ codes "\n" ∷ [])

-- the same line without the number of split nodes
unfoldable pub verdict_line : ℕ → Told → List ℕ
verdict_line lots told =
    joined (codes "weight " ∷ decimal told.weight.p ∷ codes "/" ∷ decimal told.weight.q ∷ codes " "
    ∷ known_word told.outcome ∷ numbers_text told.outcome (denominator told.weight.q lots) ∷ codes "\n" ∷ [])

-- an asset by its number, from 1, with its lots, where it is held
abbrev pub held_text : ℕ → ℕ → List ℕ
held_text number lots = if nat_lt 0 lots then codes " " ++ decimal number ++ codes ":" ++ decimal lots else []

-- the held assets of a list of lots in rising order, where the first of them has this number
unfoldable pub held_from : ℕ → List ℕ → List ℕ
held_from number [] = []
held_from number (lots ∷ rest) = held_text number lots ++ held_from (number + 1) rest

-- the line of the lots of a portfolio
unfoldable pub lots_line : List ℕ → List ℕ
lots_line x = codes "lots" ++ held_from 1 x ++ codes "\n"

-- the denominators of the risks and of the returns that are printed
abbrev pub risk_denominator : ℕ → ℕ
risk_denominator lots = 10 ^ 18 * lots ^ 2

abbrev pub return_denominator : ℕ → ℕ
return_denominator lots = 10 ^ 6 * lots

abbrev pub rank_word : Bool → List ℕ
rank_word efficient = if efficient then codes "efficient" else codes "dominated"

-- a number over a denominator, not reduced
unfoldable pub fraction_text : ℤ → ℕ → List ℕ
fraction_text number below = joined (signed_decimal number ∷ codes "/" ∷ decimal below ∷ [])

-- a row of the frontier by its number, from 1, and its weight
unfoldable pub row_text : ℕ → ℕ → ℕ → List ℕ
row_text k p q = joined (codes "row " ∷ decimal k ∷ codes " weight " ∷ decimal p ∷ codes "/" ∷ decimal q ∷ [])

-- the line of a row of the frontier
unfoldable pub front_line : ℕ → ℕ → FrontRow → Bool → List ℕ
front_line lots k row efficient =
    joined (row_text k row.weight.p row.weight.q ∷ codes " risk " ∷ fraction_text row.risk (risk_denominator lots)
    ∷ codes " return " ∷ fraction_text row.ret (return_denominator lots) ∷ codes " " ∷ rank_word efficient
    ∷ codes "\n" ∷ [])
