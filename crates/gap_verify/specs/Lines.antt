-- The line of a difference: it ends with one line feed, one space stands between words, numbers are plain decimals, and
-- assets and weights are numbered from 1. Own to portgap.

use Rattle.std.specs.Prelude.{ℕ, ◌+◌, ◌==◌, List, [], ◌∷◌, ◌++◌, codes, Option, Some, None, if◌then◌else◌}
use Rattle.std.specs.Fmt.{decimal, signed_decimal}
use Rattle.gap_verify.specs.declared.field.Field.{Field}
use Rattle.gap_verify.specs.declared.field.Field.TheVariants as field
use Rattle.gap_verify.specs.declared.said.Said.{Said}
use Rattle.gap_verify.specs.declared.said.Said.TheVariants.{Number, Signed, Range, Limit, Fraction}
use Rattle.gap_verify.specs.declared.difference.Difference.{Difference}

-- texts one after another
abbrev pub joined : List (List ℕ) → List ℕ
joined [] = []
joined (text ∷ texts) = text ++ joined texts

-- a word and the number, from 1, of what stands at a place
unfoldable pub numbered : List ℕ → ℕ → List ℕ
numbered word place = joined (word ∷ codes " " ∷ decimal (place + 1) ∷ [])

-- a word and the numbers of two places
unfoldable pub paired : List ℕ → ℕ → ℕ → List ℕ
paired word first second = joined (word ∷ codes " " ∷ decimal (first + 1) ∷ codes " " ∷ decimal (second + 1) ∷ [])

-- the name of a field
abbrev pub field_text : Field → List ℕ
field_text field.Assets = codes "assets"
field_text field.Lots = codes "lots"
field_text field.Held = codes "held"
field_text field.Turnover = codes "turnover"
field_text field.Nodes = codes "nodes"
field_text (field.Mean i) = numbered (codes "mean") i
field_text (field.Deviation i) = numbered (codes "deviation") i
field_text (field.Least i) = numbered (codes "least") i
field_text (field.Greatest i) = numbered (codes "greatest") i
field_text (field.Present i) = numbered (codes "present") i
field_text (field.Correlation i j) = paired (codes "correlation") i j
field_text field.Weights = codes "weights"
field_text (field.Weight k) = numbered (codes "weight") k

-- a range of numbers; one number where both ends are the same
unfoldable pub range_text : ℕ → ℕ → List ℕ
range_text fewest most = if fewest == most then decimal fewest else joined (decimal fewest ∷ codes "-" ∷ decimal most ∷ [])

-- a limit; a dash where there is none
abbrev pub limit_text : Option ℕ → List ℕ
limit_text None = codes "-"
limit_text (Some t) = decimal t

-- a weight as p/q
unfoldable pub fraction_text : ℕ → ℕ → List ℕ
fraction_text p q = joined (decimal p ∷ codes "/" ∷ decimal q ∷ [])

-- what is said of a field
abbrev pub said_text : Said → List ℕ
said_text (Number n) = decimal n
said_text (Signed z) = signed_decimal z
said_text (Range fewest most) = range_text fewest most
said_text (Limit t) = limit_text t
said_text (Fraction w) = fraction_text w.p w.q

-- a field and the two things that are said of it
unfoldable pub differs_text : List ℕ → List ℕ → List ℕ → List ℕ
differs_text name found wanted = joined (codes "differs " ∷ name ∷ codes " " ∷ found ∷ codes " " ∷ wanted ∷ codes "\n" ∷ [])

-- the line of a difference
abbrev pub difference_line : Difference → List ℕ
difference_line d = differs_text (field_text d.field) (said_text d.found) (said_text d.wanted)
