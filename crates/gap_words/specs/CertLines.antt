-- The line of a certificate at fault.
use Rattle.std.specs.Prelude.{ℕ, ◌+◌, ℤ, List, [], ◌∷◌, codes}
use Rattle.std.specs.Fmt.{decimal, signed_decimal}
use Rattle.gap_base.specs.declared.row.Row.{Row}
use Rattle.gap_instance.specs.declared.keeps.Broken.{Broken}
use Rattle.gap_instance.specs.declared.keeps.Broken.TheVariants.{Length, Lots, Held, Least, Greatest, Turnover}
use Rattle.gap_model.specs.declared.cert_fault.CertFault.{CertFault}
use Rattle.gap_model.specs.declared.cert_fault.CertKind.{CertKind}
use Rattle.gap_model.specs.declared.cert_fault.CertKind.TheVariants as kind
use Rattle.gap_words.specs.Lines.{joined}

-- numbers, each behind a space
unfoldable pub number_text : ℤ → List ℕ
number_text number = joined (codes " " ∷ signed_decimal number ∷ [])

unfoldable pub numbers_text : ℤ → ℤ → List ℕ
numbers_text first second = joined (codes " " ∷ signed_decimal first ∷ codes " " ∷ signed_decimal second ∷ [])

unfoldable pub counts_text : ℕ → ℕ → List ℕ
counts_text first second = joined (codes " " ∷ decimal first ∷ codes " " ∷ decimal second ∷ [])

-- a row of the shift by its number, from 1: its diagonal entry and the sizes of the others
unfoldable pub row_text : Row → List ℕ
row_text row =
    joined (codes " " ∷ decimal (row.row + 1) ∷ codes " " ∷ signed_decimal row.diagonal ∷ codes " "
    ∷ signed_decimal row.others ∷ [])

-- a limit of an asset by its number, from 1
unfoldable pub asset_text : List ℕ → ℕ → List ℕ
asset_text limit asset = joined (codes " " ∷ limit ∷ codes " " ∷ decimal (asset + 1) ∷ [])

-- the limit that a portfolio breaks
abbrev pub broken_text : Broken → List ℕ
broken_text Length = codes " Length"
broken_text Lots = codes " Lots"
broken_text Held = codes " Held"
broken_text (Least asset) = asset_text (codes "Least") asset
broken_text (Greatest asset) = asset_text (codes "Greatest") asset
broken_text Turnover = codes " Turnover"

-- the word of a kind of fault of a certificate
abbrev pub cert_word : CertKind → List ℕ
cert_word kind.Magic = codes "Magic"
cert_word kind.Short = codes "Short"
cert_word kind.Trail = codes "Trail"
cert_word kind.Range = codes "Range"
cert_word kind.Order = codes "Order"
cert_word (kind.Shift row) = codes "Shift"
cert_word kind.Split = codes "Split"
cert_word kind.Count = codes "Count"
cert_word (kind.Void found) = codes "Void"
cert_word (kind.Weak found claimed) = codes "Weak"
cert_word (kind.Portfolio broken) = codes "Portfolio"
cert_word (kind.Objective found claimed) = codes "Objective"
cert_word (kind.NotOpen objective bound) = codes "NotOpen"
cert_word (kind.Nodes inner budget) = codes "Nodes"

-- the fields of a kind of fault, each behind a space
abbrev pub cert_fields : CertKind → List ℕ
cert_fields kind.Magic = []
cert_fields kind.Short = []
cert_fields kind.Trail = []
cert_fields kind.Range = []
cert_fields kind.Order = []
cert_fields (kind.Shift row) = row_text row
cert_fields kind.Split = []
cert_fields kind.Count = []
cert_fields (kind.Void found) = number_text found
cert_fields (kind.Weak found claimed) = numbers_text found claimed
cert_fields (kind.Portfolio broken) = broken_text broken
cert_fields (kind.Objective found claimed) = numbers_text found claimed
cert_fields (kind.NotOpen objective bound) = numbers_text objective bound
cert_fields (kind.Nodes inner budget) = counts_text inner budget

unfoldable pub cert_text : List ℕ → ℕ → List ℕ → List ℕ
cert_text word place fields = joined (codes "certificate " ∷ word ∷ codes " " ∷ decimal place ∷ fields ∷ codes "\n" ∷ [])

-- the line of a certificate with this fault: the word of the kind, the place, and the fields of the kind
abbrev pub cert_line : CertFault → List ℕ
cert_line fault = cert_text (cert_word fault.kind) fault.place (cert_fields fault.kind)
