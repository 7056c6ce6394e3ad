-- The formats of the groups of a certificate, and the bytes of each. Own to portgap.

use Rattle.std.specs.Prelude.{ℕ, suc, ◌==◌, ◌&&◌, if◌then◌else◌, cond, nat_lt, Bool, true, false, List, [], ◌∷◌, ◌++◌, Option, Some, None}
use Rattle.std.specs.Ordering.{int_eq}
use Rattle.gap_base.specs.declared.witness.Witness.{Witness}
use Rattle.gap_box.specs.declared.split.Split.{Split}
use Rattle.gap_box.specs.declared.split.Split.TheVariants.{Held, Lots}
use Rattle.gap_box.specs.Parts.{held_count}
use Rattle.gap_cert.specs.declared.field.Version.{Version}
use Rattle.gap_cert.specs.declared.field.Version.TheVariants.{One, Two}
use Rattle.gap_cert.specs.declared.field.Field.{Field}
use Rattle.gap_cert.specs.declared.field.Field.TheVariants as field
use Rattle.gap_cert.specs.Bytes.{be, signed_be}

-- the bytes of entries of a list: for each number that isn't 0 its asset, from 1 on, and then the number in a width
unfoldable pub entry_bytes : ℕ → ℕ → List ℕ → List ℕ
entry_bytes width asset [] = []
entry_bytes width asset (v ∷ x) =
    cond (nat_lt 0 v) ((be 2 asset ++ be width v) ++ entry_bytes width (suc asset) x) (entry_bytes width (suc asset) x)

-- the bytes of a witness: how many entries it has, its entries, alpha and tau
abbrev pub witness_bytes : Witness → List ℕ
witness_bytes w = be 2 (held_count w.y) ++ entry_bytes 4 1 w.y ++ signed_be 16 w.alpha ++ signed_be 16 w.tau

-- the first seven bytes, `GAPCERT`
abbrev pub mark : List ℕ
mark = 71 ∷ 65 ∷ 80 ∷ 67 ∷ 69 ∷ 82 ∷ 84 ∷ []

abbrev pub mark_bytes : List ℕ → List ℕ
mark_bytes [] = []
mark_bytes (b ∷ bs) = be 1 b ++ mark_bytes bs

-- the eighth byte: `1` or `2`
abbrev pub version_byte : Version → ℕ
version_byte One = 49
version_byte Two = 50

-- the number of the end mark, `END` and a line feed
abbrev pub end_mark : ℕ
end_mark = 1162757130

abbrev pub held_most_bytes : Version → ℕ → List ℕ
held_most_bytes One held_most = []
held_most_bytes Two held_most = be 2 held_most

abbrev pub turnover_bytes : Option ℕ → List ℕ
turnover_bytes None = be 1 0
turnover_bytes (Some t) = be 1 1 ++ be 4 t

-- version 1 doesn't say how many entries a portfolio has
abbrev pub portfolio_bytes : Version → List ℕ → List ℕ
portfolio_bytes One x = entry_bytes 2 1 x
portfolio_bytes Two x = be 2 (held_count x) ++ entry_bytes 2 1 x

abbrev pub overall_bytes : Option Witness → List ℕ
overall_bytes None = be 1 0
overall_bytes (Some w) = be 1 1 ++ witness_bytes w

-- do two lists have the same numbers?
abbrev pub same_numbers : List ℕ → List ℕ → Bool
same_numbers [] [] = true
same_numbers [] (w ∷ y) = false
same_numbers (v ∷ x) [] = false
same_numbers (v ∷ x) (w ∷ y) = (v == w) && same_numbers x y

-- are two witnesses the same?
unfoldable pub same_witness : Witness → Witness → Bool
same_witness v w = same_numbers v.y w.y && (int_eq v.alpha w.alpha && int_eq v.tau w.tau)

-- is the witness that of the last tangent leaf?
abbrev pub repeats : Option Witness → Witness → Bool
repeats None w = false
repeats (Some last) w = same_witness last w

-- in version 2 a tangent leaf with the witness of the last one is the byte 6 alone
abbrev pub repeated : Version → Option Witness → Witness → Bool
repeated One last w = false
repeated Two last w = repeats last w

abbrev pub split_bytes : Split → List ℕ
split_bytes (Held i) = be 1 4 ++ be 2 (suc i)
split_bytes (Lots i t) = be 1 5 ++ be 2 (suc i) ++ be 2 t

-- the bytes of a group, by its version and the witness of the last tangent leaf before it in its tree
abbrev pub bytes_of : Version → Option Witness → Field → List ℕ
bytes_of version last (field.Head n lots held held_most turnover nodes) =
    (mark_bytes mark ++ be 1 (version_byte version)) ++ be 2 n ++ be 2 lots ++ be 2 held
    ++ held_most_bytes version held_most ++ turnover_bytes turnover ++ be 4 nodes
bytes_of version last (field.Asset mean dev least greatest present) =
    signed_be 4 mean ++ be 4 dev ++ be 2 least ++ be 2 greatest ++ be 2 present
bytes_of version last (field.Correlation rho) = signed_be 4 rho
bytes_of version last (field.FactorEntry r) = signed_be 8 r
bytes_of version last (field.ShiftEntry d) = signed_be 16 d
bytes_of version last (field.Sections count) = be 1 count
bytes_of version last (field.SectionStart p q outcome) = be 1 p ++ be 1 q ++ be 1 outcome
bytes_of version last (field.Portfolio x) = portfolio_bytes version x
bytes_of version last (field.Objective value) = signed_be 16 value
bytes_of version last (field.Bound value) = signed_be 16 value
bytes_of version last (field.Overall w) = overall_bytes w
bytes_of version last field.CountLeaf = be 1 1
bytes_of version last (field.VoidLeaf alpha tau) = be 1 2 ++ signed_be 16 alpha ++ signed_be 16 tau
bytes_of version last (field.TangentLeaf w) = if repeated version last w then be 1 6 else (be 1 3 ++ witness_bytes w)
bytes_of version last (field.Split split) = split_bytes split
bytes_of version last field.End = be 4 end_mark
