-- The bytes of the items of a head behind its first numbers. Own to portgap.

use Rattle.std.specs.Prelude.{ℕ, List, [], ◌∷◌, ◌++◌, ℤ}
use Rattle.gap_cert.specs.Bytes.{be, signed_be}
use Rattle.gap_cert.specs.Certificates.{AssetLine}

-- what is said of an asset
abbrev pub line_bytes : AssetLine → List ℕ
line_bytes a = signed_be 4 a.mean ++ be 4 a.dev ++ be 2 a.least ++ be 2 a.greatest ++ be 2 a.present

-- what is said of assets, one behind another
unfoldable pub lines_bytes : List AssetLine → List ℕ
lines_bytes [] = []
lines_bytes (a ∷ lines) = line_bytes a ++ lines_bytes lines

-- signed numbers of a width, one behind another
unfoldable pub numbers_bytes : ℕ → List ℤ → List ℕ
numbers_bytes width [] = []
numbers_bytes width (z ∷ numbers) = signed_be width z ++ numbers_bytes width numbers
