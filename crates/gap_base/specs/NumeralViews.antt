-- The parts of a numeral that its reader holds, as the parts of the definition.
use Rattle.std.specs.Prelude.{ℕ, List, Option, Some, None}
use Rattle.std.specs.Borrow.{Bor}
use Rattle.gap_base.specs.declared.numeral_pieces.Exponential.{Exponential}
use Rattle.gap_base.specs.declared.numeral_pieces.Pieces.{Pieces}
use Rattle.gap_base.specs.Numerals.{Parts, Power}

-- the exponent that the slices are. Own to portgap.
abbrev pub power_view : Exponential → Power
power_view p = record { lowers = p.lowers; digits = p.digits.now }

-- the parts that the slices are. Own to portgap.
abbrev pub parts_view : Pieces → Parts
parts_view p = record { negative = p.negative; whole = p.whole.now; fraction = p.fraction.now; power = power_view p.power }

-- the same where there may be none. Own to portgap.
abbrev pub power_if : Option Exponential → Option Power
power_if None = None
power_if (Some p) = Some (power_view p)

abbrev pub parts_if : Option Pieces → Option Parts
parts_if None = None
parts_if (Some p) = Some (parts_view p)

abbrev pub text_if : Option (Bor (List ℕ)) → Option (List ℕ)
text_if None = None
text_if (Some s) = Some s.now
