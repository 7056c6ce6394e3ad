-- The first field of two sides that differs. Own to portgap.

use Rattle.std.specs.Prelude.{◌≡◌, ◌≢◌, ℕ, ◌==◌, ◌&&◌, Bool, true, false, List, [], ◌∷◌, ◌++◌, length, All, Option, Some, None, if◌then◌else◌}
use Rattle.std.specs.Option.{option_or}
use Rattle.std.specs.Ordering.{int_eq}
use Rattle.gap_verify.specs.declared.field.Field.{Field}
use Rattle.gap_verify.specs.declared.said.Said.{Said}
use Rattle.gap_verify.specs.declared.said.Said.TheVariants.{Number, Signed, Range, Limit, Fraction}
use Rattle.gap_verify.specs.declared.difference.Difference.{Difference}
use Rattle.gap_verify.specs.Sides.{Side, said_of, fields_of}

-- two sides say the same of a field
abbrev pub AgreeOn : Side → Side → Field → Type 0
AgreeOn a b f = said_of a f ≡ said_of b f

-- a difference is the first of a list of fields: those before it agree, its field does not, and it tells both
pub record IsFirstDifference (a b : Side) (fields : List Field) (d : Difference) : Type 0 where
  pub before : List Field
  pub after : List Field
  pub stands : fields ≡ before ++ (d.field ∷ after)
  pub agree : All (AgreeOn a b) before
  pub found_is : d.found ≡ said_of a d.field
  pub wanted_is : d.wanted ≡ said_of b d.field
  pub differ : d.found ≢ d.wanted

-- what is told of a list of fields: none where all agree, else the first that differs
abbrev pub IsToldOf : Side → Side → List Field → Option Difference → Type 0
IsToldOf a b fields None = All (AgreeOn a b) fields
IsToldOf a b fields (Some d) = IsFirstDifference a b fields d

-- do two limits, of which each may be absent, agree?
abbrev pub same_limit : Option ℕ → Option ℕ → Bool
same_limit None None = true
same_limit None (Some u) = false
same_limit (Some t) None = false
same_limit (Some t) (Some u) = t == u

-- is the same said?
abbrev pub same_said : Said → Said → Bool
same_said (Number m) (Number n) = m == n
same_said (Signed m) (Signed n) = int_eq m n
same_said (Range a b) (Range c d) = (a == c) && (b == d)
same_said (Limit t) (Limit u) = same_limit t u
same_said (Fraction v) (Fraction w) = (v.p == w.p) && (v.q == w.q)
same_said _ _ = false

-- the difference of a field of which two things are said, if they differ
unfoldable pub compared : Field → Said → Said → Option Difference
compared f found wanted =
    if same_said found wanted then None else Some (record { field = f; found = found; wanted = wanted })

-- the difference of two sides at a field
abbrev pub difference_at : Side → Side → Field → Option Difference
difference_at a b f = compared f (said_of a f) (said_of b f)

-- the first difference of two sides in a list of fields
unfoldable pub first_in : Side → Side → List Field → Option Difference
first_in a b [] = None
first_in a b (f ∷ fields) = option_or (difference_at a b f) (first_in a b fields)

-- the first difference of a certificate's side and a job's
unfoldable pub difference_of : Side → Side → Option Difference
difference_of a b = first_in a b (fields_of b.instance.market.assets (length b.weights))
