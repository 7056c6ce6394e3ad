-- Lines through a curve and nowhere below it, and where a curve is highest. Own to portgap; in convex analysis the
-- slopes of such lines are the
-- supergradients of the curve.
use Rattle.std.specs.Prelude.{◌≡◌, ◌≤◌, ℤ, ◌+ℤ◌, ◌-ℤ◌, ◌*ℤ◌, ◌≤ℤ◌, unsigned_abs}
use Rattle.gap_lines.specs.declared.line.Line.{Line}

-- the height at b of the line that has a value at a place, and a slope
unfoldable pub height : ℤ → ℤ → ℤ → ℤ → ℤ
height place value slope b = value +ℤ ((b -ℤ place) *ℤ slope)

-- the height of a line at b
abbrev pub on : Line → ℤ → ℤ
on l b = height l.place l.value l.slope b

-- a line goes through the curve at its place, and is nowhere below it
pub record IsLine (value : ℤ → ℤ) (l : Line) : Type 0 where
  pub exact : value l.place ≡ l.value
  pub above : (b : ℤ) → value b ≤ℤ on l b

-- a place of low..high is one where the curve is highest, and of these the one nearest to 0
pub record IsBest (value : ℤ → ℤ) (low high place : ℤ) : Type 0 where
  pub from : low ≤ℤ place
  pub to : place ≤ℤ high
  pub most : (t : ℤ) → low ≤ℤ t → t ≤ℤ high → value t ≤ℤ value place
  pub nearest : (t : ℤ) → low ≤ℤ t → t ≤ℤ high → value t ≡ value place → unsigned_abs place ≤ unsigned_abs t
