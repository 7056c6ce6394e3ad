-- What a search for the highest place of a curve keeps. Own to portgap.
use Rattle.std.specs.Prelude.{ℤ, pos, ◌+ℤ◌, ◌-ℤ◌, ◌≤ℤ◌, ◌<ℤ◌}
use Rattle.gap_lines.specs.declared.line.Line.{Line}
use Rattle.gap_lines.specs.Lines.{IsLine}

-- no place of low..high up to `below`, nor from `above` on, is higher than the top. The ends may lie one outside low..high
pub record IsBracket (value : ℤ → ℤ) (low high below above : ℤ) (rise fall top : Line) : Type 0 where
  pub from : (low -ℤ pos 1) ≤ℤ below
  pub to : above ≤ℤ (high +ℤ pos 1)
  pub order : below <ℤ above
  pub before : (t : ℤ) → low ≤ℤ t → t ≤ℤ below → value t ≤ℤ top.value
  pub after : (t : ℤ) → above ≤ℤ t → t ≤ℤ high → value t ≤ℤ top.value
  pub rise_line : IsLine value rise
  pub fall_line : IsLine value fall
  pub top_line : IsLine value top
  pub top_from : low ≤ℤ top.place
  pub top_to : top.place ≤ℤ high

-- a line is one of the curve and its place the highest of low..high, wherever that place lies
pub record IsTop (value : ℤ → ℤ) (low high : ℤ) (top : Line) : Type 0 where
  pub line : IsLine value top
  pub from : low ≤ℤ top.place
  pub to : top.place ≤ℤ high
  pub most : (t : ℤ) → low ≤ℤ t → t ≤ℤ high → value t ≤ℤ top.value
