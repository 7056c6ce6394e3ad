use Rattle.gap_sweep.proofs.sweep.shift_of.Goals as goal

pub returns : goal.returns
returns c = record {
  is_shift = c.n-assets.ensures.shift;
  assets_are = c.in_ok-shift.ensures.assets;
  dominant = c.in_ok-shift.ensures.dominant;
  least = c.in_ok-shift.ensures.least;
  plain = c.in_ok-shift.ensures.plain;
  rounded = c.in_ok-shift.ensures.rounded;
  chosen = c.in_ok-shift.ensures.chosen;
}
