use Rattle.std.proofs.Common.{◌≡◌, drop}
use Rattle.gap_model.specs.Leaves.{eighths_at}
use Rattle.gap_trials.proofs.pricing.eighths_of.Given as goal

abbrev pub invariant-loop-entry : goal.invariant-loop-entry
invariant-loop-entry l = eighths_at l.y l.i ≡ eighths_at (drop l.entry-index l.y) l.i
