use Rattle.std.proofs.Common.{◌*◌, pos, ◌-ℤ◌, ◌*ℤ◌}
use Rattle.gap_model.specs.Settings.{shifted_cov}
use Rattle.gap_tangent.specs.Seen.{setting_of}
use Rattle.gap_tangent.proofs.RowLaws.{IsAdded}
use Rattle.gap_tangent.proofs.moves.move_gradients.Given as goal

abbrev pub invariant-loop-k : goal.invariant-loop-k
invariant-loop-k l = IsAdded (λ k. pos (2 * (setting_of l.mv).p * l.s) *ℤ (shifted_cov (setting_of l.mv) k l.j -ℤ shifted_cov (setting_of l.mv) k l.i)) l.initial.gradients l.gradients l.k
