-- What contracts see of a tangent bound. Own to portgap.

use Rattle.gap_psd.specs.Shifts.{ShiftValue}
use Rattle.gap_model.specs.Settings.{Setting}
use Rattle.gap_tangent.specs.declared.mean_variance.MeanVariance.{MeanVariance}
use Rattle.gap_tangent.specs.Bounds.{setting_with}

-- what a bound is taken over: its instance, the diagonal of its shift, and its weight
abbrev pub setting_of : MeanVariance → Setting
setting_of b = setting_with b.instance.now b.shift.now b.weight

-- its whole shift
abbrev pub shift_of : MeanVariance → ShiftValue
shift_of b = b.shift.now
