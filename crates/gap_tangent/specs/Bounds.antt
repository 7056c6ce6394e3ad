-- What a tangent bound is taken over, from its three parts. Own to portgap.

use Rattle.gap_base.specs.declared.weight.Weight.{Weight}
use Rattle.gap_instance.specs.Instances.{InstanceValue}
use Rattle.gap_psd.specs.Shifts.{ShiftValue}
use Rattle.gap_model.specs.Settings.{Setting}

-- an instance, a shift of its covariances and a weight
abbrev pub setting_with : InstanceValue → ShiftValue → Weight → Setting
setting_with I shift w = record { instance = I; shift = shift.diagonal; p = w.p; q = w.q }
