-- What is kept of the last witness. Own to portgap.

use Rattle.std.specs.Prelude.{Option, Some, None}
use Rattle.gap_instance.specs.Instances.{InstanceValue}
use Rattle.gap_psd.specs.Shifts.{ShiftValue}
use Rattle.gap_tangent.specs.Bounds.{setting_with}
use Rattle.gap_tangent.specs.Kept.{AreTermsOf}
use Rattle.gap_judge.specs.declared.basis.Basis.{Basis}
use Rattle.gap_judge.specs.declared.kept.Kept.{Kept}

-- what is kept, where anything is, are the terms of a tangent over an instance, a shift and the weight kept beside them
abbrev pub IsKeptOver : InstanceValue → ShiftValue → Option Kept → Type 0
IsKeptOver I s None = Unit {0}
IsKeptOver I s (Some kept) = AreTermsOf (setting_with I s kept.weight) kept.terms

-- what is kept is over the head's instance and shift, once these are there
abbrev pub IsKept : Option Basis → Option Kept → Type 0
IsKept None kept = Unit {0}
IsKept (Some basis) kept = IsKeptOver basis.instance basis.shift kept
