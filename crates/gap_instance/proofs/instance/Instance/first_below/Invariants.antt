use Rattle.gap_instance.specs.Limits.{IsBelowLeast, IsOfNone}
use Rattle.gap_instance.proofs.instance.Instance.first_below.Given as goal

abbrev pub invariant-loop-i : goal.invariant-loop-i
invariant-loop-i l = IsOfNone (IsBelowLeast l.self l.x) l.i
