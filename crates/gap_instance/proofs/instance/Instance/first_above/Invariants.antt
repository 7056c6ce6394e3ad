use Rattle.gap_instance.specs.Limits.{IsAboveGreatest, IsOfNone}
use Rattle.gap_instance.proofs.instance.Instance.first_above.Given as goal

abbrev pub invariant-loop-asset : goal.invariant-loop-asset
invariant-loop-asset l = IsOfNone (IsAboveGreatest l.self l.x) l.asset
