use Rattle.std.proofs.Common.{◌≡◌, ◌≤ℤ◌, ◌+◌, cond, IsFalse}
use Rattle.gap_instance.specs.Limits.{MeetsLimits}
use Rattle.gap_instance.specs.Neighbours.{HasNoBetterNeighbour}
use Rattle.gap_instance.specs.Objective.{objective}
use Rattle.gap_start.specs.Steps.{height}
use Rattle.gap_start.proofs.polishing.polish.Given as goal

abbrev pub invariant-loop-going : goal.invariant-loop-going
invariant-loop-going l = record {
  instance_is : l.h.instance ≡ l.fn.h.instance;
  weight_is : l.h.weight ≡ l.fn.h.weight;
  meets : MeetsLimits l.h.instance l.h.lots;
  better : objective l.h.instance l.h.weight.p l.h.weight.q l.h.lots ≤ℤ objective l.fn.h.instance l.fn.h.weight.p l.fn.h.weight.q l.fn.h.lots;
  best : IsFalse l.going → HasNoBetterNeighbour l.h.instance l.h.weight.p l.h.weight.q l.h.lots;
}

abbrev pub decreases-loop-going : goal.decreases-loop-going
decreases-loop-going l = cond l.going (height l.h.instance l.h.weight.p l.h.weight.q l.h.lots + 1) 0
