use Rattle.gap_start.specs.Places.{AreAll, IsTaker}
use Rattle.gap_start.proofs.places.takers.Given as goal

abbrev pub invariant-loop-j : goal.invariant-loop-j
invariant-loop-j l = AreAll (IsTaker l.h.instance l.h.weight.p l.h.weight.q l.h.lots l.kind l.top) l.h.instance.market.assets l.j l.places.numbers l.places.count
