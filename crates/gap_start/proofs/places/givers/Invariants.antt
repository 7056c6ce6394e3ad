use Rattle.gap_start.specs.Places.{AreAll, IsGiver}
use Rattle.gap_start.proofs.places.givers.Given as goal

abbrev pub invariant-loop-i : goal.invariant-loop-i
invariant-loop-i l = AreAll (IsGiver l.h.lots) l.h.instance.market.assets l.i l.places.numbers l.places.count
