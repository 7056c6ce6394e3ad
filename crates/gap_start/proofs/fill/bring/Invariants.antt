use Rattle.std.proofs.Common.{◌≡◌}
use Rattle.gap_start.specs.Fills.{IsBrought}
use Rattle.gap_start.proofs.fill.bring.Given as goal

abbrev pub invariant-loop-lot : goal.invariant-loop-lot
invariant-loop-lot l = record {
  instance_is : l.h.instance ≡ l.fn.h.instance;
  weight_is : l.h.weight ≡ l.fn.h.weight;
  brought : IsBrought l.fn.h.instance l.fn.h.weight.p l.fn.h.weight.q l.marks l.up l.lot l.fn.h.lots l.h.lots;
}
