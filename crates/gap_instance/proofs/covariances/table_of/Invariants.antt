use Rattle.std.proofs.Common.{◌*◌}
use Rattle.gap_instance.specs.Tables.{IsTableBefore}
use Rattle.gap_instance.proofs.covariances.table_of.Given as goal

abbrev pub invariant-loop-i : goal.invariant-loop-i
invariant-loop-i l = IsTableBefore l.market (l.i * l.market.assets) l.table.items
