use Rattle.std.proofs.Common.{◌+◌, ◌*◌}
use Rattle.gap_instance.specs.Tables.{IsTableBefore}
use Rattle.gap_instance.proofs.covariances.push_row.Given as goal

abbrev pub invariant-loop-j : goal.invariant-loop-j
invariant-loop-j l = IsTableBefore l.market (l.i * l.market.assets + l.j) l.table.items
