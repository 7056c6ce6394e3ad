use Rattle.std.proofs.Common.{◌≡◌, ◌+◌, ◌++◌, drop}
use Rattle.gap_cert.specs.Fields.{entry_bytes}
use Rattle.gap_writer.proofs.numbers.put_lots_entries.Given as goal

abbrev pub invariant-loop-i : goal.invariant-loop-i
invariant-loop-i l = l.out.items ++ entry_bytes 2 (l.i + 1) (drop l.i l.x) ≡ l.fn.out.items ++ entry_bytes 2 1 l.x
