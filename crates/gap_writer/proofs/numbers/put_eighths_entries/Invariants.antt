use Rattle.std.proofs.Common.{◌≡◌, ◌+◌, ◌++◌, drop}
use Rattle.gap_cert.specs.Fields.{entry_bytes}
use Rattle.gap_writer.proofs.numbers.put_eighths_entries.Given as goal

abbrev pub invariant-loop-i : goal.invariant-loop-i
invariant-loop-i l = l.out.items ++ entry_bytes 4 (l.i + 1) (drop l.i l.y) ≡ l.fn.out.items ++ entry_bytes 4 1 l.y
