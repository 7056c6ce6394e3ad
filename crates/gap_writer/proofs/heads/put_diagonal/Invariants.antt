use Rattle.std.proofs.Common.{◌≡◌, ◌++◌, take}
use Rattle.gap_writer.specs.HeadBytes.{numbers_bytes}
use Rattle.gap_writer.proofs.heads.put_diagonal.Given as goal

abbrev pub invariant-loop-i : goal.invariant-loop-i
invariant-loop-i l = l.out.items ≡ l.fn.out.items ++ numbers_bytes 16 (take l.i l.shift.diagonal)
