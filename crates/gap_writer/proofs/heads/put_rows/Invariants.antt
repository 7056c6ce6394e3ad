use Rattle.std.proofs.Common.{◌≡◌, ◌++◌}
use Rattle.gap_psd.specs.Shifts.{r_of}
use Rattle.gap_valid.specs.HeadOf.{rows_below}
use Rattle.gap_writer.specs.HeadBytes.{numbers_bytes}
use Rattle.gap_writer.proofs.heads.put_rows.Given as goal

abbrev pub invariant-loop-i : goal.invariant-loop-i
invariant-loop-i l = l.out.items ≡ l.fn.out.items ++ numbers_bytes 8 (rows_below (r_of l.shift) l.i)
