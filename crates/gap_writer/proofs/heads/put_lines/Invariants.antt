use Rattle.std.proofs.Common.{◌≡◌, ◌++◌, map}
use Rattle.std.specs.List.{range_with_len}
use Rattle.gap_valid.specs.HeadOf.{asset_line}
use Rattle.gap_writer.specs.HeadBytes.{lines_bytes}
use Rattle.gap_writer.proofs.heads.put_lines.Given as goal

abbrev pub invariant-loop-i : goal.invariant-loop-i
invariant-loop-i l = l.out.items ≡ l.fn.out.items ++ lines_bytes (map (asset_line l.inst) (range_with_len 0 l.i))
