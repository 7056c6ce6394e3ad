use Rattle.std.proofs.Common.{◌≡◌, suc, ◌-◌, ◌++◌, map}
use Rattle.std.specs.List.{range_with_len}
use Rattle.gap_base.specs.Markets.{rho_of}
use Rattle.gap_writer.specs.HeadBytes.{numbers_bytes}
use Rattle.gap_writer.proofs.heads.put_pairs.Given as goal

abbrev pub invariant-loop-j : goal.invariant-loop-j
invariant-loop-j l = l.out.items ≡ l.fn.out.items ++ numbers_bytes 4 (map (rho_of l.inst.market l.fn.i) (range_with_len (suc l.fn.i) (l.j - suc l.fn.i)))
