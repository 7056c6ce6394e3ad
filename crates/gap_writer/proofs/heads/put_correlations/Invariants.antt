use Rattle.std.proofs.Common.{◌≡◌, ◌++◌}
use Rattle.gap_base.specs.Markets.{rho_of}
use Rattle.gap_valid.specs.HeadOf.{pairs_below}
use Rattle.gap_writer.specs.HeadBytes.{numbers_bytes}
use Rattle.gap_writer.proofs.heads.put_correlations.Given as goal

abbrev pub invariant-loop-i : goal.invariant-loop-i
invariant-loop-i l = l.out.items ≡ l.fn.out.items ++ numbers_bytes 4 (pairs_below l.inst.market.assets (rho_of l.inst.market) l.i)
