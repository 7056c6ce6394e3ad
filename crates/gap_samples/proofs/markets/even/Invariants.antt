use Rattle.std.proofs.Common.{◌≡◌}
use Rattle.gap_samples.proofs.markets.even.Given as goal

abbrev pub invariant-loop-i : goal.invariant-loop-i
invariant-loop-i l = l.market.assets ≡ l.n
