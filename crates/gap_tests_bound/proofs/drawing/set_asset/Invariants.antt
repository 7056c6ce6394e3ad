use Rattle.std.proofs.Common.{◌≡◌}
use Rattle.gap_tests_bound.proofs.drawing.set_asset.Given as goal

abbrev pub invariant-loop-j : goal.invariant-loop-j
invariant-loop-j l = l.market.assets ≡ l.fn.market.assets
