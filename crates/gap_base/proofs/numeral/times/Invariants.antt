use Rattle.std.proofs.Common.{◌≡◌, ◌+◌, ◌*◌, ◌^◌, ◌≤◌, min}
use Rattle.gap_base.proofs.numeral.times.Given as goal

abbrev pub invariant-loop : goal.invariant-loop
invariant-loop l = (l.product ≤ 10 ^ 31) × (min (10 ^ 30 + 1) l.product ≡ min (10 ^ 30 + 1) (l.fn.size * 10 ^ l.counter))
