use Rattle.std.proofs.Common.{◌≡◌, ◌+◌, ◌*◌, ◌^◌, ◌-◌, fold, min, take}
use Rattle.gap_base.proofs.numeral.number_up_to.Given as goal

abbrev pub invariant-loop-digit : goal.invariant-loop-digit
invariant-loop-digit l = l.number ≡ min (10 ^ 30) (fold (λ n d. n * 10 + (d - 48)) l.fn.from (take l.digit-index l.digits))
