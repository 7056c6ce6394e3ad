use Rattle.std.proofs.Common.{◌≡◌, ◌+◌, ◌*◌, ◌-◌, fold, min, take}
use Rattle.gap_orlib.proofs.whole.number_up_to.Given as goal

abbrev pub invariant-loop-digit : goal.invariant-loop-digit
invariant-loop-digit l = l.number ≡ min 1000 (fold (λ n d. n * 10 + (d - 48)) 0 (take l.digit-index l.digits))
