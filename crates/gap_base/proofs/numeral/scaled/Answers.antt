use Rattle.std.proofs.Common.{◌*◌, ◌^◌, ◌-◌, sym, ◌∙◌, true, arith}
use Rattle.gap_base.proofs.NumeralLaws.{quotient_up, quotient_down, capped_alike}
use Rattle.gap_base.proofs.numeral.scaled.Goals as goal

-- src/numeral.rt:79:9
pub returns-then-down-up : goal.returns-then-down-up
returns-then-down-up c =
    c.capped.ensures
    ∙ capped_alike c.args.negative c.times.result (c.args.size * 10 ^ (c.args.up - c.args.down)) true c.times.ensures.same
    ∙ sym (quotient_up c.args.negative c.args.size c.args.up c.args.down (omega arith))

-- src/numeral.rt:74:1
pub returns : goal.returns
returns c = c.over.ensures ∙ sym (quotient_down c.args.negative c.args.size c.args.up c.args.down (omega arith))
