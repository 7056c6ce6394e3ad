use Rattle.std.proofs.Common.{◌^◌, min, arith, ◌∙◌, ap, Ok}
use Rattle.gap_base.proofs.NumeralParts.{valued_many, valued_exponent, valued_ok}
use Rattle.gap_base.proofs.NumeralLaws.{value_behind}
use Rattle.gap_base.specs.NumeralViews.{parts_view}
use Rattle.gap_base.proofs.numeral.valued.Goals as goal

-- src/numeral.rt:107:9
pub returns-then-size-ge-GREATEST : goal.returns-then-size-ge-GREATEST
returns-then-size-ge-GREATEST c =
    valued_many c.number_up_to-size.result (parts_view c.args.p.now)
    (c.number_up_to-size.ensures ∙ ap (λ n. min (10 ^ 30) (value_behind n c.args.p.now.fraction.now)) c.number_up_to.ensures) (omega arith)

-- src/numeral.rt:111:9
pub returns-then-power-gt40 : goal.returns-then-power-gt40
returns-then-power-gt40 c =
    valued_exponent c.number_up_to-size.result c.number_up_to-power.result (parts_view c.args.p.now)
    (c.number_up_to-size.ensures ∙ ap (λ n. min (10 ^ 30) (value_behind n c.args.p.now.fraction.now)) c.number_up_to.ensures) (omega arith)
    c.number_up_to-power.ensures (omega arith)

-- src/numeral.rt:101:1
pub returns : goal.returns
returns c = λ digits.
    ap Ok (rw (← c.up-over_line.ensures, ← c.down-under_line.ensures) c.scaled.ensures)
    ∙ valued_ok c.number_up_to-size.result c.number_up_to-power.result (parts_view c.args.p.now)
    (c.number_up_to-size.ensures ∙ ap (λ n. min (10 ^ 30) (value_behind n c.args.p.now.fraction.now)) c.number_up_to.ensures) (omega arith)
    c.number_up_to-power.ensures (omega arith) digits
