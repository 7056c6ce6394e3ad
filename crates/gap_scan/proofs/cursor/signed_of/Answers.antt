-- Above half, a number stands for itself less the whole range.
use Rattle.std.proofs.Common.{arith, sym, ◌∙◌, ◌≤◌}
use Rattle.gap_cert.proofs.Numbers.{taken, signed_below_zero, full_twice}
use Rattle.gap_scan.proofs.cursor.signed_of.Goals as goal

pub returns-else-raw-half : goal.returns-else-raw-half
returns-else-raw-half c =
    let h = c.half_of-half.result in
    let one : 1 ≤ c.args.width = omega arith in
    let t = full_twice c.args.width one in
    taken c.args.raw h c.half_of-half.ensures.positive c.half_of-half.ensures.small c.if-raw-half.false (omega (arith, t, c.half_of-half.ensures.value))
    ∙ sym (signed_below_zero c.args.width c.args.raw h c.requires.fits c.half_of-half.ensures.value one c.if-raw-half.false)
