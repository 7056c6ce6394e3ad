-- At most eight bytes spell a number of 64 bits.
use Rattle.std.proofs.Common.{arith, ap, length, ◌≤◌}
use Rattle.std.proofs.lemmas.List.{length-take}
use Rattle.gap_cert.proofs.Numbers.{full_grows, full_8}
use Rattle.gap_scan.proofs.cursor.Cursor.natural.Goals as goal

pub overflow_cast-value : goal.overflow_cast-value
overflow_cast-value c =
    let e = ap length c.in-Some.ensures.some.1 in
    let l : length c.in-Some.bytes.now ≤ 8 = omega (arith, e, length-take c.args.width c.args.self.now.rest) in
    let g = full_grows (length c.in-Some.bytes.now) 8 l in
    let f = full_8 in omega (arith, c.number_of-value.ensures.fits)
