use Rattle.std.proofs.Common.{◌≡◌, ◌*◌, ◌≤◌, pos, unsigned_abs, lit<, arith}
use Rattle.std.proofs.lemmas.Int.{ints}
use Rattle.gap_base.proofs.Machine.{mul_le, fits_of}
use Rattle.gap_tangent.proofs.priced.limited.Goals as goal

pub returns-clause-small : goal.returns-clause-small
returns-clause-small c =
    let fm = c.ranges.multiplier in
    let e : c.from.result ≡ pos c.args.limit = c.from.ensures in
    let s : unsigned_abs c.from.result ≤ c.args.limit = rw e (omega (arith, ints)) in
    let k = c.requires.limit in
    let g = fits_of c.from.result 3000000 (omega arith) (lit< tt) in
    mul_le c.args.multiplier c.from.result 1000000000000000000000000000000 c.args.limit fm g c.requires.multiplier s (omega arith)
