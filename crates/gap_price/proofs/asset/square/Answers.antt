use Rattle.std.proofs.Common.{◌≡◌, ◌*◌, pos, ◌*ℤ◌, lit<, ◌∙◌, ap, arith}
use Rattle.std.proofs.lemmas.Int.{ints}
use Rattle.gap_base.proofs.Machine.{mul_is, mul_le, fits_of}
use Rattle.gap_price.proofs.asset.square.Goals as goal

pub returns-clause-value : goal.returns-clause-value
returns-clause-value c =
    let a = c.args.asset.now in
    let s = c.squared.ensures.small in
    let e : c.from.result ≡ pos (c.args.v * c.args.v) = c.from.ensures ∙ ap pos c.squared.ensures.value in
    let f = fits_of a.bend 6400000000000000000000000 a.bend_small (lit< tt) in
    let g = fits_of c.from.result 100000000 (omega (arith, ints)) (lit< tt) in
    mul_is a.bend c.from.result 6400000000000000000000000 100000000 f g a.bend_small (omega (arith, ints)) (lit< tt) ∙ ap (λ z. a.bend *ℤ z) e

pub returns-clause-small : goal.returns-clause-small
returns-clause-small c =
    let a = c.args.asset.now in
    let s = c.squared.ensures.small in
    let f = fits_of a.bend 6400000000000000000000000 a.bend_small (lit< tt) in
    let g = fits_of c.from.result 100000000 (omega (arith, ints)) (lit< tt) in
    mul_le a.bend c.from.result 6400000000000000000000000 100000000 f g a.bend_small (omega (arith, ints)) (lit< tt)
