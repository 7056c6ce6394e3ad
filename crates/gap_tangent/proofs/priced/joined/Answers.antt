use Rattle.std.proofs.Common.{◌≡◌, ◌+◌, ◌*◌, ◌≤◌, ℤ, ◌+ℤ◌, ◌-ℤ◌, unsigned_abs, lit<, sym, subst, arith}
use Rattle.std.proofs.lemmas.Int.{ints}
use Rattle.gap_price.proofs.Arithmetic.{difference_and}
use Rattle.gap_tangent.proofs.priced.joined.Goals as goal

three_size : (f l k : ℤ) → unsigned_abs f + unsigned_abs l ≤ 3180000000000000000000000000000000000 → unsigned_abs k ≤ 256 * 23000000000000000000000000000000000 → unsigned_abs ((f -ℤ l) +ℤ k) ≤ 9100000000000000000000000000000000000
three_size f l k h g = omega (arith, ints)

pub returns-clause-value : goal.returns-clause-value
returns-clause-value c = let h = c.requires.fixed in difference_and c.args.fixed c.args.limited c.args.cost 6000000000000000000000000000000000000 (omega arith) (omega arith) (let k = c.requires.cost in omega arith) (lit< tt)

pub returns-clause-small : goal.returns-clause-small
returns-clause-small c =
    let h = c.requires.fixed in
    let e = difference_and c.args.fixed c.args.limited c.args.cost 6000000000000000000000000000000000000 (omega arith) (omega arith) (let k = c.requires.cost in omega arith) (lit< tt) in
    subst (λ (z : ℤ). unsigned_abs z ≤ 9100000000000000000000000000000000000) (sym e) (three_size c.args.fixed c.args.limited c.args.cost c.requires.fixed c.requires.cost)
