use Rattle.std.proofs.Common.{◌≤◌, FitsSigned, ℤ, pos, ◌-ℤ◌, ◌*ℤ◌, unsigned_abs, lit<, ◌∙◌, ap, subst, sym, rules, arith}
use Rattle.std.proofs.lemmas.Int.{ints, to_z-of_z}
use Rattle.std.specs.Int.{w128}
use Rattle.gap_price.proofs.Arithmetic.{difference_back}
use Rattle.gap_price.proofs.OneAsset.{bow_factored}
use Rattle.gap_price.proofs.ends.cost_of.Goals as goal

small : (a b : ℤ) → unsigned_abs a ≤ 2202000000000000000000000000000 → unsigned_abs b ≤ 128000000000000000000000000000 → unsigned_abs (a -ℤ b) ≤ 2400000000000000000000000000000
small a b h k = omega (arith, ints)

pub priced-requires-clause-price : goal.priced-requires-clause-price
priced-requires-clause-price c =
    let a = c.args.plain.now in
    let s = c.bent.ensures.small in
    let e = difference_back a.line c.bent.result 2202000000000000000000000000000 a.line_small (omega arith) (lit< tt) in
    subst (λ (z : ℤ). unsigned_abs z ≤ 2400000000000000000000000000000) (sym e) (small a.line c.bent.result a.line_small s)

pub returns : goal.returns
returns c =
    let a = c.args.plain.now in
    let s = c.bent.ensures.small in
    let e = difference_back a.line c.bent.result 2202000000000000000000000000000 a.line_small (omega arith) (lit< tt) in
    let f : FitsSigned w128 c.priced.result = search rules in
    simp to_z-of_z (c.priced.ensures ∙ ap (λ z. z *ℤ pos c.args.v) (e ∙ ap (λ z. a.line -ℤ z) c.bent.ensures.value) ∙ bow_factored a.line a.bend (pos c.args.v))
