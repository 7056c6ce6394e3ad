use Rattle.std.proofs.Common.{◌≤◌, ◌+ℤ◌, ◌-ℤ◌, ap, arith, lit<, unsigned_abs, w32}
use Rattle.std.proofs.lemmas.Int.{ints, to_z-of_z}
use Rattle.std.specs.Int.{w128}
use Rattle.gap_base.proofs.Machine.{back_of}
use Rattle.gap_objective.proofs.terms.steepness.Goals as goal

pub returns-clause-value : goal.returns-clause-value
returns-clause-value c =
    let to = to_z-of_z w128 c.args.to c.ranges.to in
    let from = to_z-of_z w128 c.args.from c.ranges.from in
    let a = c.requires.to in
    let b = c.requires.from in
    let d = c.bent.ensures.small in
    let apart : unsigned_abs (c.args.to -ℤ c.args.from) ≤ 4000000000000000000000000000 = omega (arith, ints) in
    let whole : unsigned_abs ((c.args.to -ℤ c.args.from) +ℤ c.bent.result) ≤ 5000000000000000000000000000 = omega (arith, ints) in
    let bend = to_z-of_z w128 c.args.bend c.ranges.bend in
    let moved = to_z-of_z w32 c.args.moved c.ranges.moved in
    let value = rw (bend, moved) at c.bent.ensures.value in
    rw (to, from, back_of (c.args.to -ℤ c.args.from) 4000000000000000000000000000 apart (lit< tt), back_of c.bent.result 10200000000000000000000000 d (lit< tt), back_of ((c.args.to -ℤ c.args.from) +ℤ c.bent.result) 5000000000000000000000000000 whole (lit< tt))
    (ap (λ z. (c.args.to -ℤ c.args.from) +ℤ z) value)

pub returns-clause-small : goal.returns-clause-small
returns-clause-small c =
    let to = to_z-of_z w128 c.args.to c.ranges.to in
    let from = to_z-of_z w128 c.args.from c.ranges.from in
    let a = c.requires.to in
    let b = c.requires.from in
    let d = c.bent.ensures.small in
    let apart : unsigned_abs (c.args.to -ℤ c.args.from) ≤ 4000000000000000000000000000 = omega (arith, ints) in
    let whole : unsigned_abs ((c.args.to -ℤ c.args.from) +ℤ c.bent.result) ≤ 5000000000000000000000000000 = omega (arith, ints) in
    rw (to, from, back_of (c.args.to -ℤ c.args.from) 4000000000000000000000000000 apart (lit< tt), back_of c.bent.result 10200000000000000000000000 d (lit< tt), back_of ((c.args.to -ℤ c.args.from) +ℤ c.bent.result) 5000000000000000000000000000 whole (lit< tt)) whole
