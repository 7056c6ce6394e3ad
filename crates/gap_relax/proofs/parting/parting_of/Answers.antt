use Rattle.std.proofs.Common.{◌≤◌, length, ℤ, pos, neg_ℤ, ◌≤ℤ◌, unsigned_abs, FitsSigned, arith}
use Rattle.std.proofs.lemmas.Int.{ints, to_z-of_z}
use Rattle.std.specs.Int.{w128}
use Rattle.gap_base.specs.Sums.{at}
use Rattle.gap_relax.proofs.PartingLaws.{parted_up, parted_here, parted_down, parted_none}
use Rattle.gap_relax.proofs.parting.parting_of.Goals as goal

pub returns-then-negative-fewest : goal.returns-then-negative-fewest
returns-then-negative-fewest c =
    let fit : FitsSigned w128 c.nth_least.result = record { sfits = c.nth_least.type_inv } in
    let e = c.count_below-negative.ensures.count in
    simp to_z-of_z (parted_up (length c.args.numbers.now) c.args.fewest c.args.most (at c.args.numbers.now) c.nth_least.result c.requires.order (omega (arith, c.if-negative-fewest.true)) c.nth_least.ensures)

pub returns-then-negative-most : goal.returns-then-negative-most
returns-then-negative-most c = parted_here (length c.args.numbers.now) c.args.fewest c.args.most (at c.args.numbers.now) c.count_below-negative.result c.count_below-negative.ensures.count c.if-negative-fewest.false c.if-negative-most.true

low : (z : ℤ) → unsigned_abs z ≤ 60000000000000000000000000000000000 → neg_ℤ (pos 60000000000000000000000000000000000) ≤ℤ z
low z h = omega (arith, ints)

pub returns-then-most-eq0 : goal.returns-then-most-eq0
returns-then-most-eq0 c = parted_none (length c.args.numbers.now) c.args.fewest c.args.most (at c.args.numbers.now) (neg_ℤ (pos 60000000000000000000000000000000000)) c.requires.order c.if-most-eq0.true (omega (arith, ints)) (λ i l. low (at c.args.numbers.now i) (c.requires.numbers i l))

pub returns : goal.returns
returns c =
    let fit : FitsSigned w128 c.nth_least-2.result = record { sfits = c.nth_least-2.type_inv } in
    let e = c.count_below-negative.ensures.count in
    simp to_z-of_z (parted_down (length c.args.numbers.now) c.args.fewest c.args.most (at c.args.numbers.now) c.nth_least-2.result c.requires.order (omega (arith, c.if-negative-most.false)) c.nth_least-2.ensures)
