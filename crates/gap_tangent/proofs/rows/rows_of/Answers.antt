use Rattle.std.proofs.Common.{◌≡◌, ℕ, pos, ◌+ℤ◌, ◌*ℤ◌, subst, arith}
use Rattle.gap_base.specs.Sums.{at}
use Rattle.gap_instance.specs.Objective.{cov_of}
use Rattle.gap_tangent.proofs.RowLaws.{eighths_most, rows_none, rows_more, rows_all, zeros_at}
use Rattle.gap_tangent.proofs.rows.rows_of.Goals as goal

pub loop-j-init : goal.loop-j-init
loop-j-init c = rows_none c.args.inst.now.market c.args.y.now _ (zeros_at 256)

pub loop-j-preserved : goal.loop-j-preserved
loop-j-preserved c =
    let is = c.n-j-end.ensures.instance in
    rows_more c.args.inst.now.market c.args.y.now c.loop-j.j c.loop-j.rows c.add_eighths.new.rows is.market_is (eighths_most c.args.inst.now c.args.y.now c.loop-j.j is c.requires) c.loop-j.invariant (λ i l. subst (λ (v : ℕ). at c.add_eighths.new.rows i ≡ at c.loop-j.rows i +ℤ cov_of c.args.inst.now.market i c.loop-j.j *ℤ pos v) c.get.ensures.or_zero (c.add_eighths.ensures i l))

pub add_eighths-requires : goal.add_eighths-requires
add_eighths-requires c =
    let e = c.get.ensures.or_zero in
    let m = eighths_most c.args.inst.now c.args.y.now c.loop-j.j c.n-j-end.ensures.instance c.requires in
    record { there = omega arith; eighths = omega arith; small = c.loop-j.invariant.small }

pub returns : goal.returns
returns c = rows_all c.args.inst.now c.args.y.now c.loop-j.j c.loop-j.rows c.n-j-end.ensures.instance c.requires (omega arith) c.loop-j.invariant
