use Rattle.std.proofs.Common.{◌≡◌, ℤ, pos, ◌≤ℤ◌, arith, ◌∙◌}
use Rattle.gap_base.specs.Sums.{at}
use Rattle.gap_instance.specs.Objective.{cov_of}
use Rattle.gap_instance.proofs.ObjectiveLaws.{cov_of-symmetric}
use Rattle.gap_psd.specs.Shifts.{shifted}
use Rattle.gap_psd.proofs.FormLaws.{form_rows}
use Rattle.gap_psd.proofs.ShiftLaws.{semi_everywhere_of_shift}
use Rattle.gap_psd.proofs.quadratic.form.Goals as goal

pub returns-clause-value : goal.returns-clause-value
returns-clause-value c = let whole : c.loop-i.i ≡ c.args.shift.now.assets = omega arith in (rw whole at c.loop-i.invariant.sum_so_far) ∙ form_rows c.args.shift.now.assets (shifted (cov_of c.args.inst.now.market) c.args.shift.now) (at c.args.v.now) (at c.args.v.now)

pub returns-clause-not_negative : goal.returns-clause-not_negative
returns-clause-not_negative c = λ d.
    let whole : c.loop-i.i ≡ c.args.shift.now.assets = omega arith in
    let value = (rw whole at c.loop-i.invariant.sum_so_far) ∙ form_rows c.args.shift.now.assets (shifted (cov_of c.args.inst.now.market) c.args.shift.now) (at c.args.v.now) (at c.args.v.now) in
    let m = c.n-i-end.ensures.instance.market_is in
    rw value (semi_everywhere_of_shift (cov_of c.args.inst.now.market) c.args.shift.now (λ i j p q. cov_of-symmetric c.args.inst.now.market m i j (omega arith) (omega arith)) d (at c.args.v.now))
