use Rattle.std.proofs.Common.{◌≡◌, ◌≤ℤ◌, arith, below_more, sym, ◌∙◌, ap}
use Rattle.std.proofs.lemmas.Int.{ints}
use Rattle.gap_instance.specs.Objective.{cov_of}
use Rattle.gap_instance.proofs.ObjectiveLaws.{cov_of-symmetric}
use Rattle.gap_psd.specs.Forms.{others}
use Rattle.gap_psd.specs.Shifts.{rest}
use Rattle.gap_psd.proofs.ShiftLaws.{semi_of_shift}
use Rattle.gap_psd.proofs.dominance.dominant.Goals as goal

pub loop-i-preserved : goal.loop-i-preserved
loop-i-preserved c = below_more _ _ c.loop-i.invariant (omega (arith, ints))

pub returns-clause-semidefinite : goal.returns-clause-semidefinite
returns-clause-semidefinite c = λ _. let whole : c.loop-i.i ≡ c.args.shift.now.assets = omega arith in let m = c.n-i-end.ensures.instance.market_is in semi_of_shift (cov_of c.args.inst.now.market) c.args.shift.now (λ i j p q. cov_of-symmetric c.args.inst.now.market m i j (omega arith) (omega arith)) (rw whole at c.loop-i.invariant)
