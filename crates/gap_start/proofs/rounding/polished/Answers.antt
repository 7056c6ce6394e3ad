use Rattle.std.proofs.Common.{refl}
use Rattle.gap_instance.proofs.LimitLaws.{AreBetween-meets}
use Rattle.gap_start.proofs.rounding.polished.Goals as goal

pub returns-then-not-meets_limits-clause-none : goal.returns-then-not-meets_limits-clause-none
returns-then-not-meets_limits-clause-none c = (
  λ e meets. let yes = c.if-not-meets_limits.ensures.1 meets in cc,
  λ h. refl,
)

pub new-holding-requires : goal.new-holding-requires
new-holding-requires c = AreBetween-meets c.args.inst.now c.args.list.now c.n-assets.ensures.instance (c.if-not-meets_limits.ensures.0 refl)

pub returns-clause-none : goal.returns-clause-none
returns-clause-none c = let met = c.if-not-meets_limits.ensures.0 refl in (λ e. cc, λ h. absurd (h met))
