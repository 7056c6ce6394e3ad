use Rattle.gap_instance.specs.Objective.{cov_of}
use Rattle.gap_base.specs.Sums.{at}
use Rattle.gap_tangent.proofs.RowLaws.{nothing_added}
use Rattle.gap_tangent.proofs.rows.add_eighths.Goals as goal

pub returns-then-eighths-eq0 : goal.returns-then-eighths-eq0
returns-then-eighths-eq0 c = λ i l. nothing_added (at c.args.rows.now i) (cov_of c.args.inst.now.market i c.args.j) c.args.eighths c.if-eighths-eq0.true
