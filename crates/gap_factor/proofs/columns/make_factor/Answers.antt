use Rattle.std.proofs.Common.{arith}
use Rattle.gap_instance.specs.Objective.{cov_of}
use Rattle.gap_factor.proofs.ColumnLaws.{rounded_step}
use Rattle.gap_factor.proofs.columns.make_factor.Goals as goal

pub loop-j-preserved : goal.loop-j-preserved
loop-j-preserved c = rounded_step (cov_of c.args.inst.now.market) c.args.shift.now c.loop-j.shift c.make_column.new.shift c.loop-j.j (omega arith) c.loop-j.invariant c.make_column.ensures.kept c.make_column.ensures.rounded
