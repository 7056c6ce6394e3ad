use Rattle.std.proofs.Common.{pos, refl, arith}
use Rattle.gap_factor.proofs.ColumnLaws.{written_step}
use Rattle.gap_factor.proofs.columns.clear_column.Goals as goal

pub loop-i-preserved : goal.loop-i-preserved
loop-i-preserved c = written_step (λ a. pos 0) c.args.shift.now c.loop-i.shift c.set_r.new.self c.args.j c.loop-i.i (pos 0) (omega arith) (omega arith) c.n-i-end.ensures.shift.factor_length c.loop-i.invariant refl c.set_r.ensures
