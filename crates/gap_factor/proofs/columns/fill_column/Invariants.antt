use Rattle.gap_instance.specs.Objective.{cov_of}
use Rattle.gap_psd.specs.Shifts.{r_of}
use Rattle.gap_psd.specs.Factors.{wanted}
use Rattle.gap_factor.specs.Columns.{IsWritten, AreSmallBelow}
use Rattle.gap_factor.proofs.columns.fill_column.Given as goal

abbrev pub invariant-loop-i : goal.invariant-loop-i
invariant-loop-i l = record {
  so_far : IsWritten (wanted (cov_of l.inst.market) (r_of l.fn.shift) l.j) l.fn.shift l.shift l.j l.i;
  small : AreSmallBelow (wanted (cov_of l.inst.market) (r_of l.fn.shift) l.j) l.i;
}
