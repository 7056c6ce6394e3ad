use Rattle.gap_sweep.proofs.SpellLaws.{leaves_cut}
use Rattle.gap_sweep.proofs.laws.stops_leave_fronts.Goals as goal

pub returns : goal.returns
returns c = λ asked name f s g t halt runs. leaves_cut asked name f s g t runs.solves
