use Rattle.std.proofs.Common.{refl}
use Rattle.gap_sweep.proofs.carried.Carried.go_behind.Goals as goal

pub keep-requires : goal.keep-requires
keep-requires c = c.requires c.in-Some.best.now (rw c.in-Some.is refl)
