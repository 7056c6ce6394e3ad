use Rattle.std.proofs.Common.{ap}
use Rattle.std.specs.Option.{option_copied}
use Rattle.gap_solve.proofs.begin.first_list.Goals as goal

pub polished_list-requires : goal.polished_list-requires
polished_list-requires c = c.requires c.in-Some.x.now (ap option_copied c.in-Some.is)
