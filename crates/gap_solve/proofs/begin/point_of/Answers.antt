use Rattle.std.proofs.Common.{List, ℕ, sym, subst}
use Rattle.gap_model.specs.Leaves.{IsPoint}
use Rattle.gap_solve.proofs.FloorLaws.{list_point}
use Rattle.gap_solve.proofs.begin.point_of.Goals as goal

pub returns-in-Some-clause-point : goal.returns-in-Some-clause-point
returns-in-Some-clause-point c = subst (λ (y : List ℕ). IsPoint c.args.inst.now y) (sym c.of.ensures) (list_point c.args.inst.now c.in-Some.x (c.requires c.in-Some.x c.in-Some.is))
