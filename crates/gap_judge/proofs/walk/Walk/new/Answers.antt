-- No level is above the root.
use Rattle.std.proofs.Common.{List, ◌∷◌, ap}
use Rattle.gap_box.specs.declared.cell.Cell.{Cell}
use Rattle.gap_judge.proofs.WalkLaws.{climb_end}
use Rattle.gap_judge.proofs.walk.Walk.new.Goals as goal

pub returns : goal.returns
returns c = ap (λ (l : List (List Cell)). c.args.root ∷ l) (climb_end c.args.root c.new.result.items c.new.ensures.items)
