use Rattle.std.proofs.Common.{FitsSigned}
use Rattle.std.proofs.lemmas.Int.{to_z-of_z}
use Rattle.std.specs.Int.{w128}
use Rattle.gap_model.proofs.LeafLaws.{sixty_fourth_from}
use Rattle.gap_model.proofs.shown.sixty_fourth.Goals as goal

pub returns : goal.returns
returns c =
    let ft = c.ranges.theta in
    let f : FitsSigned w128 c.ceil_div64.result = record { sfits = c.ceil_div64.type_inv } in
    let a = simp to_z-of_z at c.ceil_div64.ensures.reached in
    let b = simp to_z-of_z at c.ceil_div64.ensures.least in
    simp to_z-of_z (sixty_fourth_from c.args.theta c.ceil_div64.result a b)
