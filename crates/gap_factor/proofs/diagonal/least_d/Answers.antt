use Rattle.std.proofs.Common.{arith, FitsSigned, ◌-ℤ◌}
use Rattle.std.proofs.lemmas.Int.{to_z-of_z, fits_signed_from_abs}
use Rattle.std.specs.Int.{w128}
use Rattle.gap_instance.specs.Objective.{cov_of}
use Rattle.gap_factor.proofs.LeastLaws.{least_of_row, difference_fits}
use Rattle.gap_factor.proofs.diagonal.least_d.Goals as goal

pub returns-clause-least : goal.returns-clause-least
returns-clause-least c =
    let others : FitsSigned w128 c.row_of-told.result.others = fits_signed_from_abs w128 c.row_of-told.result.others (omega arith) in
    let diagonal : FitsSigned w128 c.row_of-told.result.diagonal = fits_signed_from_abs w128 c.row_of-told.result.diagonal (omega arith) in
    let short : FitsSigned w128 (c.row_of-told.result.others -ℤ c.row_of-told.result.diagonal) = difference_fits c.row_of-told.result.others c.row_of-told.result.diagonal c.row_of-told.ensures.small_others c.row_of-told.ensures.small_diagonal in
    let least : FitsSigned w128 c.least_step.result = fits_signed_from_abs w128 c.least_step.result (omega arith) in
    let step = simp to_z-of_z at c.least_step.ensures.step in
    simp to_z-of_z (least_of_row (cov_of c.args.inst.now.market) c.args.shift.now c.args.i c.row_of-told.result.others c.row_of-told.result.diagonal c.least_step.result c.row_of-told.ensures.others_are c.row_of-told.ensures.diagonal_is c.requires.none step)
