use Rattle.std.proofs.Common.{FitsSigned, rules}
use Rattle.std.proofs.lemmas.Int.{to_z-of_z}
use Rattle.std.specs.Int.{w128}
use Rattle.gap_relax.proofs.WayLaws.{way_choice, no_slopes}
use Rattle.gap_relax.proofs.ways.least_within.Goals as goal

pub least_with_slope-requires-clause-held_flat : goal.least_with_slope-requires-clause-held_flat
least_with_slope-requires-clause-held_flat c = λ k h. no_slopes c.from.result 256 k 20000

pub least_with_slope-requires-clause-out_flat : goal.least_with_slope-requires-clause-out_flat
least_with_slope-requires-clause-out_flat c = λ k h. no_slopes c.from.result 256 k 20000

pub returns-in-Some-clause-some : goal.returns-in-Some-clause-some
returns-in-Some-clause-some c =
    let q = c.in-Some.chosen in
    let fit : FitsSigned w128 q.value = search rules in
    simp to_z-of_z (way_choice _ _ _ _ _ _ _ q.value q.slope c.in-Some.ensures.some)
