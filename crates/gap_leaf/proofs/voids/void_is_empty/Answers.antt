use Rattle.std.proofs.Common.{ap, ◌∙◌}
use Rattle.std.proofs.lemmas.Int.{to_z-of_z}
use Rattle.gap_leaf.specs.Voids.{is_empty, is_void_empty}
use Rattle.gap_leaf.proofs.voids.void_is_empty.Goals as goal

pub returns : goal.returns
unfolding is_void_empty
returns c =
    let fa = c.ranges.alpha in
    let ft = c.ranges.tau in
    c.says_empty.ensures ∙ ap is_empty (simp to_z-of_z at c.shown.ensures)
