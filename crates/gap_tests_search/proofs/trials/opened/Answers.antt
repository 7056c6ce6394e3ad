use Rattle.std.proofs.Common.{List, subst}
use Rattle.gap_box.specs.declared.cell.Cell.{Cell}
use Rattle.gap_model.specs.Tight.{IsTight}
use Rattle.gap_trials.specs.Small.{small}
use Rattle.gap_tests_search.proofs.trials.opened.Goals as goal

pub new-requires-clause-tight : goal.new-requires-clause-tight
new-requires-clause-tight c = subst (λ (z : List Cell). IsTight (small c.args.small.seed c.args.small.lots) z c.in-Some.placed.leaf) c.root-root.ensures c.in-Some.ensures.fits.tight
