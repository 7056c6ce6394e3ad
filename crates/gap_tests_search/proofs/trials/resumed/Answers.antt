use Rattle.std.proofs.Common.{◌≡◌, ℕ, List, Some, sym, ◌∙◌, subst}
use Rattle.gap_model.specs.declared.leaf.Leaf.{Leaf}
use Rattle.gap_model.specs.Nodes.{Node, part_at, leaf_at}
use Rattle.gap_search.specs.Boards.{FitsPart, IsSound}
use Rattle.gap_trials.specs.declared.small.Small.{Small}
use Rattle.gap_trials.specs.Small.{small}
use Rattle.gap_tests_search.proofs.trials.resumed.Goals as goal

pub from_tree-requires-clause-leaves : goal.from_tree-requires-clause-leaves
from_tree-requires-clause-leaves c =
    let s = subst (λ (b : Small). IsSound (small b.seed b.lots) c.drive.new.search.board) (c.drive.ensures.same.bound_is ∙ c.in_ok-search.ensures.bound) c.inner-before.ensures.sound in
    subst (λ (nodes : List Node). (n : ℕ) (leaf : Leaf) → leaf_at nodes n ≡ Some leaf → FitsPart (small c.args.small.seed c.args.small.lots) (part_at nodes n) leaf) (sym c.into_tree-tree.ensures.nodes) s.leaves
