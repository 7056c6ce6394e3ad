use Rattle.std.proofs.Common.{refl}
use Rattle.gap_search.proofs.BarrenLaws.{root_tight}
use Rattle.gap_tests_search.proofs.barren.opened.Goals as goal

pub new-requires-clause-tight : goal.new-requires-clause-tight
new-requires-clause-tight c = root_tight _ refl
