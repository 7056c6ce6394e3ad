use Rattle.std.proofs.Common.{◌≡◌}
use Rattle.gap_search.specs.Boards.{tickets}
use Rattle.gap_search.proofs.EndLaws.{end_is}
use Rattle.gap_search.proofs.search.Search.end.Goals as goal

pub returns : goal.returns
returns g c =
    let z : tickets c.self.inside.held ≡ 0 = rw (← c.self.view_is) at c.requires in
    rw (← c.self.view_is) (end_is _ _ _ _ _ _ c.self.invariant z c.outcome.result c.outcome.ensures)
