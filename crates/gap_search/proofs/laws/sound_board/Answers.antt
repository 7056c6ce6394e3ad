use Rattle.gap_search.proofs.OpenLaws.{open_leaf_is}
use Rattle.gap_search.proofs.PointLaws.{open_split}
use Rattle.gap_search.proofs.CoverLaws.{once, floor, few, full_most}
use Rattle.gap_search.proofs.laws.sound_board.Goals as goal

pub returns-clause-once : goal.returns-clause-once
returns-clause-once g c = λ bound board x h e. once (g.B.NodeBound.problem bound) (g.met.B.NodeBound.lawful bound) board h x e

pub returns-clause-floor : goal.returns-clause-floor
returns-clause-floor g c = λ bound board least x h k m. floor (g.B.NodeBound.problem bound) (g.met.B.NodeBound.lawful bound) board h least x k m

pub returns-clause-few : goal.returns-clause-few
returns-clause-few g c = λ bound board h. few (g.B.NodeBound.problem bound) (g.met.B.NodeBound.lawful bound) board h

pub returns-clause-full : goal.returns-clause-full
returns-clause-full g c = λ bound board value h e s. full_most (g.B.NodeBound.problem bound) (g.met.B.NodeBound.lawful bound) board h e s.n s.leaf value s.there s.shows

pub returns-clause-held : goal.returns-clause-held
returns-clause-held g c = λ bound board w node h e. h.open_leaves w node e

pub returns-clause-open : goal.returns-clause-open
returns-clause-open g c = λ bound board n o h. open_leaf_is (g.B.NodeBound.problem bound) board h n o

pub returns-clause-split : goal.returns-clause-split
returns-clause-split g c = λ bound board n h o. open_split (g.B.NodeBound.problem bound) _ o.leaf (g.met.B.NodeBound.lawful bound) (open_leaf_is (g.B.NodeBound.problem bound) board h n o)
