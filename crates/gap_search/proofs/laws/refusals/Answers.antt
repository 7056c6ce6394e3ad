use Rattle.gap_search.proofs.CoverLaws.{refused_granted, closed_refuses, full_refuses, full_closes}
use Rattle.gap_search.proofs.laws.refusals.Goals as goal

pub returns-clause-apart : goal.returns-clause-apart
returns-clause-apart g c = λ bound board w node r k. refused_granted (g.B.NodeBound.problem bound) board w node r k

pub returns-clause-closed : goal.returns-clause-closed
returns-clause-closed g c = λ bound board w best e. closed_refuses (g.B.NodeBound.problem bound) board w best e

pub returns-clause-full : goal.returns-clause-full
returns-clause-full g c = λ bound board w h e. full_refuses (g.B.NodeBound.problem bound) (g.met.B.NodeBound.lawful bound) board w h e

pub returns-clause-full_end : goal.returns-clause-full_end
returns-clause-full_end g c = λ bound board best value h e k. full_closes (g.B.NodeBound.problem bound) (g.met.B.NodeBound.lawful bound) board best value h e k
