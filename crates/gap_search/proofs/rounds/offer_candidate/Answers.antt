use Rattle.std.proofs.Common.{◌≡◌, [], refl, ap}
use Rattle.gap_search.specs.Boards.{Board, State}
use Rattle.gap_search.specs.Steps.{offers, with_best, offered}
use Rattle.gap_search.proofs.DrivenLaws.{run_one, driven_run}
use Rattle.gap_search.proofs.rounds.offer_candidate.Goals as goal

pub returns-in-Some-clause-driven : goal.returns-in-Some-clause-driven
returns-in-Some-clause-driven g c =
    let u = c.args.search.now.bound in
    let p = g.B.NodeBound.problem u in
    let e : c.offer-taken.new.self.board ≡ with_best c.args.search.now.board (offered p c.args.search.now.board.best c.in-Some.x) = ap (λ (s : State g.row.B.Denot). s.board) c.offer-taken.ensures.value in
    driven_run (g.G.Guide.allows u) (g.G.Guide.fits u) p c.args.search.now.board c.offer-taken.new.self.board (ap (λ (b : Board). b.nodes) e) (run_one p c.args.search.now.board (offers c.in-Some.x) c.offer-taken.new.self.board e)

pub returns-in_default-clause-best : goal.returns-in_default-clause-best
returns-in_default-clause-best g c = (c.args.search.now.board.best, refl)

pub returns-in_default-clause-driven : goal.returns-in_default-clause-driven
returns-in_default-clause-driven g c =
    let u = c.args.search.now.bound in
    driven_run (g.G.Guide.allows u) (g.G.Guide.fits u) (g.B.NodeBound.problem u) c.args.search.now.board c.args.search.now.board refl ([], refl)
