use Rattle.std.proofs.Common.{◌<◌, length, Option, sym, ◌∙◌, subst, arith}
use Rattle.gap_box.specs.declared.node.NodeId.{NodeId}
use Rattle.gap_search.specs.Boards.{Board, tickets}
use Rattle.gap_search.specs.Steps.{claims, ticket_of, Claim}
use Rattle.gap_search.proofs.DrivenLaws.{run_one}
use Rattle.gap_search.proofs.TurnLaws.{claim_some, claim_nodes, claim_places, claim_budget}
use Rattle.gap_search.proofs.rounds.claim_next.Goals as goal

pub returns-in-Some-clause-same : goal.returns-in-Some-clause-same
returns-in-Some-clause-same g c = record { bound_is = c.take.ensures.bound; workers_is = c.take.ensures.workers; budget_is = claim_budget _ _ _ _ _ c.take.ensures.step }

pub returns-in-None-clause-same : goal.returns-in-None-clause-same
returns-in-None-clause-same g c = record { bound_is = c.take.ensures.bound; workers_is = c.take.ensures.workers; budget_is = claim_budget _ _ _ _ _ c.take.ensures.step }

pub returns-in-Some-clause-places : goal.returns-in-Some-clause-places
returns-in-Some-clause-places g c = claim_places _ _ _ _ _ c.take.ensures.step ∙ c.requires.places

pub returns-in-None-clause-places : goal.returns-in-None-clause-places
returns-in-None-clause-places g c = claim_places _ _ _ _ _ c.take.ensures.step ∙ c.requires.places

pub returns-in-Some-clause-nodes : goal.returns-in-Some-clause-nodes
returns-in-Some-clause-nodes g c = claim_nodes _ _ _ _ _ c.take.ensures.step

pub returns-in-None-clause-nodes : goal.returns-in-None-clause-nodes
returns-in-None-clause-nodes g c = claim_nodes _ _ _ _ _ c.take.ensures.step

pub returns-in-Some-clause-run : goal.returns-in-Some-clause-run
returns-in-Some-clause-run g c =
    let l : c.args.worker < length c.args.search.now.board.held = let a = c.requires.places in let b = c.requires.worker in let d = c.workers-workers.ensures.most in omega arith in
    run_one _ _ (claims c.args.worker (ticket_of c.args.search.now.board.nodes c.args.worker c.take.result)) _ (l, c.take.ensures.step)

pub returns-in-None-clause-run : goal.returns-in-None-clause-run
returns-in-None-clause-run g c =
    let l : c.args.worker < length c.args.search.now.board.held = let a = c.requires.places in let b = c.requires.worker in let d = c.workers-workers.ensures.most in omega arith in
    run_one _ _ (claims c.args.worker (ticket_of c.args.search.now.board.nodes c.args.worker c.take.result)) _ (l, c.take.ensures.step)

pub returns-in-Some-clause-some : goal.returns-in-Some-clause-some
returns-in-Some-clause-some g c = λ e h.
    let l : c.args.worker < length c.args.search.now.board.held = let a = c.requires.places in let b = c.requires.worker in let d = c.workers-workers.ensures.most in omega arith in
    claim_some _ _ c.args.worker _ _ l (subst (λ (o : Option NodeId). Claim (g.B.NodeBound.problem c.args.search.now.bound) c.args.search.now.board c.args.worker (ticket_of c.args.search.now.board.nodes c.args.worker o) c.take.new.self.board) c.in-Some.is c.take.ensures.step)

pub returns-in-None-clause-some : goal.returns-in-None-clause-some
returns-in-None-clause-some g c = λ e h.
    let s = subst (λ (o : Option NodeId). Claim (g.B.NodeBound.problem c.args.search.now.bound) c.args.search.now.board c.args.worker (ticket_of c.args.search.now.board.nodes c.args.worker o) c.take.new.self.board) c.in-None.is c.take.ensures.step in
    subst (λ (b : Board). 0 < tickets b.held) (sym s.1) (h e)

pub returns-in-None-clause-none : goal.returns-in-None-clause-none
returns-in-None-clause-none g c = λ e.
    let s = subst (λ (o : Option NodeId). Claim (g.B.NodeBound.problem c.args.search.now.bound) c.args.search.now.board c.args.worker (ticket_of c.args.search.now.board.nodes c.args.worker o) c.take.new.self.board) c.in-None.is c.take.ensures.step in
    (e, s.1, s.0)
