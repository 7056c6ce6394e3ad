use Rattle.std.proofs.Common.{◌≡◌, ◌+◌, ◌<◌, List, Option, None, length, ap, ◌∙◌, arith, length-set}
use Rattle.std.proofs.lemmas.Result.{IfOk-weaker, IfOk-at_ok}
use Rattle.gap_box.specs.declared.node.NodeId.{NodeId}
use Rattle.gap_model.specs.Nodes.{splits_of}
use Rattle.gap_search.specs.Boards.{tickets}
use Rattle.gap_search.proofs.DrivenLaws.{same_on, driven_on}
use Rattle.gap_search.proofs.TurnLaws.{free_next, free_all}
use Rattle.gap_search.proofs.rounds.settle_all.Goals as goal

pub loop-worker-preserved : goal.loop-worker-preserved
loop-worker-preserved g c =
    let k = c.loop-worker.invariant in
    let e = c.turn-result.ensures in
    let old = c.args.search.now in
    let l : c.loop-worker.worker < length c.loop-worker.search.board.held = let t = c.loop-worker-test.true in let s = k.places in omega arith in
    record {
      same = same_on _ _ _ k.same e.same;
      driven = driven_on g.B.NodeBound.problem g.G.Guide.allows g.G.Guide.fits old.bound c.loop-worker.search.bound old.board c.loop-worker.search.board c.turn-result.new.search.board k.same.bound_is k.driven e.driven;
      places = ap (λ (z : List (Option NodeId)). length z) e.held ∙ length-set c.loop-worker.search.board.held c.loop-worker.worker None ∙ k.places;
      free = free_next c.loop-worker.search.board.held c.turn-result.new.search.board.held c.loop-worker.worker l e.held k.free;
      count = IfOk-weaker c.turn-result.result _ _ (λ x q. q.1 ∙ IfOk-at_ok (λ _. splits_of c.loop-worker.search.board.nodes + tickets c.loop-worker.search.board.held ≡ splits_of old.board.nodes + tickets old.board.held) q.0 k.count) e.count;
    }

pub returns-clause-idle : goal.returns-clause-idle
returns-clause-idle g c = free_all c.loop-worker.search.board.held (record { each = λ w l. c.loop-worker.invariant.free.each w (let t = c.loop-worker-test.false in let s = c.loop-worker.invariant.places in omega arith) })

pub returns-clause-count : goal.returns-clause-count
returns-clause-count g c =
    let z = returns-clause-idle g c in
    IfOk-weaker c.loop-worker.result _ _ (λ x q. omega arith) c.loop-worker.invariant.count
