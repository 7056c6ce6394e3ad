use Rattle.std.proofs.Common.{◌≡◌, ◌<◌, List, Option, None, length, ap, ◌∙◌, arith, length-set}
use Rattle.gap_box.specs.declared.node.NodeId.{NodeId}
use Rattle.gap_search.proofs.TurnLaws.{free_next, free_all}
use Rattle.gap_tests_search.proofs.trials.give_all_back.Goals as goal

pub loop-worker-preserved : goal.loop-worker-preserved
loop-worker-preserved c =
    let k = c.loop-worker.invariant in
    let l : c.loop-worker.worker < length c.loop-worker.search.board.held = let t = c.loop-worker-test.true in let s = k.places in omega arith in
    record {
      places = ap (λ (z : List (Option NodeId)). length z) c.give_one.ensures ∙ length-set c.loop-worker.search.board.held c.loop-worker.worker None ∙ k.places;
      free = free_next c.loop-worker.search.board.held c.give_one.new.search.board.held c.loop-worker.worker l c.give_one.ensures k.free;
    }

pub returns : goal.returns
returns c = free_all c.loop-worker.search.board.held (record { each = λ w l. c.loop-worker.invariant.free.each w (let t = c.loop-worker-test.false in let s = c.loop-worker.invariant.places in omega arith) })
