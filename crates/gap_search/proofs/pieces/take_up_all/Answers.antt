use Rattle.std.proofs.Common.{◌≡◌, ◌+◌, ◌<◌, List, Option, length, sym, ap, ◌∙◌, subst, arith, ℤ}
use Rattle.gap_model.specs.Nodes.{part_at, leaf_at}
use Rattle.gap_search.specs.Kept.{leaf_enqueued, WaitBelow}
use Rattle.gap_search.proofs.ResumeLaws.{below_fresh, below_more, length-leaf_enqueued, offers_more}
use Rattle.gap_search.proofs.pieces.take_up_all.Goals as goal

pub take_up-requires-clause-fresh : goal.take_up-requires-clause-fresh
take_up-requires-clause-fresh g c = below_fresh (g.B.NodeBound.problem c.args.bound.now) c.args.tree.now.nodes c.loop-n.n c.loop-n.queue c.loop-n.invariant.queue

pub loop-n-preserved : goal.loop-n-preserved
loop-n-preserved g c =
    let p = g.B.NodeBound.problem c.args.bound.now in
    let nodes = c.args.tree.now.nodes in
    let n = c.loop-n.n in
    let l : n < length nodes = let t = c.loop-n-test.true in let k = c.nodes-n-end.ensures.count in omega arith in
    let s : n < length c.loop-n.queue = let r = c.requires.room in let k = c.loop-n.invariant.room in omega arith in
    let q : c.take_up.new.queue ≡ leaf_enqueued p c.loop-n.queue n (part_at nodes n) (leaf_at nodes n) = c.take_up.ensures.queue in
    record {
      room = ap (λ (z : List (Option ℤ)). length z) q ∙ length-leaf_enqueued p c.loop-n.queue n (part_at nodes n) (leaf_at nodes n) ∙ c.loop-n.invariant.room;
      queue = subst (λ (z : List (Option ℤ)). WaitBelow p nodes (n + 1) z) (sym q) (below_more p nodes n c.loop-n.queue s c.loop-n.invariant.queue);
      best = offers_more p nodes n _ c.loop-n.best c.take_up.new.best l c.loop-n.invariant.best c.take_up.ensures.best;
    }
