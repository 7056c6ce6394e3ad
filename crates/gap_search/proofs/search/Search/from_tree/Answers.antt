use Rattle.std.proofs.Common.{◌≡◌, List, Option, None, length, replicate, refl, ap, ◌∙◌, ℤ, pos}
use Rattle.std.proofs.lemmas.List.{length-replicate}
use Rattle.gap_search.proofs.ResumeLaws.{resumed_kept}
use Rattle.gap_search.proofs.search.Search.from_tree.Goals as goal

pub take_up_all-requires-clause-in_range : goal.take_up_all-requires-clause-in_range
take_up_all-requires-clause-in_range g c = λ n leaf e. (c.requires.leaves n leaf e).in_range

pub invariant_of-result : goal.invariant_of-result
invariant_of-result g c =
    let p = g.B.NodeBound.problem c.args.bound in
    let none : Option ℤ = None in
    let e : length c.in_ok-queue.queue ≡ c.args.tree.room = ap (λ (z : List (Option ℤ)). length z) c.in_ok-queue.ensures ∙ length-replicate c.room.result none ∙ c.room.ensures in
    resumed_kept p c.args.tree.nodes c.nodes-nodes.ensures.tree c.requires.root c.requires.leaves c.first_found-found.result c.take_up_all.new.best c.first_found-found.ensures.valid c.take_up_all.ensures.best c.args.budget c.args.tree.room c.args.workers c.requires.splits (replicate 16 (pos 0)) refl c.requires.most_workers c.requires.budget c.requires.room c.take_up_all.new.queue (c.take_up_all.ensures.room ∙ e) c.take_up_all.ensures.queue

pub returns-clause-sound : goal.returns-clause-sound
returns-clause-sound g c = (invariant_of-result g c).sound
