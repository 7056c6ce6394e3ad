use Rattle.std.proofs.Common.{◌≡◌, ℕ, ◌+◌, length, ap, ◌∙◌, arith}
use Rattle.gap_queue.specs.Keys.{key_at}
use Rattle.gap_tree.specs.Links.{TreeValue}
use Rattle.gap_model.specs.Nodes.{split_nodes}
use Rattle.gap_search.proofs.KeptLaws.{new_fresh, kept_settle_at, is_leaf, second_is_fresh}
use Rattle.gap_search.proofs.search.Search.settle.Goals as goal

pub split_leaf-requires-clause-leaf : goal.split_leaf-requires-clause-leaf
split_leaf-requires-clause-leaf g c =
    let h = rw (← c.self.view_is, ← c.ticket.view_is) at c.requires.holds in
    let o = c.self.invariant.sound.open_leaves c.ticket.inside.worker c.ticket.inside.node h.held in
    is_leaf _ o.leaf o.there

pub enqueue-requires-clause-fresh : goal.enqueue-requires-clause-fresh
enqueue-requires-clause-fresh g c =
    ap (λ (n : ℕ). key_at c.self.inside.queue n) c.split_leaf.ensures.first ∙ new_fresh _ _ _ _ c.self.invariant.waiting (length c.self.inside.tree.nodes) (omega arith)

pub enqueue-requires-2-clause-fresh : goal.enqueue-requires-2-clause-fresh
enqueue-requires-2-clause-fresh g c =
    second_is_fresh _ _ _ _ (length c.self.inside.tree.nodes) _ c.enqueue.ensures c.split_leaf.ensures.first c.split_leaf.ensures.second (new_fresh _ _ _ _ c.self.invariant.waiting (length c.self.inside.tree.nodes + 1) (omega arith))

pub invariant_of-self : goal.invariant_of-self
invariant_of-self g c =
    let h = rw (← c.self.view_is, ← c.ticket.view_is) at c.requires.holds in
    let a = rw (← c.self.view_is, ← c.ticket.view_is) at c.requires.fits_first in
    let b = rw (← c.self.view_is, ← c.ticket.view_is) at c.requires.fits_second in
    let d = rw (← c.ticket.view_is) at c.requires.lawful in
    let f1 = rw (← c.self.view_is, ← c.ticket.view_is) at c.requires.shows_first in
    let f2 = rw (← c.self.view_is, ← c.ticket.view_is) at c.requires.shows_second in
    let ne : c.split_leaf.new.self.nodes ≡ split_nodes c.self.inside.tree.nodes c.ticket.inside.node.0 c.args.split c.args.first.leaf c.args.second.leaf = ap (λ (t : TreeValue). t.nodes) c.split_leaf.ensures.value in
    let re : c.split_leaf.new.self.room ≡ c.self.inside.tree.room = ap (λ (t : TreeValue). t.room) c.split_leaf.ensures.value in
    kept_settle_at _ _ _ _ _ _ c.self.invariant _ h c.args.split d c.args.first.leaf c.args.second.leaf a b _ _ _ _ _ _ _ _ _ _ _ _ _ c.child-one.ensures.cells c.child-two.ensures.cells c.offer_single.ensures c.offer_single-2.ensures c.split_leaf.ensures.first c.split_leaf.ensures.second ne c.set_held.ensures c.enqueue.ensures c.enqueue-2.ensures re f1 f2

pub returns-clause-sound : goal.returns-clause-sound
returns-clause-sound g c = rw (← c.self.view_is) (invariant_of-self g c).sound
