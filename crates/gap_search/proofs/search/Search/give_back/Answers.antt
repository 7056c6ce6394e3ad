use Rattle.std.proofs.Common.{◌≡◌, slice_set, Some, rules}
use Rattle.gap_search.proofs.KeptLaws.{give_room, held_fresh, kept_release_at}
use Rattle.gap_search.proofs.search.Search.give_back.Goals as goal

pub put-requires-clause-there : goal.put-requires-clause-there
put-requires-clause-there g c =
    let h = rw (← c.self.view_is, ← c.ticket.view_is) at c.requires in
    give_room _ _ _ _ _ _ c.self.invariant c.ticket.inside.worker h.worker c.ticket.inside.node h.held

pub put-requires-clause-fresh : goal.put-requires-clause-fresh
put-requires-clause-fresh g c =
    let h = rw (← c.self.view_is, ← c.ticket.view_is) at c.requires in
    held_fresh _ _ _ _ c.self.invariant.waiting c.ticket.inside.worker c.ticket.inside.node h.held

pub invariant_of-self : goal.invariant_of-self
invariant_of-self g c =
    let h = rw (← c.self.view_is, ← c.ticket.view_is) at c.requires in
    let e : c.put.new.self ≡ slice_set c.self.inside.queue c.ticket.inside.node.0 (Some c.key_held-key.result) = search rules in
    kept_release_at _ _ _ _ _ _ c.self.invariant c.ticket.inside.worker h.worker c.ticket.inside.node h.held _ _ c.key_held-key.result c.set_held.ensures e c.key_held-key.ensures

pub returns-clause-sound : goal.returns-clause-sound
returns-clause-sound g c = rw (← c.self.view_is) (invariant_of-self g c).sound
