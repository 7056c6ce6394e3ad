use Rattle.std.proofs.Common.{◌≡◌, ℕ, ◌<◌, List, slice_index_or, Option, refl, sym, ap, ◌∙◌, subst, arith, ℤ}
use Rattle.gap_queue.specs.Keys.{key_at, HasLeast}
use Rattle.gap_queue.specs.Heaps.{IsHeap}
use Rattle.gap_queue.proofs.HeapLaws.{heap_least, heap_none}
use Rattle.gap_queue.proofs.queue.Queue.least.Goals as goal

pub returns-then-self-eq0-clause-none : goal.returns-then-self-eq0-clause-none
returns-then-self-eq0-clause-none c =
    let z : c.self.inside.len ≡ 0 = c.if-self-eq0.true in
    let h : IsHeap c.self.inside.keys.items c.self.inside.heap.items c.self.inside.slots.items 0 = subst (λ (n : ℕ). IsHeap c.self.inside.keys.items c.self.inside.heap.items c.self.inside.slots.items n) z c.self.invariant in
    let e : c.self.inside.keys.items ≡ c.args.self.now = c.self.view_is in
    ((λ w n. ap (λ (l : List (Option ℤ)). key_at l n) (sym e) ∙ heap_none _ _ _ h n), (λ w. refl))

pub returns-else-self-eq0-clause-least : goal.returns-else-self-eq0-clause-least
returns-else-self-eq0-clause-least c =
    let e : c.self.inside.keys.items ≡ c.args.self.now = c.self.view_is in
    let f : c.node_in.result ≡ slice_index_or c.self.inside.heap.items 0 0 = c.node_in.ensures ∙ ap (λ (l : List ℕ). slice_index_or l 0 0) c.as_slice.ensures.value in
    let p : 0 < c.self.inside.len = let a = c.if-self-eq0.false in omega arith in
    subst (λ (l : List (Option ℤ)). HasLeast l c.node_in.result) e (subst (λ (n : ℕ). HasLeast c.self.inside.keys.items n) (sym f) (heap_least _ _ _ _ c.self.invariant p))
