use Rattle.std.proofs.Common.{◌≡◌, ◌+◌, ◌<◌, List, length, slice_set, Option, Some, None, refl, ap, subst, arith, rules, ℤ}
use Rattle.gap_box.specs.declared.node.NodeId.{NodeId}
use Rattle.gap_model.specs.Nodes.{splits_of}
use Rattle.gap_search.specs.Boards.{Board, node_held, tickets}
use Rattle.gap_search.specs.Steps.{busy}
use Rattle.gap_search.specs.Kept.{IsChoice}
use Rattle.gap_search.proofs.KeptLaws.{kept_hold_at, granted, choice_there, refused}
use Rattle.gap_search.proofs.search.Search.take.Goals as goal

pub returns-then-is_busy-clause-step : goal.returns-then-is_busy-clause-step
returns-then-is_busy-clause-step g c =
    let k = c.is_busy.ensures.yes c.if-is_busy.true in
    rw (← c.self.view_is) (busy k.0 k.1, refl)

pub returns-in-None-clause-step : goal.returns-in-None-clause-step
returns-in-None-clause-step g c =
    let choice : IsChoice c.self.inside.queue c.self.inside.best None = subst (λ (o : Option (NodeId × ℤ)). IsChoice c.self.inside.queue c.self.inside.best o) c.in-None.is c.choice.ensures in
    rw (← c.self.view_is) (refused _ _ _ _ _ _ c.self.invariant choice c.args.worker, refl)

pub invariant_of-self : goal.invariant_of-self
invariant_of-self g c =
    let free : node_held c.self.inside.held c.args.worker ≡ None = c.is_busy.ensures.no c.if-is_busy.false in
    let left : splits_of c.self.inside.tree.nodes + tickets c.self.inside.held < c.self.inside.budget = let a = c.inner.ensures in let b = c.count_held.ensures.count in let d = c.if-inner-count_held.false in omega arith in
    let choice : IsChoice c.self.inside.queue c.self.inside.best (Some c.in-Some.next) = subst (λ (o : Option (NodeId × ℤ)). IsChoice c.self.inside.queue c.self.inside.best o) c.in-Some.is c.choice.ensures in
    let l : c.args.worker < length c.self.inside.held = let w : c.args.worker < c.self.inside.workers = rw (← c.self.view_is) at c.requires in let a = c.self.invariant.few_workers in let b = c.self.invariant.held_size in omega arith in
    let e : c.set_key.new.keys ≡ slice_set c.self.inside.keys c.args.worker c.in-Some.next.1 = search rules in
    kept_hold_at _ _ _ _ _ _ c.self.invariant c.args.worker l c.in-Some.next.0 c.in-Some.next.1 choice free left _ _ _ c.set_held.ensures c.remove-taken.ensures.value e

pub returns-in-Some-clause-step : goal.returns-in-Some-clause-step
returns-in-Some-clause-step g c =
    let free : node_held c.self.inside.held c.args.worker ≡ None = c.is_busy.ensures.no c.if-is_busy.false in
    let left : splits_of c.self.inside.tree.nodes + tickets c.self.inside.held < c.self.inside.budget = let a = c.inner.ensures in let b = c.count_held.ensures.count in let d = c.if-inner-count_held.false in omega arith in
    let choice : IsChoice c.self.inside.queue c.self.inside.best (Some c.in-Some.next) = subst (λ (o : Option (NodeId × ℤ)). IsChoice c.self.inside.queue c.self.inside.best o) c.in-Some.is c.choice.ensures in
    let l : c.args.worker < length c.self.inside.held = let w : c.args.worker < c.self.inside.workers = rw (← c.self.view_is) at c.requires in let a = c.self.invariant.few_workers in let b = c.self.invariant.held_size in omega arith in
    rw (← c.self.view_is) (refl, granted _ _ _ _ _ _ c.self.invariant c.args.worker l c.in-Some.next.0 c.in-Some.next.1 choice free left, refl, ap (λ (o : List (Option NodeId)). let z : Board = record { nodes = c.self.inside.tree.nodes; held = o; best = c.self.inside.best; budget = c.self.inside.budget } in z) c.set_held.ensures)

pub returns-in-Some-clause-sound : goal.returns-in-Some-clause-sound
returns-in-Some-clause-sound g c = rw (← c.self.view_is) (invariant_of-self g c).sound

pub returns-in-Some-clause-there : goal.returns-in-Some-clause-there
returns-in-Some-clause-there g c =
    let free : node_held c.self.inside.held c.args.worker ≡ None = c.is_busy.ensures.no c.if-is_busy.false in
    let left : splits_of c.self.inside.tree.nodes + tickets c.self.inside.held < c.self.inside.budget = let a = c.inner.ensures in let b = c.count_held.ensures.count in let d = c.if-inner-count_held.false in omega arith in
    let choice : IsChoice c.self.inside.queue c.self.inside.best (Some c.in-Some.next) = subst (λ (o : Option (NodeId × ℤ)). IsChoice c.self.inside.queue c.self.inside.best o) c.in-Some.is c.choice.ensures in
    let l : c.args.worker < length c.self.inside.held = let w : c.args.worker < c.self.inside.workers = rw (← c.self.view_is) at c.requires in let a = c.self.invariant.few_workers in let b = c.self.invariant.held_size in omega arith in
    choice_there _ _ _ _ _ _ c.self.invariant c.args.worker l c.in-Some.next.0 c.in-Some.next.1 choice free left
