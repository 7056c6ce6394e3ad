use Rattle.std.proofs.Common.{◌≡◌, ◌≤◌, List, [], ◌∷◌, ◌++◌, ap, ◌∙◌, arith, vec_capacity}
use Rattle.gap_model.specs.Nodes.{Node}
use Rattle.gap_tree.specs.declared.link.Link.{Link}
use Rattle.gap_tree.proofs.ViewLaws.{made_kept, made_view}
use Rattle.gap_tree.proofs.tree.Tree.with_room.Goals as goal

the_items : (was now : List Link) (a : Link) → was ≡ [] → now ≡ was ++ a ∷ [] → now ≡ a ∷ []
the_items was now a e f = f ∙ ap (λ l. l ++ a ∷ []) e

pub invariant_of-result : goal.invariant_of-result
invariant_of-result c =
    let n = the_items _ _ _ c.in_ok-links.ensures.items c.push_reserved.ensures.items in
    let a : c.args.nodes ≤ vec_capacity c.push_reserved.new.self = let x = c.in_ok-links.ensures.exact in let y = c.push_reserved.ensures.capacity in omega arith in
    let f : c.args.nodes ≤ 4294967295 = let x = c.ranges.nodes in omega arith in
    made_kept c.args.root c.args.leaf _ c.args.nodes _ n c.len-count.ensures.valid c.requires a f

pub returns-clause-value : goal.returns-clause-value
returns-clause-value c =
    let n = the_items _ _ _ c.in_ok-links.ensures.items c.push_reserved.ensures.items in
    ap (λ (l : List Node). record { nodes = l; room = c.args.nodes }) (made_view c.args.root c.args.leaf _ n)

pub returns-clause-tree : goal.returns-clause-tree
returns-clause-tree c = (invariant_of-result c).tree
