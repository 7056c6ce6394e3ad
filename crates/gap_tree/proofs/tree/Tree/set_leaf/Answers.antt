use Rattle.std.proofs.Common.{◌≡◌, ℕ, List, ap, ◌∙◌, arith, vec_capacity}
use Rattle.gap_model.specs.Nodes.{Node, leaf_nodes}
use Rattle.gap_tree.specs.Links.{TreeValue, nodes_of}
use Rattle.gap_tree.proofs.ViewLaws.{leaf_there, leaf_is, leaf_kept}
use Rattle.gap_tree.proofs.tree.Tree.set_leaf.Goals as goal

pub put_leaf-requires : goal.put_leaf-requires
put_leaf-requires c =
    let e : nodes_of c.self.inside.root c.self.inside.links.items ≡ c.args.self.now.nodes = ap (λ (t : TreeValue). t.nodes) c.self.view_is in
    let h = leaf_there _ _ _ c.args.node.0 e c.requires in
    let k = c.self.inside.links.ok.0 in
    omega arith

pub invariant_of-self : goal.invariant_of-self
invariant_of-self c =
    let e : nodes_of c.self.inside.root c.self.inside.links.items ≡ c.args.self.now.nodes = ap (λ (t : TreeValue). t.nodes) c.self.view_is in
    let h = c.put_leaf.ensures.links in
    leaf_kept _ _ _ _ _ _ _ c.args.node h.0 e c.self.invariant h.1 c.requires c.args.leaf h.2 c.put_leaf.ensures.capacity

pub returns-clause-value : goal.returns-clause-value
returns-clause-value c =
    let e : nodes_of c.self.inside.root c.self.inside.links.items ≡ c.args.self.now.nodes = ap (λ (t : TreeValue). t.nodes) c.self.view_is in
    let r : c.self.inside.room ≡ c.args.self.now.room = ap (λ (t : TreeValue). t.room) c.self.view_is in
    let h = c.put_leaf.ensures.links in
    let v = leaf_is _ _ _ _ _ (vec_capacity c.self.inside.links) 0 c.args.node h.0 e c.self.invariant h.1 c.requires c.args.leaf h.2 in
    ap (λ (l : List Node). record { nodes = l; room = c.self.inside.room }) v ∙ ap (λ (m : ℕ). record { nodes = leaf_nodes c.args.self.now.nodes c.args.node.0 c.args.leaf; room = m }) r

pub returns-clause-tree : goal.returns-clause-tree
returns-clause-tree c = (invariant_of-self c).tree
