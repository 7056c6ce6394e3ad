use Rattle.std.proofs.Common.{◌≡◌, ℕ, List, Option, Some, None, sym, ap, ◌∙◌}
use Rattle.gap_box.specs.declared.node.NodeId.{NodeId}
use Rattle.gap_model.specs.Nodes.{Node, parent_at}
use Rattle.gap_tree.specs.declared.link.Link.{Link}
use Rattle.gap_tree.specs.Links.{TreeValue, up_at, parent_from, node_named, nodes_of}
use Rattle.gap_tree.proofs.ViewLaws.{parent_at_is}
use Rattle.gap_tree.proofs.tree.Tree.parent.Goals as goal

some_parent : (id : NodeId) (o : Option ℕ) → o ≡ Some id.0 → Some id ≡ node_named o
some_parent id o e = sym (ap node_named e)

pub returns-in-Some : goal.returns-in-Some
returns-in-Some c =
    let e : nodes_of c.self.inside.root c.self.inside.links.items ≡ c.args.self.now.nodes = ap (λ (t : TreeValue). t.nodes) c.self.view_is in
    let f : up_at c.self.inside.links.items c.args.node.0 ≡ Some c.in-Some.up = ap (λ (l : List Link). up_at l c.args.node.0) (sym c.as_slice.ensures.value) ∙ sym c.up_of.ensures ∙ c.in-Some.is in
    some_parent c.in-Some.up.parent _ (ap (λ (l : List Node). parent_at l c.args.node.0) (sym e) ∙ parent_at_is c.self.inside.root c.self.inside.links.items c.args.node.0 ∙ ap parent_from f)

pub returns-in-None : goal.returns-in-None
returns-in-None c =
    let e : nodes_of c.self.inside.root c.self.inside.links.items ≡ c.args.self.now.nodes = ap (λ (t : TreeValue). t.nodes) c.self.view_is in
    let f : up_at c.self.inside.links.items c.args.node.0 ≡ None = ap (λ (l : List Link). up_at l c.args.node.0) (sym c.as_slice.ensures.value) ∙ sym c.up_of.ensures ∙ c.in-None.is in
    sym (ap node_named (ap (λ (l : List Node). parent_at l c.args.node.0) (sym e) ∙ parent_at_is c.self.inside.root c.self.inside.links.items c.args.node.0 ∙ ap parent_from f))
