use Rattle.std.proofs.Common.{◌≡◌, ℕ, ◌+◌, List, slice_get, Option, Some, None, sym, ap, ◌∙◌, arith}
use Rattle.gap_box.specs.declared.node.NodeId.{NodeId}
use Rattle.gap_model.specs.Nodes.{Node, first_at}
use Rattle.gap_tree.specs.declared.link.Link.{Link}
use Rattle.gap_tree.specs.Links.{TreeValue, children_from, nodes_of, link_first}
use Rattle.gap_tree.proofs.ViewLaws.{first_at_is, number_in, first_fits}
use Rattle.gap_tree.proofs.tree.Tree.children.Goals as goal

some_children : (first : NodeId) (o : Option ℕ) → o ≡ Some first.0 → ◌≡◌ {A = Option (NodeId × NodeId)} (Some (first, record { 0 = first.0 + 1 })) (children_from o)
some_children first o e = sym (ap children_from e)

pub overflow_add-result : goal.overflow_add-result
overflow_add-result c =
    let f : link_first (slice_get c.self.inside.links.items c.args.node.0) ≡ Some c.in-Some.first = ap (λ (l : List Link). link_first (slice_get l c.args.node.0)) (sym c.as_slice.ensures.value) ∙ sym c.first_of.ensures ∙ c.in-Some.is in
    let b = first_fits c.self.inside.links.items c.args.node.0 c.in-Some.first c.self.invariant.linked.within f in
    let l = c.self.invariant.linked.limit in
    let k = c.self.invariant.linked.fits in
    omega arith

pub returns-in-Some : goal.returns-in-Some
returns-in-Some c =
    let e : nodes_of c.self.inside.root c.self.inside.links.items ≡ c.args.self.now.nodes = ap (λ (t : TreeValue). t.nodes) c.self.view_is in
    let f : link_first (slice_get c.self.inside.links.items c.args.node.0) ≡ Some c.in-Some.first = ap (λ (l : List Link). link_first (slice_get l c.args.node.0)) (sym c.as_slice.ensures.value) ∙ sym c.first_of.ensures ∙ c.in-Some.is in
    some_children c.in-Some.first _ (ap (λ (l : List Node). first_at l c.args.node.0) (sym e) ∙ first_at_is c.self.inside.root c.self.inside.links.items c.args.node.0 ∙ ap number_in f)

pub returns-in-None : goal.returns-in-None
returns-in-None c =
    let e : nodes_of c.self.inside.root c.self.inside.links.items ≡ c.args.self.now.nodes = ap (λ (t : TreeValue). t.nodes) c.self.view_is in
    let f : link_first (slice_get c.self.inside.links.items c.args.node.0) ≡ None = ap (λ (l : List Link). link_first (slice_get l c.args.node.0)) (sym c.as_slice.ensures.value) ∙ sym c.first_of.ensures ∙ c.in-None.is in
    sym (ap children_from (ap (λ (l : List Node). first_at l c.args.node.0) (sym e) ∙ first_at_is c.self.inside.root c.self.inside.links.items c.args.node.0 ∙ ap number_in f))
