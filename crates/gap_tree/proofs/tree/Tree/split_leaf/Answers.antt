use Rattle.std.proofs.Common.{◌≡◌, ℕ, ◌+◌, ◌≤◌, List, length, sym, ap, ◌∙◌, arith, vec_capacity}
use Rattle.gap_model.specs.Nodes.{Node, split_nodes}
use Rattle.gap_tree.specs.Links.{TreeValue, nodes_of}
use Rattle.gap_tree.proofs.ViewLaws.{leaf_there, split_is, split_kept, length_seen}
use Rattle.gap_tree.proofs.tree.Tree.split_leaf.Goals as goal

pub split_links-first_child-requires-clause-there : goal.split_links-first_child-requires-clause-there
split_links-first_child-requires-clause-there c =
    let e : nodes_of c.self.inside.root c.self.inside.links.items ≡ c.args.self.now.nodes = ap (λ (t : TreeValue). t.nodes) c.self.view_is in
    let h = leaf_there _ _ _ c.args.node.0 e c.requires.leaf in
    let k = c.self.inside.links.ok.0 in
    omega arith

pub split_links-first_child-requires-clause-space : goal.split_links-first_child-requires-clause-space
split_links-first_child-requires-clause-space c =
    let e : nodes_of c.self.inside.root c.self.inside.links.items ≡ c.args.self.now.nodes = ap (λ (t : TreeValue). t.nodes) c.self.view_is in
    let r : c.self.inside.room ≡ c.args.self.now.room = ap (λ (t : TreeValue). t.room) c.self.view_is in
    let l = length_seen _ _ _ e in
    let k = c.self.inside.links.ok.0 in
    let a = c.self.invariant.linked.space in
    let b = c.requires.space in
    omega arith

pub split_links-first_child-requires-clause-number : goal.split_links-first_child-requires-clause-number
split_links-first_child-requires-clause-number c =
    let e : nodes_of c.self.inside.root c.self.inside.links.items ≡ c.args.self.now.nodes = ap (λ (t : TreeValue). t.nodes) c.self.view_is in
    let r : c.self.inside.room ≡ c.args.self.now.room = ap (λ (t : TreeValue). t.room) c.self.view_is in
    let l = length_seen _ _ _ e in
    let k = c.self.inside.links.ok.0 in
    let a = c.self.invariant.linked.fits in
    let b = c.requires.space in
    omega arith

pub overflow_add-result : goal.overflow_add-result
overflow_add-result c =
    let e : nodes_of c.self.inside.root c.self.inside.links.items ≡ c.args.self.now.nodes = ap (λ (t : TreeValue). t.nodes) c.self.view_is in
    let r : c.self.inside.room ≡ c.args.self.now.room = ap (λ (t : TreeValue). t.room) c.self.view_is in
    let l = length_seen _ _ _ e in
    let k = c.self.inside.links.ok.0 in
    let a = c.self.invariant.linked.fits in
    let b = c.requires.space in
    let d = c.split_links-first_child.ensures.result in
    omega arith

pub invariant_of-self : goal.invariant_of-self
invariant_of-self c =
    let e : nodes_of c.self.inside.root c.self.inside.links.items ≡ c.args.self.now.nodes = ap (λ (t : TreeValue). t.nodes) c.self.view_is in
    let r : c.self.inside.room ≡ c.args.self.now.room = ap (λ (t : TreeValue). t.room) c.self.view_is in
    let k_is : c.split_links-first_child.result.0 ≡ length c.self.inside.links.items = c.split_links-first_child.ensures.result ∙ c.self.inside.links.ok.0 in
    let h = c.split_links-first_child.ensures.links in
    let space : length c.args.self.now.nodes + 2 ≤ c.self.inside.room = let b = c.requires.space in omega arith in
    split_kept _ _ _ _ _ _ _ c.args.node h.0 e c.self.invariant h.1 c.requires.leaf c.args.split c.args.first c.args.second c.split_links-first_child.result k_is h.2 c.requires.lawful space c.split_links-first_child.ensures.capacity

pub returns-clause-first : goal.returns-clause-first
returns-clause-first c =
    let e : nodes_of c.self.inside.root c.self.inside.links.items ≡ c.args.self.now.nodes = ap (λ (t : TreeValue). t.nodes) c.self.view_is in
    c.split_links-first_child.ensures.result ∙ c.self.inside.links.ok.0 ∙ sym (length_seen _ _ _ e)

pub returns-clause-second : goal.returns-clause-second
returns-clause-second c = ap (λ (m : ℕ). m + 1) (returns-clause-first c)

pub returns-clause-value : goal.returns-clause-value
returns-clause-value c =
    let e : nodes_of c.self.inside.root c.self.inside.links.items ≡ c.args.self.now.nodes = ap (λ (t : TreeValue). t.nodes) c.self.view_is in
    let r : c.self.inside.room ≡ c.args.self.now.room = ap (λ (t : TreeValue). t.room) c.self.view_is in
    let k_is : c.split_links-first_child.result.0 ≡ length c.self.inside.links.items = c.split_links-first_child.ensures.result ∙ c.self.inside.links.ok.0 in
    let h = c.split_links-first_child.ensures.links in
    let v = split_is _ _ _ _ _ (vec_capacity c.self.inside.links) 0 c.args.node h.0 e c.self.invariant h.1 c.requires.leaf c.args.split c.args.first c.args.second c.split_links-first_child.result k_is h.2 c.requires.lawful in
    ap (λ (l : List Node). record { nodes = l; room = c.self.inside.room }) v ∙ ap (λ (m : ℕ). record { nodes = split_nodes c.args.self.now.nodes c.args.node.0 c.args.split c.args.first c.args.second; room = m }) r

pub returns-clause-tree : goal.returns-clause-tree
returns-clause-tree c = (invariant_of-self c).tree
