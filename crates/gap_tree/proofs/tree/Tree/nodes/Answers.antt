use Rattle.std.proofs.Common.{◌≡◌, sym, ap, ◌∙◌, arith}
use Rattle.gap_tree.specs.Links.{TreeValue, nodes_of}
use Rattle.gap_tree.proofs.ViewLaws.{length_seen}
use Rattle.gap_tree.proofs.tree.Tree.nodes.Goals as goal

pub overflow_cast-result : goal.overflow_cast-result
overflow_cast-result c =
    let k = c.self.inside.links.ok.0 in
    let l = c.self.invariant.linked.limit in
    let f = c.self.invariant.linked.fits in
    omega arith

pub returns-clause-count : goal.returns-clause-count
returns-clause-count c =
    let e : nodes_of c.self.inside.root c.self.inside.links.items ≡ c.args.self.now.nodes = ap (λ (t : TreeValue). t.nodes) c.self.view_is in
    c.len.ensures ∙ c.self.inside.links.ok.0 ∙ sym (length_seen _ _ _ e)

pub returns-clause-limit : goal.returns-clause-limit
returns-clause-limit c =
    let e : nodes_of c.self.inside.root c.self.inside.links.items ≡ c.args.self.now.nodes = ap (λ (t : TreeValue). t.nodes) c.self.view_is in
    let r : c.self.inside.room ≡ c.args.self.now.room = ap (λ (t : TreeValue). t.room) c.self.view_is in
    let l = length_seen _ _ _ e in
    let k = c.self.invariant.linked.limit in
    omega arith
