use Rattle.std.proofs.Common.{◌≡◌, sym, ap}
use Rattle.gap_tree.specs.Links.{TreeValue, nodes_of}
use Rattle.gap_tree.proofs.ViewLaws.{root_part}
use Rattle.gap_tree.proofs.tree.Tree.root.Goals as goal

pub returns : goal.returns
returns c =
    let e : nodes_of c.self.inside.root c.self.inside.links.items ≡ c.args.self.now.nodes = ap (λ (t : TreeValue). t.nodes) c.self.view_is in
    sym (root_part _ _ _ e c.self.invariant.linked.nonempty c.self.invariant.linked.ordered)
