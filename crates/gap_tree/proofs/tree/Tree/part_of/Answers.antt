use Rattle.std.proofs.Common.{◌≡◌, List, length, slice_index_or, sym, ap, ◌∙◌, arith}
use Rattle.gap_tree.specs.declared.link.Link.{Link}
use Rattle.gap_tree.specs.Links.{TreeValue, parts_of, nodes_of}
use Rattle.gap_tree.proofs.ViewLaws.{part_seen, length_seen}
use Rattle.gap_tree.proofs.tree.Tree.part_of.Goals as goal

pub climb-requires-clause-there : goal.climb-requires-clause-there
climb-requires-clause-there c =
    let e : nodes_of c.self.inside.root c.self.inside.links.items ≡ c.args.self.now.nodes = ap (λ (t : TreeValue). t.nodes) c.self.view_is in
    let l = length_seen _ _ _ e in
    let s : length c.as_slice.result.now ≡ length c.self.inside.links.items = ap (λ (l : List Link). length l) c.as_slice.ensures.value in
    let r = c.requires in
    omega arith

pub returns : goal.returns
returns c =
    let e : nodes_of c.self.inside.root c.self.inside.links.items ≡ c.args.self.now.nodes = ap (λ (t : TreeValue). t.nodes) c.self.view_is in
    c.climb.ensures ∙ ap (λ (l : List Link). slice_index_or (parts_of c.self.inside.root l) c.args.node.0 c.self.inside.root) c.as_slice.ensures.value ∙ sym (part_seen _ _ _ c.args.node.0 e c.requires)
