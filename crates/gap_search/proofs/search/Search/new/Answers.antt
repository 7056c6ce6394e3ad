use Rattle.std.proofs.Common.{◌≡◌, List, ap, ◌∙◌}
use Rattle.std.proofs.lemmas.Result.{IfOk-weaker}
use Rattle.gap_box.specs.declared.cell.Cell.{Cell}
use Rattle.gap_model.specs.Nodes.{root_nodes}
use Rattle.gap_tree.specs.Links.{TreeValue}
use Rattle.gap_search.proofs.ResumeLaws.{begins_from}
use Rattle.gap_search.proofs.search.Search.new.Goals as goal

pub returns-clause-begins : goal.returns-clause-begins
returns-clause-begins g c =
    let p = g.B.NodeBound.problem c.args.bound in
    let e : c.in_ok-tree.tree.nodes ≡ root_nodes p.whole c.args.leaf = ap (λ (t : TreeValue). t.nodes) c.in_ok-tree.ensures.value ∙ ap (λ (q : List Cell). root_nodes q c.args.leaf) c.root.ensures in
    IfOk-weaker c.from_tree.result _ _ (λ s k. (k.0, k.1, begins_from p c.args.leaf c.in_ok-tree.tree.nodes k.0 c.args.budget s.board e k.2)) c.from_tree.ensures.resumes
