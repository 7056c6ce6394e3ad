use Rattle.std.proofs.Common.{List, Option, sym, subst, ◌∙◌}
use Rattle.gap_box.specs.declared.cell.Cell.{Cell}
use Rattle.gap_model.specs.declared.leaf.Leaf.{Leaf}
use Rattle.gap_model.specs.Nodes.{part_at}
use Rattle.gap_search.specs.Steps.{OfferSingle, OfferLeaf}
use Rattle.gap_search.proofs.pieces.take_up.Goals as goal

pub returns-in-Some-clause-best : goal.returns-in-Some-clause-best
returns-in-Some-clause-best g c =
    let p = g.B.NodeBound.problem c.args.bound.now in
    let o = subst (λ (q : List Cell). OfferSingle p q c.args.best.now c.offer_single.new.best) c.part_of-part.ensures c.offer_single.ensures in
    subst (λ (q : Option Leaf). OfferLeaf p (part_at c.args.tree.now.nodes c.args.node.0) q c.args.best.now c.offer_single.new.best) (sym c.in-Some.is ∙ c.leaf_of.ensures) o
