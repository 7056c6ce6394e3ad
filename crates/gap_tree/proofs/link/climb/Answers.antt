use Rattle.std.proofs.Common.{◌<◌, Option, List, length, sym, ◌∙◌, ap, subst}
use Rattle.gap_box.specs.declared.cell.Cell.{Cell}
use Rattle.gap_box.specs.Narrow.{narrowed}
use Rattle.gap_tree.specs.declared.link.Up.{Up}
use Rattle.gap_tree.specs.Links.{part_from, parts_of, IsBefore}
use Rattle.gap_tree.proofs.GrowLaws.{part_at_place, climb_step, before_end}
use Rattle.gap_tree.proofs.link.climb.Goals as goal

pub loop-at-init : goal.loop-at-init
loop-at-init c =
    let root = c.args.root.now in
    let links = c.args.links.now in
    let n = c.args.node.0 in
    let e = c.up_of-at.ensures in
    record {
      value = ap (λ (q : List Cell). part_from q (parts_of q links) c.up_of-at.result) c.copy-part.ensures ∙ ap (λ (u : Option Up). part_from root (parts_of root links) u) e ∙ sym (part_at_place root links c.requires.ordered n c.requires.there);
      below = subst (λ (u : Option Up). IsBefore u (length links)) (sym e) (before_end links n c.requires.ordered c.requires.there);
    }

pub loop-at-preserved : goal.loop-at-preserved
loop-at-preserved c =
    let links = c.args.links.now in
    let part = c.loop-at.part in
    let up = c.in-Some.up in
    let e = c.up_of-at-in-Some.ensures in
    let b : up.parent.0 < length links = subst (λ (u : Option Up). IsBefore u (length links)) c.in-Some.is c.loop-at.invariant.below in
    record {
      value = ap (λ (q : List Cell). part_from q (parts_of q links) c.up_of-at-in-Some.result) c.narrow.ensures
          ∙ ap (λ (u : Option Up). part_from (narrowed part up.split up.side) (parts_of (narrowed part up.split up.side) links) u) e
          ∙ climb_step part links up c.requires.ordered b
          ∙ ap (λ (u : Option Up). part_from part (parts_of part links) u) (sym c.in-Some.is)
          ∙ c.loop-at.invariant.value;
      below = subst (λ (u : Option Up). IsBefore u (length links)) (sym e) (before_end links up.parent.0 c.requires.ordered b);
    }
