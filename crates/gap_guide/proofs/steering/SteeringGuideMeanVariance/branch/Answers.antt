use Rattle.std.proofs.Common.{List, length, refl, sym, ap, ◌∙◌, subst, IsTrue}
use Rattle.gap_box.specs.declared.cell.Cell.{Cell}
use Rattle.gap_box.specs.declared.split.Side.TheVariants.{First, Second}
use Rattle.gap_box.specs.Splits.{lawful_split, child_cells}
use Rattle.gap_model.specs.Problems.{tangent_problem}
use Rattle.gap_model.specs.Showing.{ShowsSo}
use Rattle.gap_tangent.specs.Seen.{setting_of}
use Rattle.gap_leaf.specs.Finding.{HintValue, IsLeafFor}
use Rattle.gap_guide.proofs.ChildLaws.{open_tangent, part_length, branch_is}
use Rattle.gap_guide.proofs.steering.SteeringGuideMeanVariance.branch.Goals as goal

pub unreachable-requires : goal.unreachable-requires
unreachable-requires c = open_tangent (setting_of c.args.bound.now) c.args.ticket.now.part c.args.leaf.now c.requires.key c.requires.shows (c.in_default.ensures.none refl)

pub split_for-split-requires-clause-same : goal.split_for-split-requires-clause-same
split_for-split-requires-clause-same c = c.in-Some.ensures.in_range.point.count ∙ sym (ap length c.part-part.ensures ∙ part_length (setting_of c.args.bound.now) c.args.ticket.now.part c.args.bound.now.setting c.requires.part_is)

pub returns-clause-branch : goal.returns-clause-branch
returns-clause-branch c =
    let s = setting_of c.args.bound.now in
    let split = c.split_for-split.result in
    let first = c.in_ok-first.first in
    let second = c.in_ok-second.second in
    let one = subst (λ (h : HintValue). IsLeafFor h.setting (child_cells c.part-part.result.now split First) h.hint first.leaf) c.new-hinted.ensures c.in_ok-first.ensures.leaf in
    let two = subst (λ (h : HintValue). IsLeafFor h.setting (child_cells c.part-part.result.now split Second) h.hint second.leaf) c.new-hinted.ensures c.in_ok-second.ensures.leaf in
    let f = subst (λ (h : HintValue). ShowsSo (tangent_problem h.setting) (child_cells c.part-part.result.now split First) first) c.new-hinted.ensures c.in_ok-first.ensures.shows in
    let g = subst (λ (h : HintValue). ShowsSo (tangent_problem h.setting) (child_cells c.part-part.result.now split Second) second) c.new-hinted.ensures c.in_ok-second.ensures.shows in
    branch_is s c.args.ticket.now.part c.args.leaf.now (record { split = split; first = first; second = second }) c.in-Some.hint c.args.bound.now.setting c.requires c.in-Some.ensures.tangent
    (subst (λ (part : List Cell). IsTrue (lawful_split part split)) c.part-part.ensures c.split_for-split.ensures.lawful)
    (subst (λ (part : List Cell). IsLeafFor s (child_cells part split First) c.in-Some.hint first.leaf) c.part-part.ensures one)
    (subst (λ (part : List Cell). IsLeafFor s (child_cells part split Second) c.in-Some.hint second.leaf) c.part-part.ensures two)
    (subst (λ (part : List Cell). ShowsSo (tangent_problem s) (child_cells part split First) first) c.part-part.ensures f)
    (subst (λ (part : List Cell). ShowsSo (tangent_problem s) (child_cells part split Second) second) c.part-part.ensures g)
