use Rattle.std.proofs.Common.{◌∙◌, arith}
use Rattle.std.proofs.lemmas.Int.{to_z-of_z}
use Rattle.gap_base.specs.Lots.{lots_at}
use Rattle.gap_model.specs.Leaves.{eighths_at}
use Rattle.gap_model.proofs.LagLaws.{lag_same}
use Rattle.gap_model.proofs.ThetaLaws.{theta_from_same}
use Rattle.gap_tangent.specs.Seen.{setting_of}
use Rattle.gap_tangent.proofs.EntryLaws.{point_is}
use Rattle.gap_tangent.proofs.shows.theta_of.Goals as goal

pub returns : goal.returns
returns c =
    let fa = c.ranges.alpha in
    let ft = c.ranges.tau in
    let b = c.args.mv.now in
    let s = setting_of b in
    let e = simp to_z-of_z at c.theta.ensures.value in
    e ∙ theta_from_same s c.args.part.now (lots_at c.point_from.result) (eighths_at c.args.y.now) c.args.alpha c.args.tau (λ x. lag_same s (lots_at c.point_from.result) (eighths_at c.args.y.now) c.args.alpha c.args.tau x (λ i l. c.point_from.ensures.numbers i (omega (arith, c.n.ensures.value))))

pub theta-requires-clause-point : goal.theta-requires-clause-point
theta-requires-clause-point c = let I = c.args.mv.now.instance.now in point_is I c.args.y.now c.point_from.result c.requires.entries c.requires.most (c.point_from.ensures.count ∙ c.n.ensures.value) (λ i l. c.point_from.ensures.numbers i (omega (arith, c.n.ensures.value)))
