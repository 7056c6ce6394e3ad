use Rattle.std.proofs.Common.{lit<}
use Rattle.gap_base.proofs.Machine.{back_of}
use Rattle.gap_tangent.specs.Seen.{setting_of}
use Rattle.gap_tangent.proofs.PointLaws.{tangent_from, terms_constant}
use Rattle.gap_tangent.proofs.tangent.Tangent.from_terms.Goals as goal

pub invariant_of-result : goal.invariant_of-result
invariant_of-result c =
    let b = c.args.bound.now in
    let s = setting_of b in
    let t = c.args.terms.now in
    let small = terms_constant s t b.setting c.requires in
    rw (c.copy.ensures, back_of t.constant 170000000000000000000000000000000000 small (lit< tt)) (tangent_from s t b.bends b.bends_are c.requires)
