use Rattle.std.proofs.Common.{lit<, subst}
use Rattle.gap_base.proofs.Machine.{back_of}
use Rattle.gap_tangent.specs.Seen.{setting_of}
use Rattle.gap_tangent.specs.Points.{PointValue}
use Rattle.gap_tangent.specs.Kept.{AreTermsOf}
use Rattle.gap_tangent.proofs.PointLaws.{kept_constant, terms_of}
use Rattle.gap_tangent.proofs.tangent.Tangent.terms.Goals as goal

pub returns-clause-terms : goal.returns-clause-terms
returns-clause-terms c =
    let b = c.self.inside.bound.now in
    let s = setting_of b in
    let y = c.self.inside.eighths in
    let slopes = c.self.inside.slopes in
    let k = c.self.inside.constant in
    let small = kept_constant s y b.bends slopes k b.setting c.self.invariant in
    let seen = subst (λ (v : PointValue). AreTermsOf v.setting (record { eighths = y; slopes = slopes; constant = k })) c.self.view_is (terms_of s y b.bends slopes k c.self.invariant) in
    rw (c.copy.ensures, back_of k 170000000000000000000000000000000000 small (lit< tt)) seen
