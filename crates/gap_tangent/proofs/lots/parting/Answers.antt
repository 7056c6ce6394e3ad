use Rattle.std.proofs.Common.{◌≡◌, ◌+◌, ◌≤◌, subst, arith}
use Rattle.gap_tangent.specs.Lots.{unders}
use Rattle.gap_tangent.proofs.LotsLaws.{none_under}
use Rattle.gap_tangent.proofs.lots.parting.Goals as goal

pub narrowed-half-requires-clause-low : goal.narrowed-half-requires-clause-low
narrowed-half-requires-clause-low c = let a = none_under c.args.end c.args.part.now in omega arith

pub returns-clause-parts : goal.returns-clause-parts
returns-clause-parts c =
    let i = c.loop-bracket.invariant in
    let o = i.order in
    let t = c.loop-bracket-test.false in
    let e : c.loop-bracket.bracket.high ≡ c.loop-bracket.bracket.low + 1 = omega arith in
    record { few = i.few; enough = subst (λ (h : _). c.args.k ≤ unders c.args.end h c.args.part.now) e i.enough }
