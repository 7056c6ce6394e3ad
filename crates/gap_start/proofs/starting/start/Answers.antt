use Rattle.std.proofs.Common.{◌<◌, arith}
use Rattle.gap_start.proofs.PlainLaws.{plain_never}
use Rattle.gap_start.proofs.starting.start.Goals as goal

pub returns-then-held_most-k-clause-plain : goal.returns-then-held_most-k-clause-plain
returns-then-held_most-k-clause-plain c plain =
    let I = c.args.inst.now in
    let past : I.held_most < c.loop-k.k = omega arith in
    absurd (plain_never I c.args.w.p c.args.w.q c.loop-k.k c.n-k-end.ensures.instance plain c.loop-k.invariant.none c.loop-k.invariant.order past)

pub returns-clause-plain : goal.returns-clause-plain
returns-clause-plain c plain =
    let I = c.args.inst.now in
    let known = c.n-k-end.ensures.instance in
    let most = known.limits_are.held_most in
    let past : I.held_most < c.loop-k.k = omega arith in
    absurd (plain_never I c.args.w.p c.args.w.q c.loop-k.k known plain c.loop-k.invariant.none c.loop-k.invariant.order past)
