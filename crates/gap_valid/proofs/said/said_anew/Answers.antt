use Rattle.std.proofs.Common.{arith}
use Rattle.gap_valid.proofs.Saying.{said_whole}
use Rattle.gap_valid.proofs.said.said_anew.Goals as goal

pub returns : goal.returns
returns c =
    let e = c.n-i-end.ensures.value in
    said_whole c.args.market.now c.loop-i.said c.loop-i.i (omega arith) c.n.ensures.market c.loop-i.invariant
