use Rattle.std.proofs.Common.{arith}
use Rattle.gap_judge.proofs.PairLaws.{pair_place}
use Rattle.gap_judge.proofs.built.pair_place.Goals as goal

pub returns : goal.returns
returns c = rw c.from-n.ensures (rw c.from-i.ensures (rw c.from-j.ensures (pair_place c.args.n c.args.i c.args.j (omega (arith, c.requires.first, c.requires.second)))))
