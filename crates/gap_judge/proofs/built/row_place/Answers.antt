use Rattle.gap_judge.proofs.PairLaws.{row_place}
use Rattle.gap_judge.proofs.built.row_place.Goals as goal

pub returns : goal.returns
returns c = rw c.from-i.ensures (rw c.from.ensures (row_place c.args.i c.args.k))
