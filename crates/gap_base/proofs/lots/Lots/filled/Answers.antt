use Rattle.gap_base.proofs.ListLaws.{small-filled}
use Rattle.std.proofs.Common.{◌^◌, arith}
use Rattle.std.proofs.lemmas.List.{take-replicate}
use Rattle.gap_base.proofs.lots.Lots.filled.Goals as goal

pub returns : goal.returns
returns c = take-replicate c.args.n 256 c.args.v c.requires.most

pub invariant_of-result : goal.invariant_of-result
invariant_of-result c = (c.requires.least, c.requires.most, small-filled 256 c.args.v (2 ^ 16) (omega (arith, c.ranges.v)))
