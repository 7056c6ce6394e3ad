use Rattle.std.proofs.Common.{◌^◌, lit<}
use Rattle.gap_base.proofs.ListLaws.{small-filled}
use Rattle.std.proofs.lemmas.List.{take-replicate}
use Rattle.gap_base.proofs.eighths.Eighths.zeros.Goals as goal

pub returns : goal.returns
returns c = take-replicate c.args.n 256 0 c.requires.most

pub invariant_of-result : goal.invariant_of-result
invariant_of-result c = (c.requires.least, c.requires.most, small-filled 256 0 (2 ^ 32) (lit< tt))
