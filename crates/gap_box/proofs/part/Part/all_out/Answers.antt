use Rattle.std.proofs.Common.{refl}
use Rattle.std.proofs.lemmas.List.{take-replicate}
use Rattle.gap_box.specs.declared.cell.Cell.TheVariants.{Out}
use Rattle.gap_box.proofs.CellLaws.{all_out_are}
use Rattle.gap_box.proofs.part.Part.all_out.Goals as goal

pub returns : goal.returns
returns c = take-replicate c.args.n 256 Out c.requires.most

pub invariant_of-result : goal.invariant_of-result
invariant_of-result c = (c.requires.least, c.requires.most, refl, all_out_are 256)
