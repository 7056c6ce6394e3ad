use Rattle.std.proofs.Common.{arith}
use Rattle.gap_box.proofs.PartLaws.{root_from}
use Rattle.gap_box.proofs.part.Part.root.Goals as goal

pub returns-clause-cells : goal.returns-clause-cells
returns-clause-cells c =
    root_from c.args.lo.now c.args.hi.now c.loop-i.part c.requires.same_length c.loop-i.invariant.same_length
    (λ k p. c.loop-i.invariant.done k (omega arith))
