use Rattle.std.proofs.Common.{arith, subst}
use Rattle.gap_start.specs.declared.step.Kind.{Kind}
use Rattle.gap_start.specs.Steps.{HasRoom}
use Rattle.gap_start.proofs.StepLaws.{room_small}
use Rattle.gap_start.proofs.step.value_after.Goals as goal

pub moved_value-requires-clause-to : goal.moved_value-requires-clause-to
moved_value-requires-clause-to c =
    let room = subst (λ (k : Kind). HasRoom c.args.h.now.instance c.args.h.now.lots k c.args.i c.args.j) c.in-Move.is c.requires.room in
    let small = room_small c.args.h.now.instance c.args.h.now.lots c.args.i c.args.j c.requires.instance c.requires.taker room in
    omega arith
