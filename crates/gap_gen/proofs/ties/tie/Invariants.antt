use Rattle.gap_gen.specs.Draws.{KeepsAssets, AreTied}
use Rattle.gap_gen.proofs.ties.tie.Given as goal

abbrev pub invariant-loop-j : goal.invariant-loop-j
invariant-loop-j l = KeepsAssets l.initial.market l.market l.i × AreTied l.market l.loads l.i l.j
