use Rattle.gap_gen.specs.Demo.{generator_of}
use Rattle.gap_gen.specs.Draws.{AreDrawn, stands_at}
use Rattle.gap_gen.proofs.demo.demo_market.Given as goal

abbrev pub invariant-loop-i : goal.invariant-loop-i
invariant-loop-i l = AreDrawn (generator_of l.fn.number) l.fn.n l.market l.loads.items l.i × stands_at (generator_of l.fn.number) l.i l.words
