use Rattle.std.proofs.Common.{arith}
use Rattle.gap_base.proofs.NumeralLaws.{times_step, times_kept}
use Rattle.gap_base.proofs.numeral.times.Goals.{then-product-le-GREATEST, else-product-le-GREATEST}
use Rattle.gap_base.proofs.numeral.times.Goals as goal

-- src/numeral.rt:33:5
pub loop-preserved : goal.loop-preserved
loop-preserved c = elim c.if-product-le-GREATEST.branch [
  | then-product-le-GREATEST w ↦ rw w.product-is (omega arith, times_step c.loop.product c.args.size c.loop.counter (omega arith) c.loop.invariant.1)
  | else-product-le-GREATEST w ↦ rw w.product-is (c.loop.invariant.0, times_kept c.loop.product c.args.size c.loop.counter (omega arith) c.loop.invariant.1)
]
