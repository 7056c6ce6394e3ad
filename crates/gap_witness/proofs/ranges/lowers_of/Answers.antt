use Rattle.std.proofs.Common.{◌≡◌, ℕ, ◌+◌, ◌<◌, length, length-set, set, slice_index_or, arith, subst, sym, ◌∙◌}
use Rattle.gap_witness.specs.Points.{lower_end}
use Rattle.gap_witness.specs.Frames.{choice_in}
use Rattle.gap_witness.proofs.PlaceLaws.{number_more}
use Rattle.gap_witness.proofs.ranges.lowers_of.Goals as goal

pub loop-i-preserved : goal.loop-i-preserved
loop-i-preserved c =
    let h = c.loop-i.invariant in
    let i = c.loop-i.i in
    let o = choice_in c.args.frame.now in
    let v = c.lower.result in
    let e = c.from.ensures in
    let n = h.count in
    let there : i < length c.loop-i.lowers = omega arith in
    record {
      count = length-set c.loop-i.lowers _ _ ∙ n;
      value = subst (λ (j : ℕ). (k : ℕ) → k < i + 1 → slice_index_or (set c.loop-i.lowers j v) k 0 ≡ lower_end o k) (sym e)
          (number_more c.loop-i.lowers i v (λ k z. z ≡ lower_end o k) there h.value c.lower.ensures.value);
    }
