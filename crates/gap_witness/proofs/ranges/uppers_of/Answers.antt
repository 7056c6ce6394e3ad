use Rattle.std.proofs.Common.{◌≡◌, ℕ, ◌+◌, ◌<◌, length, length-set, set, slice_index_or, arith, subst, sym, ◌∙◌}
use Rattle.gap_witness.specs.Points.{upper_end}
use Rattle.gap_witness.specs.Frames.{choice_in}
use Rattle.gap_witness.proofs.PlaceLaws.{number_more}
use Rattle.gap_witness.proofs.ranges.uppers_of.Goals as goal

pub loop-i-preserved : goal.loop-i-preserved
loop-i-preserved c =
    let h = c.loop-i.invariant in
    let i = c.loop-i.i in
    let o = choice_in c.args.frame.now in
    let v = c.upper.result in
    let e = c.from.ensures in
    let n = h.count in
    let there : i < length c.loop-i.uppers = omega arith in
    record {
      count = length-set c.loop-i.uppers _ _ ∙ n;
      value = subst (λ (j : ℕ). (k : ℕ) → k < i + 1 → slice_index_or (set c.loop-i.uppers j v) k 0 ≡ upper_end o k) (sym e)
          (number_more c.loop-i.uppers i v (λ k z. z ≡ upper_end o k) there h.value c.upper.ensures.value);
    }
