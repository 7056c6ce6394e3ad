use Rattle.std.proofs.Common.{◌≡◌, ℕ, ◌+◌, ◌<◌, ◌≤◌, length, length-set, set, unsigned_abs, FitsSigned, to_z, of_z, arith, subst, sym, ◌∙◌}
use Rattle.std.specs.Int.{w128}
use Rattle.std.proofs.lemmas.Int.{to_z-of_z}
use Rattle.gap_base.specs.Sums.{at}
use Rattle.gap_witness.specs.Frames.{setting_in, choice_in, level}
use Rattle.gap_witness.proofs.PlaceLaws.{at_more}
use Rattle.gap_witness.proofs.ranges.levels_of.Goals as goal

pub loop-i-preserved : goal.loop-i-preserved
loop-i-preserved c =
    let h = c.loop-i.invariant in
    let i = c.loop-i.i in
    let s = setting_in c.args.frame.now in
    let o = choice_in c.args.frame.now in
    let g = c.level_at.result in
    let fg : FitsSigned w128 g = record { sfits = c.level_at.type_inv } in
    let e = c.from.ensures in
    let n = h.count in
    let there : i < length c.loop-i.levels = omega arith in
    record {
      count = length-set c.loop-i.levels _ _ ∙ n;
      value = subst (λ (j : ℕ). (k : ℕ) → k < i + 1 → at (set c.loop-i.levels j (to_z w128 (of_z w128 g))) k ≡ level s o k) (sym e)
          (at_more c.loop-i.levels i (to_z w128 (of_z w128 g)) (λ k z. z ≡ level s o k) there h.value (to_z-of_z w128 g fg ∙ c.level_at.ensures.value));
      small = subst (λ (j : ℕ). (k : ℕ) → k < i + 1 → unsigned_abs (at (set c.loop-i.levels j (to_z w128 (of_z w128 g))) k) ≤ 16000000000000000000000000000) (sym e)
          (at_more c.loop-i.levels i (to_z w128 (of_z w128 g)) (λ k z. unsigned_abs z ≤ 16000000000000000000000000000) there h.small (rw (to_z-of_z w128 g fg) c.level_at.ensures.small));
    }
