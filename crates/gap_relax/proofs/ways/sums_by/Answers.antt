use Rattle.std.proofs.Common.{◌≡◌, ◌-◌, ◌≤◌, ◌<◌, ◌&&◌, sym, unsigned_abs, lit<, FitsSigned, ◌∙◌, ap, if◌then◌else◌, cond, ℤ, ℕ, ◌-ℤ◌, arith}
use Rattle.std.proofs.lemmas.Int.{ints, to_z-of_z}
use Rattle.std.specs.Int.{w128, w32}
use Rattle.gap_base.specs.Sums.{at}
use Rattle.gap_base.proofs.Machine.{fits_of}
use Rattle.gap_base.proofs.SumLaws.{sum_none}
use Rattle.gap_base.proofs.Counts.{count_none}
use Rattle.gap_box.specs.declared.cell.Cell.{Cell}
use Rattle.gap_box.specs.Cells.{is_free}
use Rattle.gap_relax.specs.Partings.{is_tie}
use Rattle.gap_relax.specs.Choices.{cell_at}
use Rattle.gap_relax.specs.Differences.{difference, holds_at, is_tied, way}
use Rattle.gap_relax.proofs.PartingLaws.{left_more}
use Rattle.gap_relax.proofs.WayLaws.{total_more}
use Rattle.gap_relax.proofs.ways.sums_by.Goals as goal

pub loop-i-init : goal.loop-i-init
loop-i-init c =
    let f = c.ranges.price in
    let w = way c.args.part.now c.args.held_cost.now c.args.out_cost.now c.args.price c.args.ties in
    simp to_z-of_z (record {
      value = sym (sum_none (λ i. if w i then at c.args.held_cost.now i else at c.args.out_cost.now i));
      slope = sym (sum_none (λ i. if w i then at c.args.held_slope.now i else at c.args.out_slope.now i));
      left = let a = count_none (is_tied c.args.part.now c.args.held_cost.now c.args.out_cost.now c.args.price) in omega arith;
      value_small = omega (arith, ints);
      slope_small = omega (arith, ints);
    })

pub loop-i-preserved : goal.loop-i-preserved
loop-i-preserved c =
    let f = c.ranges.price in
    let fh : FitsSigned w128 c.cost_at-here.result = record { sfits = c.cost_at-here.type_inv } in
    let fa : FitsSigned w128 c.cost_at-away.result = record { sfits = c.cost_at-away.type_inv } in
    let hs : FitsSigned w32 c.slope_at.result = record { sfits = c.slope_at.type_inv } in
    let fs : FitsSigned w32 c.slope_at-in-loop-i.result = record { sfits = c.slope_at-in-loop-i.type_inv } in
    let here = c.cost_at-here.ensures in
    let away = c.cost_at-away.ensures in
    let fd : FitsSigned w128 (c.cost_at-here.result -ℤ c.cost_at-away.result) = fits_of (c.cost_at-here.result -ℤ c.cost_at-away.result) 60000000000000000000000000000000000 (apart c.cost_at-here.result c.cost_at-away.result here.small away.small) (lit< tt) in
    let inv = simp to_z-of_z at c.loop-i.invariant in
    let holds = simp to_z-of_z at c.is_held_by-held.ensures in
    let cost = simp to_z-of_z at c.chosen_cost-value.ensures.value in
    let slope = simp to_z-of_z at c.chosen_slope-slope.ensures.value in
    let after = simp to_z-of_z at c.left_after-left.ensures in
    let i = c.loop-i.i in
    let cells = c.args.part.now in
    let h = c.args.held_cost.now in
    let o = c.args.out_cost.now in
    let tied = is_tied cells h o c.args.price in
    let w = way cells h o c.args.price c.args.ties in
    let few : i < 256 = let m = c.len-i-end.ensures.most in omega arith in
    let cell = c.cell-cell.ensures.or_out in
    let difference_is : c.cost_at-here.result -ℤ c.cost_at-away.result ≡ difference h o i = ap (λ z. z -ℤ c.cost_at-away.result) here.value ∙ ap (λ z. at h i -ℤ z) away.value in
    let held : c.is_held_by-held.result ≡ w i = holds ∙ ap (λ (q : Cell). holds_at q c.args.price (c.cost_at-here.result -ℤ c.cost_at-away.result) c.loop-i.left) cell ∙ ap (λ (z : ℤ). holds_at (cell_at cells i) c.args.price z c.loop-i.left) difference_is ∙ ap (λ (n : ℕ). holds_at (cell_at cells i) c.args.price (difference h o i) n) inv.left in
    let v = total_more i 30000000000000000000000000000000000 w (at h) (at o) c.is_held_by-held.result _ c.cost_at-here.result c.cost_at-away.result c.chosen_cost-value.result few (lit< tt) inv.value_small c.chosen_cost-value.ensures.small inv.value held here.value away.value cost in
    let s = total_more i 20000 w (at c.args.held_slope.now) (at c.args.out_slope.now) c.is_held_by-held.result _ c.slope_at.result c.slope_at-in-loop-i.result c.chosen_slope-slope.result few (lit< tt) inv.slope_small c.chosen_slope-slope.ensures.small inv.slope held c.slope_at.ensures.value c.slope_at-in-loop-i.ensures.value slope in
    let tie : cond {A = ℕ} (is_free c.cell-cell.result && is_tie c.args.price (c.cost_at-here.result -ℤ c.cost_at-away.result)) 1 0 ≡ cond (tied i) 1 0 = ap (λ (q : Cell). cond {A = ℕ} (is_free q && is_tie c.args.price (c.cost_at-here.result -ℤ c.cost_at-away.result)) 1 0) cell ∙ ap (λ (z : ℤ). cond {A = ℕ} (is_free (cell_at cells i) && is_tie c.args.price z) 1 0) difference_is in
    simp to_z-of_z (record {
      value = v.0;
      slope = s.0;
      left = left_more i c.args.ties c.loop-i.left c.left_after-left.result tied inv.left (after ∙ ap (λ (n : ℕ). c.loop-i.left - n) tie);
      value_small = v.1;
      slope_small = s.1;
    })
  where
    apart : (a b : ℤ) → unsigned_abs a ≤ 30000000000000000000000000000000000 → unsigned_abs b ≤ 30000000000000000000000000000000000 → unsigned_abs (a -ℤ b) ≤ 60000000000000000000000000000000000
    apart a b h k = omega (arith, ints)
