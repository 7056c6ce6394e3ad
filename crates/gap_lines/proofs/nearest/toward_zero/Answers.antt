use Rattle.std.proofs.Common.{◌≡◌, ◌⊎◌, inl, inr, pos, ◌≤ℤ◌, to_z, arith}
use Rattle.std.specs.Int.{w128}
use Rattle.std.proofs.lemmas.Int.{ints}
use Rattle.gap_lines.proofs.BestLaws.{nearer_first}
use Rattle.gap_lines.proofs.nearest.toward_zero.Goals as goal
use Rattle.gap_lines.proofs.nearest.toward_zero.Goals.{then-low-lt0, else-low-lt0}

pub returns-clause-first : goal.returns-clause-first
returns-clause-first g c =
    let floor = to_z w128 c.if-low-lt0.floor-bits in
    let f = c.ranges.low in
    let which : (floor ≡ pos 0) ⊎ (floor ≡ c.args.low) = elim c.if-low-lt0.branch [ then-low-lt0 w ↦ inl (grind (arith, ints)) | else-low-lt0 w ↦ inr (grind (arith, ints)) ] in
    let nn : pos 0 ≤ℤ floor = elim c.if-low-lt0.branch [ then-low-lt0 w ↦ grind (arith, ints) | else-low-lt0 w ↦ grind (arith, ints) ] in
    let lf : c.args.low ≤ℤ floor = elim c.if-low-lt0.branch [ then-low-lt0 w ↦ grind (arith, ints) | else-low-lt0 w ↦ grind (arith, ints) ] in
    nearer_first (g.C.Curve.value c.args.curve.now) c.args.low floor c.first_top.result.place c.args.top.now.value which nn lf c.first_top.ensures.from c.first_top.ensures.first
