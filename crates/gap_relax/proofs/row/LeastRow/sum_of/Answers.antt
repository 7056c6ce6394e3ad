use Rattle.std.proofs.Common.{◌≤◌, ◌<◌, FitsSigned, sym, arith, lit<, unsigned_abs, refl, subst}
use Rattle.std.proofs.lemmas.Int.{ints, to_z-of_z, fits_signed_from_abs}
use Rattle.std.specs.Int.{w128, w32}
use Rattle.gap_base.proofs.Machine.{fits_of}
use Rattle.gap_base.proofs.SumLaws.{sum_none}
use Rattle.gap_relax.specs.Rows.{difference_at, slope_at}
use Rattle.gap_relax.proofs.SeenLaws.{sum_next}
use Rattle.gap_relax.proofs.row.LeastRow.sum_of.Goals as goal

pub loop-k-init : goal.loop-k-init
loop-k-init c =
    let r = c.args.self.now in
    let few = r.seen_few in
    let value_small = r.value_small in
    let slope_small = r.slope_small in
    let v : unsigned_abs r.value ≤ 7680000000000000000000000000000000000 = omega arith in
    let s : unsigned_abs r.slope ≤ 5120000 = omega arith in
    let fv : FitsSigned w128 r.value = fits_of r.value 7680000000000000000000000000000000000 v (lit< tt) in
    let fs : FitsSigned w128 r.slope = fits_of r.slope 5120000 s (lit< tt) in
    let d = sum_none (difference_at r.extras) in
    let e = sum_none (slope_at r.extras) in
    simp to_z-of_z (record {
      value = omega (arith, ints);
      slope = omega (arith, ints);
      value_small = v;
      slope_small = s;
    })

pub loop-k-preserved : goal.loop-k-preserved
loop-k-preserved c =
    let r = c.args.self.now in
    let k = c.loop-k.k in
    let inv = c.loop-k.invariant in
    let taken = c.requires in
    let count = r.count_few in
    let most = r.most_few in
    let test = c.loop-k-test.true in
    let few : k < r.count = omega arith in
    let small = r.extras_small.each k few in
    let slope_size = small.slope in
    let fs : FitsSigned w32 (slope_at r.extras k) = fits_signed_from_abs w32 (slope_at r.extras k) (omega arith) in
    let slope_is = simp to_z-of_z at c.from-slope.ensures in
    let v = sum_next k 7680000000000000000000000000000000000 60000000000000000000000000000000000 r.value _ (difference_at r.extras k) (difference_at r.extras) inv.value refl inv.value_small small.difference (omega arith) (lit< tt) in
    let s = sum_next k 5120000 40000 r.slope _ c.from-slope.result (slope_at r.extras) inv.slope slope_is inv.slope_small (subst (λ z. unsigned_abs z ≤ 40000) (sym slope_is) small.slope) (omega arith) (lit< tt) in
    record { value = v.0; slope = s.0; value_small = v.1; slope_small = s.1 }
