use Rattle.std.proofs.Common.{◌*◌, ◌≤◌, ℤ, pos, ◌-ℤ◌, ◌*ℤ◌, unsigned_abs, FitsSigned, lit<, ap, arith}
use Rattle.std.proofs.lemmas.Int.{ints, to_z-of_z}
use Rattle.std.specs.Int.{w128}
use Rattle.gap_base.proofs.Machine.{fits_of}
use Rattle.gap_tangent.proofs.gradients.gradient.Goals as goal

eight_size : (r : ℤ) → unsigned_abs r ≤ 1000000000000000000000000 → unsigned_abs (pos 8 *ℤ r) ≤ 8000000000000000000000000
eight_size r h = omega (arith, ints)

less_size : (a r : ℤ) → unsigned_abs a ≤ 16020000000000000000000000000 → unsigned_abs r ≤ 8000000000000000000000000 → unsigned_abs (a -ℤ r) ≤ 16250000000000000000000000000
less_size a r h k = omega (arith, ints)

pub returns-clause-value : goal.returns-clause-value
returns-clause-value c =
    let ft = c.ranges.tilt in
    let fr = c.ranges.reward in
    let r = c.args.reward in
    let s = c.steep.result in
    let f1 : FitsSigned w128 s = record { sfits = c.steep.type_inv } in
    let f2 : FitsSigned w128 (pos 8 *ℤ r) = fits_of (pos 8 *ℤ r) 8000000000000000000000000 (eight_size r c.requires.reward) (lit< tt) in
    let f3 : FitsSigned w128 (s -ℤ (pos 8 *ℤ r)) = fits_of (s -ℤ (pos 8 *ℤ r)) 16250000000000000000000000000 (less_size s (pos 8 *ℤ r) c.steep.ensures.small (eight_size r c.requires.reward)) (lit< tt) in
    let v = simp to_z-of_z at c.steep.ensures.value in
    simp to_z-of_z (ap (λ z. z -ℤ (pos 8 *ℤ r)) v)

pub returns-clause-small : goal.returns-clause-small
returns-clause-small c =
    let fr = c.ranges.reward in
    let r = c.args.reward in
    let s = c.steep.result in
    let f1 : FitsSigned w128 s = record { sfits = c.steep.type_inv } in
    let f2 : FitsSigned w128 (pos 8 *ℤ r) = fits_of (pos 8 *ℤ r) 8000000000000000000000000 (eight_size r c.requires.reward) (lit< tt) in
    let h = less_size s (pos 8 *ℤ r) c.steep.ensures.small (eight_size r c.requires.reward) in
    let f3 : FitsSigned w128 (s -ℤ (pos 8 *ℤ r)) = fits_of (s -ℤ (pos 8 *ℤ r)) 16250000000000000000000000000 h (lit< tt) in
    simp to_z-of_z h
