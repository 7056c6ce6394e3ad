use Rattle.std.proofs.Common.{◌+◌, ◌*◌, ◌≤◌, ℕ, ℤ, ◌-ℤ◌, unsigned_abs, FitsSigned, lit<, arith}
use Rattle.std.proofs.lemmas.Int.{ints, to_z-of_z}
use Rattle.std.specs.Int.{w128}
use Rattle.gap_base.proofs.Machine.{fits_of}
use Rattle.gap_tangent.proofs.lagrangian.less_limited.Goals as goal

less_size : (a b : ℤ) (l : ℕ) → unsigned_abs a ≤ 170000000000000000000000000000000000 → unsigned_abs b ≤ 1000000000000000000000000000000 * l → unsigned_abs (a -ℤ b) ≤ 170000000000000000000000000000000000 + 1000000000000000000000000000000 * l
less_size a b l h k = omega (arith, ints)

pub returns-clause-small : goal.returns-clause-small
returns-clause-small c =
    let fc = c.ranges.constant in
    let f : FitsSigned w128 c.limited.result = record { sfits = c.limited.type_inv } in
    let k = c.requires.limit in
    let s = less_size c.args.constant c.limited.result c.args.limit c.requires.constant c.limited.ensures.small in
    let d : FitsSigned w128 (c.args.constant -ℤ c.limited.result) = fits_of (c.args.constant -ℤ c.limited.result) 3170000000000000000000000000000000000 (omega arith) (lit< tt) in
    simp to_z-of_z s
