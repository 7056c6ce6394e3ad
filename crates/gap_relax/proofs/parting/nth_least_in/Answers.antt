use Rattle.std.proofs.Common.{◌++◌, ◌∷◌, List, ℤ, FitsSigned, lit<, subst, arith}
use Rattle.std.proofs.lemmas.Int.{to_z-of_z}
use Rattle.std.specs.List.Sorted.{IsPermutation}
use Rattle.std.specs.Int.{w128}
use Rattle.gap_base.proofs.Machine.{fits_of}
use Rattle.gap_relax.proofs.DifferenceLaws.{sizes_parted}
use Rattle.gap_relax.proofs.PartingLaws.{around_is}
use Rattle.gap_relax.proofs.parting.nth_least_in.Goals as goal

pub returns : goal.returns
returns c =
    let r = c.select_nth_unstable-last.result in
    let e = c.select_nth_unstable-last.ensures in
    let p = subst (λ (xs : List ℤ). IsPermutation xs (r.0.now ++ r.1.now ∷ r.2.now)) c.copy_from_slice.ensures.after e.permutation in
    let fit : FitsSigned w128 r.1.now = fits_of r.1.now 60000000000000000000000000000000000 (sizes_parted 60000000000000000000000000000000000 c.args.numbers.now r.0.now r.2.now r.1.now c.requires.numbers p).1 (lit< tt) in
    simp to_z-of_z (around_is c.args.numbers.now r.0.now r.2.now r.1.now c.args.k p (omega (arith, e.front_len)) e.partitioned)
