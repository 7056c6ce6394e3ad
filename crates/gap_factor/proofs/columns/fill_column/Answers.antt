use Rattle.std.proofs.Common.{◌≡◌, pos, sym, ap, ◌∙◌, refl, unsigned_abs, arith, below_more, FitsSigned}
use Rattle.std.proofs.lemmas.Int.{to_z-of_z, fits_signed_from_abs}
use Rattle.std.specs.Int.{w64, w128}
use Rattle.gap_instance.specs.Objective.{cov_of}
use Rattle.gap_psd.specs.Shifts.{r_of}
use Rattle.gap_psd.specs.Factors.{wanted, whole_root}
use Rattle.gap_factor.proofs.ColumnLaws.{written_step, written_start, small_start, pivot_kept, wanted_kept, all_fit, not_fit, fit, too_large_at, small_at}
use Rattle.gap_factor.proofs.columns.fill_column.Goals as goal

pub loop-i-init : goal.loop-i-init
loop-i-init c = record {
  so_far = written_start (cov_of c.args.inst.now.market) c.args.shift.now c.args.j;
  small = small_start (cov_of c.args.inst.now.market) c.args.shift.now c.args.j;
}

pub wanted_at-entry-requires-clause-root_is : goal.wanted_at-entry-requires-clause-root_is
wanted_at-entry-requires-clause-root_is c = to_z-of_z w64 c.args.root c.ranges.root ∙ c.requires.root_is ∙ ap (λ x. pos (whole_root (unsigned_abs x))) (sym (pivot_kept (cov_of c.args.inst.now.market) c.args.shift.now c.loop-i.shift c.args.j c.requires.column c.loop-i.invariant.so_far.kept))

pub returns-then-not-fits-clause-fit : goal.returns-then-not-fits-clause-fit
returns-then-not-fits-clause-fit c =
    let fits : FitsSigned w128 c.wanted_at-entry.result = record { sfits = c.wanted_at-entry.type_inv } in
    let test = simp to_z-of_z at c.fits.ensures in
    let big = not_fit c.fits.result (unsigned_abs c.wanted_at-entry.result) 1000000000000000 test c.if-not-fits.true in
    (λ w. cc, λ z. absurd (too_large_at (cov_of c.args.inst.now.market) c.args.shift.now c.loop-i.shift c.args.j c.loop-i.i c.wanted_at-entry.result (omega arith) c.requires.column c.loop-i.invariant.so_far.kept c.wanted_at-entry.ensures.value big z))

pub loop-i-preserved : goal.loop-i-preserved
loop-i-preserved c =
    let fits : FitsSigned w128 c.wanted_at-entry.result = record { sfits = c.wanted_at-entry.type_inv } in
    let test = simp to_z-of_z at c.fits.ensures in
    let small = fit c.fits.result (unsigned_abs c.wanted_at-entry.result) 1000000000000000 test c.if-not-fits.false in
    let short : FitsSigned w64 c.wanted_at-entry.result = fits_signed_from_abs w64 c.wanted_at-entry.result (omega arith) in
    let value = c.wanted_at-entry.ensures.value ∙ wanted_kept (cov_of c.args.inst.now.market) c.args.shift.now c.loop-i.shift c.args.j c.loop-i.i (omega arith) c.requires.column c.loop-i.invariant.so_far.kept in
    let new = simp to_z-of_z at c.set_r.ensures in
    record {
      so_far = written_step (wanted (cov_of c.args.inst.now.market) (r_of c.args.shift.now) c.args.j) c.args.shift.now c.loop-i.shift c.set_r.new.self c.args.j c.loop-i.i c.wanted_at-entry.result (omega arith) (omega arith) c.n-i-end.ensures.shift.factor_length c.loop-i.invariant.so_far value new;
      small = below_more _ _ c.loop-i.invariant.small (small_at (cov_of c.args.inst.now.market) c.args.shift.now c.loop-i.shift c.args.j c.loop-i.i c.wanted_at-entry.result (omega arith) c.requires.column c.loop-i.invariant.so_far.kept c.wanted_at-entry.ensures.value small);
    }

pub returns-clause-fit : goal.returns-clause-fit
returns-clause-fit c = let whole : c.loop-i.i ≡ c.args.shift.now.assets = omega arith in (λ w. all_fit c.args.shift.now.assets (cov_of c.args.inst.now.market) (r_of c.args.shift.now) c.args.j (rw whole at c.loop-i.invariant.small), λ z. refl)
