use Rattle.std.proofs.Common.{◌≡◌, true, false, pos, ℤ, ◌≤ℤ◌, ◌<ℤ◌, refl, sym, arith}
use Rattle.std.proofs.lemmas.Int.{ints, by_lt_z, to_z-of_z}
use Rattle.std.specs.Int.{w128}
use Rattle.gap_instance.specs.Objective.{cov_of}
use Rattle.gap_psd.specs.Shifts.{r_of}
use Rattle.gap_psd.specs.Factors.{owed}
use Rattle.gap_factor.proofs.ColumnLaws.{takes_none, takes_some}
use Rattle.gap_factor.proofs.columns.try_column.Goals as goal

not_above : (z : ℤ) → (pos 0 <ℤ z → false ≡ true) → z ≤ℤ pos 0
not_above z never = by_lt_z (pos 0) z (λ h. let e = never h in cc) (λ l. l)

pub returns-then-not-is_owed-clause-taken : goal.returns-then-not-is_owed-clause-taken
returns-then-not-is_owed-clause-taken c =
    let e = c.owed_at-pivot.ensures.value in
    let back = to_z-of_z w128 c.owed_at-pivot.result (record { sfits = c.owed_at-pivot.type_inv }) in
    let none = not_above _ c.if-not-is_owed.ensures.1 in
    let h : owed (cov_of c.args.inst.now.market) (r_of c.args.shift.now) c.args.j c.args.j ≤ℤ pos 0 = omega (arith, ints) in
    sym (takes_none c.args.shift.now.assets (cov_of c.args.inst.now.market) (r_of c.args.shift.now) c.args.j h)

pub returns-clause-taken : goal.returns-clause-taken
returns-clause-taken c =
    let e = c.owed_at-pivot.ensures.value in
    let back = to_z-of_z w128 c.owed_at-pivot.result (record { sfits = c.owed_at-pivot.type_inv }) in
    let some = c.if-not-is_owed.ensures.0 refl in
    let h : pos 0 <ℤ owed (cov_of c.args.inst.now.market) (r_of c.args.shift.now) c.args.j c.args.j = omega (arith, ints) in
    takes_some c.args.shift.now.assets (cov_of c.args.inst.now.market) (r_of c.args.shift.now) c.args.j c.fill_column.result h c.fill_column.ensures.fit
