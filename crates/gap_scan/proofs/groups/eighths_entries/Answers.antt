-- Each entry that is read leaves one fewer to read.
use Rattle.std.proofs.Common.{arith, sym, ap, ◌∙◌, ◌-◌, length, length-set, subst, Result}
use Rattle.gap_cert.specs.declared.field.Group.{Group}
use Rattle.gap_cert.specs.declared.field.Stop.{Stop}
use Rattle.gap_cert.specs.Formats.{Spot, Takes}
use Rattle.std.proofs.lemmas.Result.{err_from_is_err_and}
use Rattle.gap_scan.proofs.EntryLaws.{loop_stops, loop_reads, loop_ends}
use Rattle.gap_scan.proofs.groups.eighths_entries.Goals as goal

pub returns-in_err-entry-clause-read : goal.returns-in_err-entry-clause-read
returns-in_err-entry-clause-read c =
    let p = err_from_is_err_and c.from_residual.result c.from_residual.ensures.1 in
    rw (p.1, p.2) (loop_stops _ _ _ _ _ _ _ _ _ _ _ _ _ c.loop-entry.invariant.0 c.loop-entry-test.true c.in_err-entry.ensures.read)

pub loop-entry-preserved : goal.loop-entry-preserved
loop-entry-preserved c = (
  loop_reads _ _ _ _ _ _ _ _ _ _ _ _ _ _ _ c.loop-entry.invariant.0 c.loop-entry-test.true c.in_ok-entry.ensures.read c.set.ensures,
  ap length c.set.ensures ∙ length-set c.loop-entry.y (c.in_ok-entry.entry.asset - 1) c.in_ok-entry.entry.number ∙ c.loop-entry.invariant.1,
  omega (arith, c.in_ok-entry.ensures.range),
)

pub returns-clause-read : goal.returns-clause-read
returns-clause-read c =
    let e = loop_ends _ _ _ _ _ _ _ _ _ _ _ _ c.loop-entry.invariant.0 c.loop-entry-test.false in
    subst (λ (w : Result (Group × Spot) Stop). Takes w c.multipliers.new.cursor c.multipliers.result) (sym e) c.multipliers.ensures.read
