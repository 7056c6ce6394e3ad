use Rattle.std.proofs.Common.{refl, Ok, ◌∙◌}
use Rattle.std.proofs.lemmas.Result.{err_from_is_err_and}
use Rattle.gap_job.specs.Entries.{with_limit}
use Rattle.gap_job.proofs.Walk.{goes_on, ends}
use Rattle.gap_job.proofs.limits.take_entries.Goals as goal

pub returns-in_err-take_entry : goal.returns-in_err-take_entry
returns-in_err-take_entry c =
    let known = c.loop-entry.invariant in
    let passed_on = err_from_is_err_and c.from_residual.result c.from_residual.ensures.1 in
    rw (passed_on.1, passed_on.2)
    (ends (with_limit c.args.n c.args.lots) (Ok c.args.limits) c.args.entries.now c.loop-entry.entry-index c.entry-item.result c.loop-entry.limits c.in_err-take_entry.field-0.0
    (λ d. refl) c.loop-entry-test.true c.entry-item.is known.so_far (rw known.named at c.in_err-take_entry.ensures.step))

pub loop-entry-preserved : goal.loop-entry-preserved
loop-entry-preserved c =
    let known = c.loop-entry.invariant in
    let named = c.take_entry.ensures.named in
    let sizes = c.take_entry.ensures.sizes in
    record {
      so_far = goes_on (with_limit c.args.n c.args.lots) (Ok c.args.limits) c.args.entries.now c.loop-entry.entry-index c.entry-item.result c.loop-entry.limits c.take_entry.new.limits
          c.loop-entry-test.true c.entry-item.is known.so_far (rw known.named at c.in_ok-take_entry.ensures.step);
      least = sizes.0 ∙ named ∙ known.named;
      greatest = sizes.1 ∙ named ∙ known.named;
      named = named ∙ known.named;
    }
