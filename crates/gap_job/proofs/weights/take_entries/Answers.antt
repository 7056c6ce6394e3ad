use Rattle.std.proofs.Common.{rules, refl, Ok, [], ◌≡◌, ◌&&◌, nat_le, length, true}
use Rattle.std.proofs.lemmas.Result.{err_from_is_err_and}
use Rattle.gap_job.specs.Entries.{with_weight}
use Rattle.gap_job.proofs.Walk.{goes_on, ends}
use Rattle.gap_job.proofs.weights.take_entries.Goals as goal

pub loop-entry-preserved : goal.loop-entry-preserved
loop-entry-preserved c =
    let known = c.loop-entry.invariant in
    record {
      so_far = goes_on with_weight (Ok []) c.args.entries.now c.loop-entry.entry-index c.entry-item.result c.loop-entry.weights c.take_entry.new.weights
          c.loop-entry-test.true c.entry-item.is known.so_far c.in_ok-take_entry.ensures.step;
      length = search rules;
    }

pub returns-in_err-take_entry : goal.returns-in_err-take_entry
returns-in_err-take_entry c =
    let known = c.loop-entry.invariant in
    let fine : (nat_le 1 (length c.args.entries.now) && nat_le (length c.args.entries.now) 101) ≡ true = search rules in
    let passed_on = err_from_is_err_and c.from_residual.result c.from_residual.ensures.1 in
    rw (passed_on.1, passed_on.2, fine)
    (ends with_weight (Ok []) c.args.entries.now c.loop-entry.entry-index c.entry-item.result c.loop-entry.weights c.in_err-take_entry.field-0.0
    (λ d. refl) c.loop-entry-test.true c.entry-item.is known.so_far c.in_err-take_entry.ensures.step)
