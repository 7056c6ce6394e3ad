use Rattle.std.proofs.Common.{◌∙◌, sym}
use Rattle.gap_job.proofs.Walk.{limits_at}
use Rattle.gap_job.proofs.limits.read_limits.Goals as goal

pub returns-in-Some-as_array : goal.returns-in-Some-as_array
returns-in-Some-as_array c =
    rw (c.start-limits.ensures, c.as_slice.ensures.value) at c.take_entries.ensures
    ∙ sym (limits_at _ _ _ _ _ _ c.in-Some-as_array.list.now.items (sym (rw c.in-Some.is at c.get.ensures)) (sym (rw c.in-Some-as_array.is at c.as_array.ensures)))
