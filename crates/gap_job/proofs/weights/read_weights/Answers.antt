use Rattle.std.proofs.Common.{◌∙◌, sym}
use Rattle.gap_job.proofs.Walk.{weights_at}
use Rattle.gap_job.proofs.weights.read_weights.Goals as goal

pub returns-in-Some-as_array : goal.returns-in-Some-as_array
returns-in-Some-as_array c =
    rw c.as_slice.ensures.value at c.take_entries.ensures
    ∙ sym (weights_at _ _ c.in-Some-as_array.list.now.items (sym (rw c.in-Some.is at c.get.ensures)) (sym (rw c.in-Some-as_array.is at c.as_array.ensures)))
