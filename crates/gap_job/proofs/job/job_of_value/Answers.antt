use Rattle.std.proofs.Common.{sym, ◌∙◌, length, string_bytes}
use Rattle.std.specs.BTreeMap.{keys}
use Rattle.std.proofs.lemmas.List.{length-map}
use Rattle.gap_job.proofs.Readings.{unknown_at, known_at}
use Rattle.gap_job.proofs.job.job_of_value.Goals as goal

pub returns-in-Some-first_unknown-clause-job : goal.returns-in-Some-first_unknown-clause-job
returns-in-Some-first_unknown-clause-job c =
    rw c.capped.ensures
    (sym (unknown_at _ _ _ c.in-Some.members.now.entries (length (keys c.in-Some.members.now)) c.in-Some-first_unknown.rank
    (sym (rw c.in-Some.is at c.as_object.ensures)) (length-map (keys c.in-Some.members.now) string_bytes)
    (sym c.first_unknown.ensures ∙ c.in-Some-first_unknown.is)))

pub returns-in-None-clause-job : goal.returns-in-None-clause-job
returns-in-None-clause-job c =
    c.job_of.ensures.job
    ∙ sym (known_at _ _ _ c.in-Some.members.now.entries (length (keys c.in-Some.members.now))
    (sym (rw c.in-Some.is at c.as_object.ensures)) (length-map (keys c.in-Some.members.now) string_bytes)
    (sym c.first_unknown.ensures ∙ c.in-None.is))
