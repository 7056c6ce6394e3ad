use Rattle.std.proofs.Common.{refl, ◌∙◌}
use Rattle.gap_job.proofs.Readings.{reading_text, reading_none}
use Rattle.gap_job.proofs.job.parse.Goals as goal

pub returns-in_default : goal.returns-in_default
returns-in_default c = (reading_none c.args.bytes.now c.in_default.ensures.cases.0, refl)

pub returns-in-Ok-from_str : goal.returns-in-Ok-from_str
returns-in-Ok-from_str c =
    reading_text c.args.bytes.now c.in-Ok.ensures.cases.1 ∙ rw c.in-Ok.ensures.cases.0 at c.in-Ok-from_str.ensures.ok
