use Rattle.gap_rule.proofs.JobLaws.{looked_kept, looked_long}
use Rattle.gap_rule.proofs.job.read_job_for.Goals as goal

pub returns-in-Ok-clause-looked : goal.returns-in-Ok-clause-looked
returns-in-Ok-clause-looked g c =
    looked_kept c.args.name.now c.args.n c.in-Ok.file.bytes.items _ _ _ _ c.in-Ok.ensures.told c.in-Ok.ensures.frame c.deref.ensures.value c.job_of.ensures.tells c.job_of.ensures.calm

pub returns-in-Err-Refused-clause-looked : goal.returns-in-Err-Refused-clause-looked
returns-in-Err-Refused-clause-looked g c = looked_long c.args.name.now c.args.n (g.F.Files.files c.args.files.now) (g.F.Files.files c.read_file.new.files) (rw c.in-Err-Refused.field-0-is at c.in-Err-Refused.ensures.told) c.in-Err-Refused.ensures.frame
