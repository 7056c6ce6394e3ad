-- A job file that is kept whole.
use Rattle.std.proofs.Common.{◌≡◌, ℕ, ◌<◌, true, nat_lt, List, length, Result, Err, sym, ap, subst, arith, if◌then◌else◌}
use Rattle.std.proofs.lemmas.Bool.Decides.{nat_tests}
use Rattle.gap_base.specs.declared.job.Job.{Job}
use Rattle.gap_files.specs.Outside.{FilesNow, bytes_of}
use Rattle.gap_job.specs.Jobs.{job_in, job_of_reading, reading}
use Rattle.gap_job.specs.declared.fault.JobFault.TheVariants.{TooLong}
use Rattle.gap_words.specs.declared.refusal.Refusal.TheVariants.{Job as BadJob}
use Rattle.gap_rule.specs.Reading.{IfTold, OnlyReads}
use Rattle.gap_rule.specs.Rules.{job_ruling, refused_as}
use Rattle.gap_rule.specs.Steps.{TellsRuling, HaltCause, IsLooked}
use Rattle.gap_rule.specs.declared.stop.Halt.{Halt}
use Rattle.gap_rule.specs.declared.stop.Halt.TheVariants.{Refused}
use Rattle.gap_rule.proofs.RuleLaws.{is_value, cause_calm}

-- the bytes of a file were kept, and ruled
pub looked_kept : (name : List ℕ) (n : ℕ) (kept slice : List ℕ) (f g : FilesNow) (r : Result Job Halt) → IfTold f name (λ bytes. kept ≡ bytes) → OnlyReads name f g → slice ≡ kept → TellsRuling (λ z. z ≡ job_ruling n slice) r → HaltCause ⊥ r → IsLooked name (λ bytes z. z ≡ job_ruling n bytes) f g r
looked_kept name n kept slice f g r told frame same tells calm = record {
  told = λ content is.
      subst (λ (bytes : List ℕ). TellsRuling (λ z. z ≡ job_ruling n bytes) r) (told content is)
      (subst (λ (bytes : List ℕ). TellsRuling (λ z. z ≡ job_ruling n bytes) r) same tells);
  cause = cause_calm _ r calm;
  frame = frame;
}

long_job : (n : ℕ) (bytes : List ℕ) → 1048576 < length bytes → job_in n bytes ≡ Err TooLong
unfolding job_in
long_job n bytes long =
    let test : nat_lt 1048576 (length bytes) ≡ true = grind (arith, nat_tests) in
    ap (λ b. if b then Err TooLong else job_of_reading n (reading bytes)) test

-- a file has more bytes than a job may have
pub looked_long : (name : List ℕ) (n : ℕ) (f g : FilesNow) → IfTold f name (λ bytes. 1048576 < length bytes) → OnlyReads name f g → IsLooked name (λ bytes z. z ≡ job_ruling n bytes) f g (Err (Refused (BadJob TooLong)))
looked_long name n f g told frame = record {
  told = λ content is. is_value (job_ruling n (bytes_of content)) (Err (BadJob TooLong)) (sym (ap (refused_as BadJob) (long_job n (bytes_of content) (told content is))));
  cause = tt;
  frame = frame;
}
