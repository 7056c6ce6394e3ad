-- Refusals: the exit status and the line of each. Own to portgap.
use Rattle.std.specs.Prelude.{ℕ, List, codes}
use Rattle.gap_verify.specs.Lines.{difference_line}
use Rattle.gap_words.specs.CertLines.{cert_line}
use Rattle.gap_words.specs.Lines.{port_line, job_line, keyed_text}
use Rattle.gap_words.specs.declared.refusal.Refusal.{Refusal}
use Rattle.gap_words.specs.declared.refusal.Refusal.TheVariants.{Words, Port, Job, HeldRange, Certificate, Differs}

-- the usage line, with every command
abbrev pub usage_line : List ℕ
usage_line = codes "usage: portgap quick PORT HELD LOTS P Q NODES | solve PORT JOB CERT | check CERT | verify PORT JOB CERT | demo NUMBER N HELD LOTS NODES | upgrade CERT NEW\n"

-- the line of a refusal
abbrev pub refusal_line : Refusal → List ℕ
refusal_line Words = usage_line
refusal_line (Port fault) = port_line fault
refusal_line (Job fault) = job_line fault
refusal_line HeldRange = keyed_text (codes "Range") (codes "held")
refusal_line (Certificate fault) = cert_line fault
refusal_line (Differs difference) = difference_line difference

-- the exit status of a refusal
abbrev pub refusal_status : Refusal → ℕ
refusal_status Words = 2
refusal_status (Port fault) = 5
refusal_status (Job fault) = 6
refusal_status HeldRange = 6
refusal_status (Certificate fault) = 7
refusal_status (Differs difference) = 8
