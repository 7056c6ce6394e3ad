-- Completeness, from the contract of `run`.
use Rattle.std.proofs.Common.{◌≡◌, ℕ, ◌⊎◌, inl, inr, Ok, Err}
use Rattle.gap_files.specs.Outside.{FilesNow, SinkNow, Rose}
use Rattle.gap_words.specs.Forms.{FormValue}
use Rattle.gap_words.specs.Names.{reads, writes}
use Rattle.gap_words.specs.Refusals.{refusal_status}
use Rattle.gap_words.specs.declared.refusal.Refusal.{Refusal}
use Rattle.gap_rule.specs.Names.{AreTold, RoseIn, held}
use Rattle.gap_rule.specs.Rules.{Rules}
use Rattle.gap_rule.specs.declared.task.Task.{Task}
use Rattle.gap_top.specs.Answers.{Answers, FailedIn}
use Rattle.gap_top.specs.Statuses.{Allows}

decided : (task : Task) (n : ℕ) → Allows (Ok task) n → (n ≡ 3 → ⊥) → (n ≡ 4 → ⊥) → (n ≡ 0) ⊎ (n ≡ 1)
decided task n (inl zero) calm still = inl zero
decided task n (inr (inl one)) calm still = inr one
decided task n (inr (inr (inl three))) calm still = absurd (calm three)
decided task n (inr (inr (inr (inl four)))) calm still = absurd (still four)
decided task n (inr (inr (inr (inr none)))) calm still = absurd none

refused : (why : Refusal) (n : ℕ) → Allows (Err why) n → (n ≡ 3 → ⊥) → (n ≡ refusal_status why) ⊎ (n ≡ 1)
refused why n (inl same) calm = inl same
refused why n (inr (inl one)) calm = inr one
refused why n (inr (inr (inl three))) calm = absurd (calm three)
refused why n (inr (inr (inr none))) calm = absurd none

neither : (P Q : Type 0) → ¬ P → ¬ Q → P ⊎ Q → ⊥
neither P Q no_p no_q (inl p) = no_p p
neither P Q no_p no_q (inr q) = no_q q

-- with told contents and counts that didn't rise a task is done, or memory was wanted
pub done_or_memory : (asked : FormValue) (f : FilesNow) (s : SinkNow) (g : FilesNow) (t : SinkNow) (status : ℕ) (task : Task) → Answers asked f s g t status → AreTold (reads asked) f → Rules asked (held f) (Ok task) → ¬ (RoseIn (reads asked) f g) → ¬ (Rose s.faults t.faults) → ¬ (FailedIn (writes asked) f g) → (status ≡ 0) ⊎ (status ≡ 1)
done_or_memory asked f s g t status task answers told is calm still whole =
    decided task status (answers.ruled told _ is) (λ three. calm (answers.causes.read_fault three)) (λ four. neither _ _ still whole (answers.causes.write_fault four))

-- and a refusal has its own status, or memory was wanted
pub refused_or_memory : (asked : FormValue) (f : FilesNow) (s : SinkNow) (g : FilesNow) (t : SinkNow) (status : ℕ) (why : Refusal) → Answers asked f s g t status → AreTold (reads asked) f → Rules asked (held f) (Err why) → ¬ (RoseIn (reads asked) f g) → (status ≡ refusal_status why) ⊎ (status ≡ 1)
refused_or_memory asked f s g t status why answers told is calm =
    refused why status (answers.ruled told _ is) (λ three. calm (answers.causes.read_fault three))
