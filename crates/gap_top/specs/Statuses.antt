-- The exit statuses. Own to portgap.
use Rattle.std.specs.Prelude.{◌≡◌, ℕ, ◌⊎◌, List, [], ◌∷◌, Result, Ok, Err}
use Rattle.gap_words.specs.Forms.{FormValue, faulty, quick, solve, check, verify, demo, upgrade}
use Rattle.gap_words.specs.Refusals.{refusal_status}
use Rattle.gap_words.specs.declared.refusal.Refusal.{Refusal}
use Rattle.gap_rule.specs.declared.task.Task.{Task}
use Rattle.gap_top.specs.declared.stop.Stop.{Stop}
use Rattle.gap_top.specs.declared.stop.Stop.TheVariants.{Refused, ReadFault, WriteFault, OutOfMemory}

-- the number of a status: done, want of memory, a read fault, a write fault, or that of a refusal
abbrev pub status_number : Result (Unit {0}) Stop → ℕ
status_number (Ok done) = 0
status_number (Err (Refused why)) = refusal_status why
status_number (Err ReadFault) = 3
status_number (Err WriteFault) = 4
status_number (Err OutOfMemory) = 1

-- a number is one of these
abbrev pub IsOneOf : List ℕ → ℕ → Type 0
IsOneOf [] n = ⊥
IsOneOf (m ∷ more) n = (n ≡ m) ⊎ IsOneOf more n

-- the statuses that a form may have, whatever its files hold
abbrev pub IsStatusOf : FormValue → ℕ → Type 0
IsStatusOf faulty n = IsOneOf (1 ∷ 2 ∷ []) n
IsStatusOf (quick port asked) n = IsOneOf (0 ∷ 1 ∷ 3 ∷ 4 ∷ 5 ∷ 6 ∷ []) n
IsStatusOf (solve port job cert) n = IsOneOf (0 ∷ 1 ∷ 3 ∷ 4 ∷ 5 ∷ 6 ∷ []) n
IsStatusOf (check cert) n = IsOneOf (0 ∷ 1 ∷ 3 ∷ 4 ∷ 7 ∷ []) n
IsStatusOf (verify port job cert) n = IsOneOf (0 ∷ 1 ∷ 3 ∷ 4 ∷ 5 ∷ 6 ∷ 7 ∷ 8 ∷ []) n
IsStatusOf (demo asked) n = IsOneOf (0 ∷ 1 ∷ 4 ∷ []) n
IsStatusOf (upgrade cert new) n = IsOneOf (0 ∷ 1 ∷ 3 ∷ 4 ∷ 7 ∷ []) n

-- the statuses that a ruling allows: a task is done, or stops for memory or a fault; a refusal has its own, unless memory
-- or a read fault comes before it
abbrev pub Allows : Result Task Refusal → ℕ → Type 0
Allows (Ok task) n = IsOneOf (0 ∷ 1 ∷ 3 ∷ 4 ∷ []) n
Allows (Err why) n = IsOneOf (refusal_status why ∷ 1 ∷ 3 ∷ []) n
