-- The form of the words after the program's name. Own to portgap.
use Rattle.std.specs.Prelude.{◌≡◌, ◌≢◌, ℕ, ◌≤◌, Bool, not, ◌&&◌, nat_lt, nat_eq, List, [], length, slice_index_or, codes, Option, Some, None, if◌then◌else◌}
use Rattle.std.specs.Option.{option_and_then}
use Rattle.std.specs.Str.{bytes_eq}
use Rattle.gap_words.specs.Numbers.{number, number_in, held_in}
use Rattle.gap_words.specs.declared.form.DemoWords.{DemoWords}
use Rattle.gap_words.specs.declared.form.Form.{Form}
use Rattle.gap_words.specs.declared.form.Form.TheVariants.{Faulty, Quick, Solve, Check, Verify, Demo, Upgrade}
use Rattle.gap_words.specs.declared.form.QuickWords.{QuickWords}

-- what words ask for: the form of no command, or a command with the names of its files and its values
pub data FormValue : Type 0 where
  faulty : FormValue
  quick : (port : List ℕ) → QuickWords → FormValue
  solve : (port job cert : List ℕ) → FormValue
  check : (cert : List ℕ) → FormValue
  verify : (port job cert : List ℕ) → FormValue
  demo : DemoWords → FormValue
  upgrade : (cert new : List ℕ) → FormValue

-- what contracts see of a form
abbrev pub form_value : Form → FormValue
form_value Faulty = faulty
form_value (Quick port asked) = quick port.now asked
form_value (Solve port job cert) = solve port.now job.now cert.now
form_value (Check cert) = check cert.now
form_value (Verify port job cert) = verify port.now job.now cert.now
form_value (Demo asked) = demo asked
form_value (Upgrade cert new) = upgrade cert.now new.now

-- the word at a place, counted from 0; no bytes where there is none
abbrev pub word_at : List (List ℕ) → ℕ → List ℕ
word_at words place = slice_index_or words place []

infixl 10 ◌>>=◌
abbrev ◌>>=◌ : {A B : Type 0} → Option A → (A → Option B) → Option B
value >>= next = option_and_then next value

-- a name has at least one byte
abbrev pub is_name : List ℕ → Bool
is_name word = nat_lt 0 (length word)

-- the values of `quick PORT HELD LOTS P Q NODES`, where the words behind the first are in form: there are six, PORT
-- is a name, and the others are numbers in their ranges
unfoldable pub quick_of : List (List ℕ) → Option QuickWords
quick_of words = if nat_eq (length words) 7 && is_name (word_at words 1) then (do
  held ← held_in (word_at words 2)
  lots ← number_in 1 10000 (word_at words 3)
  q ← number_in 1 100 (word_at words 5)
  p ← number_in 0 q (word_at words 4)
  nodes ← number_in 0 100000 (word_at words 6)
  Some (record { held = held.0; held_most = held.1; lots = lots; weight = record { p = p; q = q }; nodes = nodes }))
    else None

-- the values of `demo NUMBER N HELD LOTS NODES`, where the words behind the first are in form: there are five numbers in
-- their ranges, of which NUMBER has at most 18 digits
unfoldable pub demo_of : List (List ℕ) → Option DemoWords
demo_of words = if nat_eq (length words) 6 then (do
  number ← number 18 (word_at words 1)
  n ← number_in 2 256 (word_at words 2)
  held ← number_in 1 n (word_at words 3)
  lots ← number_in 1 10000 (word_at words 4)
  nodes ← number_in 0 100000 (word_at words 5)
  Some (record { number = number; n = n; held = held; lots = lots; nodes = nodes })) else None

-- are the words behind the first the names PORT JOB CERT, with CERT spelled like neither of the others?
unfoldable pub are_files : List (List ℕ) → Bool
are_files words =
    nat_eq (length words) 4 && is_name (word_at words 1) && is_name (word_at words 2) && is_name (word_at words 3)
    && not (bytes_eq (word_at words 3) (word_at words 1)) && not (bytes_eq (word_at words 3) (word_at words 2))

-- are the words behind the first the names CERT NEW, with NEW spelled unlike CERT?
unfoldable pub are_two : List (List ℕ) → Bool
are_two words =
    nat_eq (length words) 3 && is_name (word_at words 1) && is_name (word_at words 2)
    && not (bytes_eq (word_at words 2) (word_at words 1))

-- what is asked for by values, where there are some
abbrev pub with_values : {T : Type 0} → (T → FormValue) → Option T → FormValue
with_values command None = faulty
with_values command (Some asked) = command asked

-- what the words of `quick` ask for
unfoldable pub quick_form : List (List ℕ) → FormValue
quick_form words = with_values (quick (word_at words 1)) (quick_of words)

-- what the words of `demo` ask for
unfoldable pub demo_form : List (List ℕ) → FormValue
demo_form words = with_values demo (demo_of words)

-- what the words of `check` ask for: one name stands behind it
unfoldable pub check_form : List (List ℕ) → FormValue
check_form words = if nat_eq (length words) 2 && is_name (word_at words 1) then check (word_at words 1) else faulty

-- what the words of `upgrade` ask for
unfoldable pub upgrade_form : List (List ℕ) → FormValue
upgrade_form words = if are_two words then upgrade (word_at words 1) (word_at words 2) else faulty

-- what the words of a command over PORT JOB CERT ask for
unfoldable pub files_form : (List ℕ → List ℕ → List ℕ → FormValue) → List (List ℕ) → FormValue
files_form command words = if are_files words then command (word_at words 1) (word_at words 2) (word_at words 3) else faulty

-- the form of the words: that of the command which the first of them names, else faulty
unfoldable pub form : List (List ℕ) → FormValue
form words =
    if bytes_eq (word_at words 0) (codes "quick") then quick_form words
    else (if bytes_eq (word_at words 0) (codes "solve") then files_form solve words
    else (if bytes_eq (word_at words 0) (codes "check") then check_form words
    else (if bytes_eq (word_at words 0) (codes "verify") then files_form verify words
    else (if bytes_eq (word_at words 0) (codes "demo") then demo_form words
    else (if bytes_eq (word_at words 0) (codes "upgrade") then upgrade_form words else faulty)))))

-- the values of `quick` are in their ranges. Source: the limits of the model
pub record AreInRange (asked : QuickWords) : Type 0 where
  pub least_held : 1 ≤ asked.held
  pub held_range : asked.held ≤ asked.held_most
  pub most_held : asked.held_most ≤ 256
  pub least_lots : 1 ≤ asked.lots
  pub most_lots : asked.lots ≤ 10000
  pub least_q : 1 ≤ asked.weight.q
  pub most_q : asked.weight.q ≤ 100
  pub most_p : asked.weight.p ≤ asked.weight.q
  pub most_nodes : asked.nodes ≤ 100000

-- the values of `demo` are in their ranges
pub record IsDemoInRange (asked : DemoWords) : Type 0 where
  pub least_n : 2 ≤ asked.n
  pub most_n : asked.n ≤ 256
  pub least_held : 1 ≤ asked.held
  pub most_held : asked.held ≤ asked.n
  pub least_lots : 1 ≤ asked.lots
  pub most_lots : asked.lots ≤ 10000
  pub most_nodes : asked.nodes ≤ 100000

-- the file that is written isn't spelled like one that is read
pub record IsApart (port job cert : List ℕ) : Type 0 where
  pub from_port : cert ≢ port
  pub from_job : cert ≢ job

-- what is known of the values of a form
abbrev pub IsFormInRange : FormValue → Type 0
IsFormInRange faulty = Unit {0}
IsFormInRange (quick port asked) = AreInRange asked
IsFormInRange (solve port job cert) = IsApart port job cert
IsFormInRange (check cert) = Unit {0}
IsFormInRange (verify port job cert) = IsApart port job cert
IsFormInRange (demo asked) = IsDemoInRange asked
IsFormInRange (upgrade cert new) = new ≢ cert
