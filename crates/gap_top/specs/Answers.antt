-- The whole contract of `run`. Own to portgap.
use Rattle.std.specs.Prelude.{◌≡◌, ℕ, ◌≤◌, ◌⊎◌, List, [], ◌∷◌, Result, Ok, Err}
use Rattle.gap_files.specs.Outside.{FilesNow, SinkNow, Rose, NoneFell, SameEverywhere}
use Rattle.gap_words.specs.Forms.{FormValue}
use Rattle.gap_words.specs.Names.{reads, writes}
use Rattle.gap_words.specs.Refusals.{refusal_line, refusal_status}
use Rattle.gap_words.specs.declared.refusal.Refusal.{Refusal}
use Rattle.gap_rule.specs.Names.{AreTold, RoseIn, SameOutside, held}
use Rattle.gap_rule.specs.Rules.{Rules, looks}
use Rattle.gap_rule.specs.declared.task.Task.{Task}
use Rattle.gap_top.specs.Printing.{WritesLine, WritesNothing}
use Rattle.gap_top.specs.Statuses.{IsOneOf, IsStatusOf, Allows}
use Rattle.gap_top.specs.Working.{cert_in, source_in, Performs}

-- the count of write faults of one of these names rose
abbrev pub FailedIn : List (List ℕ) → FilesNow → FilesNow → Type 0
FailedIn [] f g = ⊥
FailedIn (name ∷ names) f g = Rose (f.write_faults name) (g.write_faults name) ⊎ FailedIn names f g

-- what a refusal ended with: its status, and its line was written; or memory was wanted, and nothing was written
abbrev pub ReportsRefusal : Refusal → SinkNow → SinkNow → ℕ → Type 0
ReportsRefusal why s t status =
    ((status ≡ refusal_status why) × WritesLine (refusal_line why) s t) ⊎ ((status ≡ 1) × WritesNothing s t)

-- what came of a ruling: a task was done or stopped on the way, its certificate going into this file; a refusal was
-- answered, and every content stays
abbrev pub Comes : Result Task Refusal → (source name : List ℕ) → FilesNow → SinkNow → FilesNow → SinkNow → ℕ → Type 0
Comes (Ok task) source name f s g t status = Performs task source name f s g t status
Comes (Err why) source name f s g t status = ReportsRefusal why s t status × SameEverywhere f.content g.content

-- memory or a read fault stopped a run before it was ruled: nothing was written, and every content stays
pub record IsUnruled (f : FilesNow) (s : SinkNow) (g : FilesNow) (t : SinkNow) (status : ℕ) : Type 0 where
  pub status_is : IsOneOf (1 ∷ 3 ∷ []) status
  pub unwritten : t ≡ s
  pub contents : SameEverywhere f.content g.content

-- this ruling of what the files hold came of a run
pub record IsSettled (asked : FormValue) (holds : List ℕ → List ℕ) (f : FilesNow) (s : SinkNow) (g : FilesNow)
    (t : SinkNow) (status : ℕ) : Type 0 where
  pub ruling : Result Task Refusal
  pub rules : Rules asked holds ruling
  pub comes : Comes ruling (source_in asked) (cert_in asked) f s g t status

-- 3 and 4 come only where a count rose: 3 where that of a file rose that the command reads, and that it looks at before it is
-- ruled, and then nothing was written; 4 where that of the sink rose or that of a file that the command writes
pub record HasCauses (asked : FormValue) (f : FilesNow) (s : SinkNow) (g : FilesNow) (t : SinkNow) (status : ℕ) : Type
    0 where
  pub read_fault : status ≡ 3 → RoseIn (reads asked) f g
  pub looked : AreTold (reads asked) f → status ≡ 3 → RoseIn (looks asked (held f)) f g
  pub silent : status ≡ 3 → t ≡ s
  pub write_fault : status ≡ 4 → Rose s.faults t.faults ⊎ FailedIn (writes asked) f g

-- what stays: all contents and all counts of write faults but those of the files that the command writes, and all counts of
-- read faults but of those that it reads; none falls
pub record Stays (asked : FormValue) (f : FilesNow) (s : SinkNow) (g : FilesNow) (t : SinkNow) : Type 0 where
  pub contents : SameOutside (writes asked) f.content g.content
  pub others : SameOutside (reads asked) f.read_faults g.read_faults
  pub later : NoneFell f.read_faults g.read_faults
  pub writes_others : SameOutside (writes asked) f.write_faults g.write_faults
  pub writes_later : NoneFell f.write_faults g.write_faults
  pub sink_later : s.faults ≤ t.faults

-- words of this form were answered by a status; f and s are what the files and the sink tell before, g and t after:
-- possible: the status is one of the form's;
-- ruled: where the contents are told it is one that each ruling of them allows;
-- settled: what it came to, where they are told: a refusal writes its line, a task its report and its certificate;
-- causes: a fault comes only where a count rose;
-- stays: nothing changes but what the command reads and writes
pub record Answers (asked : FormValue) (f : FilesNow) (s : SinkNow) (g : FilesNow) (t : SinkNow) (status : ℕ) : Type 0 where
  pub possible : IsStatusOf asked status
  pub ruled : AreTold (reads asked) f → (r : Result Task Refusal) → Rules asked (held f) r → Allows r status
  pub settled : AreTold (reads asked) f → IsUnruled f s g t status ⊎ IsSettled asked (held f) f s g t status
  pub causes : HasCauses asked f s g t status
  pub stays : Stays asked f s g t
