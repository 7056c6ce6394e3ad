-- Steps of a run, one after the other.
use Rattle.std.proofs.Common.{◌≡◌, ℕ, ◌<◌, ◌≤◌, inl, inr, List, [], ◌++◌, length, append-nil, Result, Ok, Err, IsErr, refl, sym, ◌∙◌, subst, arith}
use Rattle.gap_files.specs.Outside.{FilesNow, SinkNow, Rose}
use Rattle.gap_files.specs.Marks.{Mark, appends, Streams, streams, Did, DidFront, DidLess}
use Rattle.gap_files.specs.Steps.{Does, HasCause, Keeps, Step, Closes}
use Rattle.gap_files.specs.declared.halt.Halt.{Halt}
use Rattle.gap_files.specs.declared.halt.Halt.TheVariants.{WriteFault, OutOfMemory}
use Rattle.gap_files.proofs.MarkLaws.{did_none, did_both, front_of_did, front_of_more, front_behind}

-- what stays over two steps
pub keeps_both : (name : List ℕ) (f : FilesNow) (s : SinkNow) (g : FilesNow) (t : SinkNow) (h : FilesNow) (u : SinkNow)
    → Keeps name f s g t → Keeps name g t h u → Keeps name f s h u
keeps_both name f s g t h u first second = record {
  contents = λ other ne. second.contents other ne ∙ first.contents other ne;
  reads = λ other. second.reads other ∙ first.reads other;
  others = λ other ne. second.others other ne ∙ first.others other ne;
  later_files = λ other. let x = first.later_files other in let y = second.later_files other in omega arith;
  later_sink = let x = first.later_sink in let y = second.later_sink in omega arith;
}

pub keeps_none : (name : List ℕ) (f : FilesNow) (s : SinkNow) → Keeps name f s f s
keeps_none name f s = record {
  contents = λ other ne. refl;
  reads = λ other. refl;
  others = λ other ne. refl;
  later_files = λ other. omega arith;
  later_sink = omega arith;
}

rose_later : (x y z : ℕ) → x ≤ y → Rose y z → Rose x z
rose_later x y z later rose = omega arith

-- why a step stopped that came behind another one
pub cause_later : (name : List ℕ) (f : FilesNow) (s : SinkNow) (g : FilesNow) (t : SinkNow) (h : FilesNow) (u : SinkNow) (r : Result (Unit {0}) Halt)
    → Keeps name f s g t → HasCause name g t h u r → HasCause name f s h u r
cause_later name f s g t h u (Ok value) keeps cause = tt
cause_later name f s g t h u (Err WriteFault) keeps (inl rose) = inl (rose_later _ _ _ keeps.later_sink rose)
cause_later name f s g t h u (Err WriteFault) keeps (inr rose) = inr (rose_later _ _ _ (keeps.later_files name) rose)
cause_later name f s g t h u (Err OutOfMemory) keeps cause = tt

does_behind : (old mid new : Streams) (a b : List Mark) (r : Result (Unit {0}) Halt) → Did old mid a → Does mid new b r → Does old new (a ++ b) r
does_behind old mid new a b (Ok value) first second = did_both old mid new a b first second
does_behind old mid new a b (Err halt) first second = front_behind old mid new a b first second

-- a whole step and the one that follows it
pub then_step : (name : List ℕ) (f : FilesNow) (s : SinkNow) (g : FilesNow) (t : SinkNow) (h : FilesNow) (u : SinkNow)
    (a b : List Mark) (value : Unit {0}) (r : Result (Unit {0}) Halt)
    → Step name f s g t a (Ok value) → Step name g t h u b r → Step name f s h u (a ++ b) r
then_step name f s g t h u a b value r first second = record {
  does = does_behind (streams name f s) (streams name g t) (streams name h u) a b r first.does second.does;
  cause = cause_later name f s g t h u r first.keeps second.cause;
  keeps = keeps_both name f s g t h u first.keeps second.keeps;
}

-- a step that stopped before what follows it
pub stops_early : (name : List ℕ) (f : FilesNow) (s : SinkNow) (g : FilesNow) (t : SinkNow) (a b : List Mark) (halt : Halt)
    → Step name f s g t a (Err halt) → Step name f s g t (a ++ b) (Err halt)
stops_early name f s g t a b halt step = record {
  does = front_of_more (streams name f s) (streams name g t) a b step.does;
  cause = step.cause;
  keeps = step.keeps;
}

-- memory was refused behind a whole step
pub gives_up : (name : List ℕ) (f : FilesNow) (s : SinkNow) (g : FilesNow) (t : SinkNow) (a b : List Mark) (value : Unit {0})
    → Step name f s g t a (Ok value) → Step name f s g t (a ++ b) (Err OutOfMemory)
gives_up name f s g t a b value step = record {
  does = front_of_did (streams name f s) (streams name g t) a b step.does;
  cause = tt;
  keeps = step.keeps;
}

-- memory was refused before anything was put out
pub gives_up_at_once : (name : List ℕ) (f : FilesNow) (s : SinkNow) (due : List Mark) → Step name f s f s due (Err OutOfMemory)
gives_up_at_once name f s due = record {
  does = front_of_did (streams name f s) (streams name f s) [] due (did_none (streams name f s));
  cause = tt;
  keeps = keeps_none name f s;
}

-- nothing was due
pub step_none : (name : List ℕ) (f : FilesNow) (s : SinkNow) (value : Unit {0}) → Step name f s f s [] (Ok value)
step_none name f s value = record { does = did_none (streams name f s); cause = tt; keeps = keeps_none name f s }

-- the same trace by another name
pub step_same : (name : List ℕ) (f : FilesNow) (s : SinkNow) (g : FilesNow) (t : SinkNow) (a b : List Mark) (r : Result (Unit {0}) Halt)
    → a ≡ b → Step name f s g t a r → Step name f s g t b r
step_same name f s g t a b r same step = subst (λ (x : List Mark). Step name f s g t x r) same step

-- what a step put out is a front of what is due
pub step_front : (name : List ℕ) (f : FilesNow) (s : SinkNow) (g : FilesNow) (t : SinkNow) (a : List Mark) (r : Result (Unit {0}) Halt)
    → Step name f s g t a r → DidFront (streams name f s) (streams name g t) a
step_front name f s g t a (Ok value) step = record { part = a; rest = []; split = sym (append-nil a); did = step.does }
step_front name f s g t a (Err halt) step = step.does

-- ---- last steps

-- memory was refused before anything was put out
pub closes_refused : (name : List ℕ) (f : FilesNow) (s : SinkNow) (due : List Mark) → 0 < length due → Closes name f s f s due (Err OutOfMemory)
closes_refused name f s due some = record {
  step = gives_up_at_once name f s due;
  less = λ err. record { part = []; rest = due; split = refl; left = some; did = did_none (streams name f s) };
}

-- all bytes that are due were appended, or it stopped
pub closes_with : (name : List ℕ) (f g : FilesNow) (sink : SinkNow) (bytes due : List ℕ) (r : Result (Unit {0}) Halt) → bytes ≡ due → 0 < length due
    → ((s : SinkNow) → Step name f s g s (appends bytes) r)
    → (IsErr r → 0 < length bytes → (s : SinkNow) → DidLess (streams name f s) (streams name g s) (appends bytes))
    → Closes name f sink g sink (appends due) r
closes_with name f g sink bytes due r same due_some step less =
    let some : 0 < length bytes = subst (λ (x : List ℕ). 0 < length x) (sym same) due_some in
    subst (λ (x : List ℕ). Closes name f sink g sink (appends x) r) same (record { step = step sink; less = λ err. less err some sink })
