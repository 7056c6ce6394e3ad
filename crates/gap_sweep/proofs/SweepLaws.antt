-- A sweep, step by step.
use Rattle.std.proofs.Common.{◌≡◌, ℕ, ◌+◌, ◌<◌, inl, inr, List, [], ◌++◌, length, length-append, append-nil, Option, Some, None, Result, Ok, Err, refl, sym, ap, ◌∙◌, subst, arith}
use Rattle.std.specs.Option.{option_map, ForSome}
use Rattle.std.proofs.lemmas.Option.{none-some, same_Some}
use Rattle.gap_files.specs.Outside.{FilesNow, SinkNow, bytes_of}
use Rattle.gap_instance.specs.Instances.{InstanceValue}
use Rattle.gap_psd.specs.Shifts.{ShiftValue}
use Rattle.gap_files.specs.Marks.{Mark, appends, prints, filed, printed, Streams, stream, streams, started, Did, DidFront, DidLess}
use Rattle.gap_files.specs.Steps.{Step, Keeps, HasCause, IsUnstarted, Opens, Closes}
use Rattle.gap_files.specs.declared.halt.Halt.{Halt}
use Rattle.gap_files.specs.declared.halt.Halt.TheVariants.{OutOfMemory}
use Rattle.gap_writer.specs.Writing.{end_bytes}
use Rattle.gap_files.proofs.MarkLaws.{did_none, did_both, front_of_more, front_behind, less_of_front, less_behind, length-appends, appends_some}
use Rattle.gap_files.proofs.StepLaws.{keeps_both, cause_later, then_step, stops_early, gives_up_at_once, step_front}
use Rattle.gap_sweep.specs.declared.style.Style.{Style}
use Rattle.gap_sweep.specs.declared.carried.Carried.{Carried}
use Rattle.gap_sweep.specs.Asked.{Asked, Done, IsShiftOf}
use Rattle.gap_sweep.specs.Texts.{frontier_text}
use Rattle.gap_sweep.specs.Traces.{opening_trace, weights_trace, closing_trace, begun_trace, whole_trace}
use Rattle.gap_sweep.specs.Runs.{HasDone, Finished, Stopped, under_way, at_the_end, Leaves, unstarted, stopped, Runs}
use Rattle.gap_sweep.specs.Steps.{Sweeps, GoesOn}
use Rattle.gap_writer.proofs.ItemLaws.{end_some}

-- it stopped before the end mark
pub closes_early : (I : InstanceValue) (style : Style) (done : List Done) (name : List ℕ) (f : FilesNow) (s : SinkNow) (g : FilesNow) (t : SinkNow) (halt : Halt)
    → Step name f s g t (prints (frontier_text I style done)) (Err halt) → Closes name f s g t (closing_trace I style done) (Err halt)
unfolding closing_trace
closes_early I style done name f s g t halt step = record {
  step = stops_early name f s g t (prints (frontier_text I style done)) (appends end_bytes) halt step;
  less = λ err. less_of_front (streams name f s) (streams name g t) (prints (frontier_text I style done)) (appends end_bytes) (appends_some end_bytes end_some) step.does;
}

-- the end mark behind the lines
pub closes_behind : (I : InstanceValue) (style : Style) (done : List Done) (name : List ℕ) (f : FilesNow) (s : SinkNow) (g : FilesNow) (t : SinkNow) (h : FilesNow) (u : SinkNow) (r : Result (Unit {0}) Halt)
    → Step name f s g t (prints (frontier_text I style done)) (Ok tt) → Closes name g t h u (appends end_bytes) r → Closes name f s h u (closing_trace I style done) r
unfolding closing_trace
closes_behind I style done name f s g t h u r first closes = record {
  step = then_step name f s g t h u (prints (frontier_text I style done)) (appends end_bytes) tt r first closes.step;
  less = λ err. less_behind (streams name f s) (streams name g t) (streams name h u) (prints (frontier_text I style done)) (appends end_bytes) first.does (closes.less err);
}

-- it stopped before the first weight
pub goes_unopened : (asked : Asked) (shift : ShiftValue) (name : List ℕ) (f : FilesNow) (s : SinkNow) (g : FilesNow) (t : SinkNow) (halt : Halt)
    → IsShiftOf asked.instance shift → Step name f s g t (opening_trace asked shift) (Err halt) → GoesOn asked name f s g t (Err halt)
goes_unopened asked shift name f s g t halt is step = record {
  ends = under_way shift [] (record { shift_is = is; right = tt })
      (front_of_more (streams name f s) (streams name g t) (opening_trace asked shift) [] step.does);
  cause = step.cause;
  keeps = step.keeps;
}

-- it stopped at a weight
pub goes_under_way : (asked : Asked) (shift : ShiftValue) (carried : Carried) (name : List ℕ) (f : FilesNow) (s : SinkNow) (g : FilesNow) (t : SinkNow) (h : FilesNow) (u : SinkNow) (halt : Halt)
    → IsShiftOf asked.instance shift → Step name f s g t (opening_trace asked shift) (Ok tt)
    → Sweeps asked.instance shift asked.nodes asked.weights carried name g t h u (Err halt) → GoesOn asked name f s h u (Err halt)
goes_under_way asked shift carried name f s g t h u halt is first sweeps = record {
  ends = under_way shift sweeps.done (record { shift_is = is; right = sweeps.right })
      (front_behind (streams name f s) (streams name g t) (streams name h u) (opening_trace asked shift) (weights_trace asked.instance.lots sweeps.done) first.does sweeps.step.does);
  cause = cause_later name f s g t h u (Err halt) first.keeps sweeps.step.cause;
  keeps = keeps_both name f s g t h u first.keeps sweeps.step.keeps;
}

behind_begun : (asked : Asked) (shift : ShiftValue) (done : List Done) (name : List ℕ) (f : FilesNow) (s : SinkNow) (g : FilesNow) (t : SinkNow) (r : Result (Unit {0}) Halt)
    (h : FilesNow) (u : SinkNow)
    → HasDone asked shift done → length done ≡ length asked.weights → Step name f s g t (begun_trace asked shift done) (Ok tt)
    → Closes name g t h u (closing_trace asked.instance asked.style done) r → GoesOn asked name f s h u r
behind_begun asked shift done name f s g t (Ok value) h u has all first closes = record {
  ends = record {
    shift = shift;
    done = done;
    has_done = has;
    all = all;
    did = did_both (streams name f s) (streams name g t) (streams name h u) (begun_trace asked shift done) (closing_trace asked.instance asked.style done) first.does closes.step.does;
  };
  cause = tt;
  keeps = keeps_both name f s g t h u first.keeps closes.step.keeps;
}
behind_begun asked shift done name f s g t (Err halt) h u has all first closes = record {
  ends = at_the_end shift done has all
      (less_behind (streams name f s) (streams name g t) (streams name h u) (begun_trace asked shift done) (closing_trace asked.instance asked.style done) first.does (closes.less refl));
  cause = cause_later name f s g t h u (Err halt) first.keeps closes.step.cause;
  keeps = keeps_both name f s g t h u first.keeps closes.step.keeps;
}

-- all weights were done
pub goes_to_the_end : (asked : Asked) (shift : ShiftValue) (carried : Carried) (name : List ℕ) (f : FilesNow) (s : SinkNow) (g : FilesNow) (t : SinkNow) (h : FilesNow) (u : SinkNow)
    (k : FilesNow) (v : SinkNow) (r : Result (Unit {0}) Halt)
    → IsShiftOf asked.instance shift → Step name f s g t (opening_trace asked shift) (Ok tt)
    → (sweeps : Sweeps asked.instance shift asked.nodes asked.weights carried name g t h u (Ok tt))
    → Closes name h u k v (closing_trace asked.instance asked.style sweeps.done) r → GoesOn asked name f s k v r
goes_to_the_end asked shift carried name f s g t h u k v r is first sweeps closes =
    behind_begun asked shift sweeps.done name f s h u r k v (record { shift_is = is; right = sweeps.right }) (sweeps.all refl)
    (then_step name f s g t h u (opening_trace asked shift) (weights_trace asked.instance.lots sweeps.done) tt (Ok tt) first sweeps.step) closes

started_file : (content : Option (Option (List ℕ))) (now : Option (List ℕ)) (P : List ℕ → Type 0) → ForSome content (λ before. now ≡ Some []) → ForSome now P
    → ForSome (option_map (λ (before : List ℕ). []) (option_map bytes_of content)) P
started_file None now P empty holds = λ before told. absurd (none-some before told)
started_file (Some content) now P empty holds = λ before told. subst P (same_Some [] before told) (holds [] (empty content refl))

-- what was put out behind the start of a file
pub started_did : (name : List ℕ) (f g : FilesNow) (s : SinkNow) (new : Streams) (trace : List Mark)
    → ForSome (f.content name) (λ before. g.content name ≡ Some (Some [])) → Did (streams name g s) new trace → Did (started name f s) new trace
started_did name f g s new trace empty did = record {
  file = started_file (f.content name) (stream name g) (λ before. new.file ≡ Some (before ++ filed trace)) (λ before told. ap (option_map bytes_of) (empty before told)) did.file;
  sink = did.sink;
}

started_stopped : (asked : Asked) (name : List ℕ) (f g : FilesNow) (s : SinkNow) (new : Streams)
    → ForSome (f.content name) (λ before. g.content name ≡ Some (Some [])) → Stopped asked (streams name g s) new → Stopped asked (started name f s) new
started_stopped asked name f g s new empty (under_way shift done has front) =
    under_way shift done has (record { part = front.part; rest = front.rest; split = front.split; did = started_did name f g s new front.part empty front.did })
started_stopped asked name f g s new empty (at_the_end shift done has all less) =
    at_the_end shift done has all (record { part = less.part; rest = less.rest; split = less.split; left = less.left; did = started_did name f g s new less.part empty less.did })

-- the file wasn't started
pub runs_unstarted : (asked : Asked) (name : List ℕ) (f g : FilesNow) (s : SinkNow) (halt : Halt) → Opens name f s g s (Err halt) → Runs asked name f s g s (Err halt)
runs_unstarted asked name f g s halt opens = record { solves = unstarted opens.empty; cause = opens.cause; keeps = opens.keeps }

-- memory was refused before anything was put out
pub runs_without_shift : (asked : Asked) (name : List ℕ) (f g : FilesNow) (s : SinkNow) → Opens name f s g s (Ok tt) → Runs asked name f s g s (Err OutOfMemory)
runs_without_shift asked name f g s opens = record {
  solves = unstarted (record { file = λ before told. inr (opens.empty before told); sink = λ before told. told });
  cause = tt;
  keeps = opens.keeps;
}

-- a sweep behind the start of its file
pub runs_on : (asked : Asked) (name : List ℕ) (f g : FilesNow) (s : SinkNow) (h : FilesNow) (u : SinkNow) (r : Result (Unit {0}) Halt)
    → Opens name f s g s (Ok tt) → GoesOn asked name g s h u r → Runs asked name f s h u r
runs_on asked name f g s h u (Ok value) opens goes = record {
  solves = record {
    shift = goes.ends.shift;
    done = goes.ends.done;
    has_done = goes.ends.has_done;
    all = goes.ends.all;
    did = started_did name f g s (streams name h u) (whole_trace asked goes.ends.shift goes.ends.done) opens.empty goes.ends.did;
  };
  cause = tt;
  keeps = keeps_both name f s g s h u opens.keeps goes.keeps;
}
runs_on asked name f g s h u (Err halt) opens goes = record {
  solves = stopped (started_stopped asked name f g s (streams name h u) opens.empty goes.ends);
  cause = cause_later name f s g s h u (Err halt) opens.keeps goes.cause;
  keeps = keeps_both name f s g s h u opens.keeps goes.keeps;
}
