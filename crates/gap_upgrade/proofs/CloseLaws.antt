-- What comes behind the items, and the pieces of what a writer has.
use Rattle.std.proofs.Common.{◌≡◌, ℕ, ◌<◌, List, [], ◌∷◌, ◌++◌, length, take, drop, Result, Ok, Err, IsErr, refl, sym, ap, ◌∙◌, subst, arith}
use Rattle.std.proofs.lemmas.List.{append-nil, length-append, take-append-drop}
use Rattle.gap_cert.specs.declared.field.Field.TheVariants as field
use Rattle.gap_cert.specs.Bytes.{be}
use Rattle.gap_cert.specs.Fields.{end_mark}
use Rattle.gap_cert.specs.Certificates.{spelled}
use Rattle.gap_cert.proofs.Numbers.{length-be}
use Rattle.gap_files.specs.Outside.{FilesNow, SinkNow}
use Rattle.gap_check.specs.Telling.{verdict_report}
use Rattle.gap_files.specs.Drains.{Flows}
use Rattle.gap_files.specs.Marks.{Mark, appends, prints, streams, DidLess}
use Rattle.gap_files.specs.Steps.{Step, Closes}
use Rattle.gap_files.specs.declared.halt.Halt.{Halt}
use Rattle.gap_files.specs.declared.halt.Halt.TheVariants.{OutOfMemory}
use Rattle.gap_files.proofs.DrainLaws.{flows_end}
use Rattle.gap_files.proofs.MarkLaws.{appends-append, appends-none, did_none, length-appends, less_of_front, less_behind, appends_some}
use Rattle.gap_files.proofs.StepLaws.{gives_up_at_once, step_same, step_none, stops_early, then_step, closes_refused}
use Rattle.gap_valid.specs.Verdicts.{VerdictValue}
use Rattle.gap_writer.specs.Writing.{Written, blank, put, end_bytes}
use Rattle.gap_writer.proofs.ItemLaws.{end_some}
use Rattle.gap_upgrade.specs.Upgrading.{closing_trace}

-- ---- pieces

-- a first piece went
pub piece_gone : (name : List ℕ) (f g : FilesNow) (sink : SinkNow) (bytes : List ℕ) (n : ℕ) → Step name f sink g sink (appends (take n bytes)) (Ok tt) → Flows name f g sink bytes (drop n bytes)
piece_gone name f g sink bytes n step = record { taken = take n bytes; split = sym (take-append-drop n bytes); step = step }

-- it stopped in the first piece
pub piece_broken : (name : List ℕ) (f g : FilesNow) (sink : SinkNow) (bytes : List ℕ) (n : ℕ) (halt : Halt) → Step name f sink g sink (appends (take n bytes)) (Err halt) → Step name f sink g sink (appends bytes) (Err halt)
piece_broken name f g sink bytes n halt step =
    step_same name f sink g sink (appends (take n bytes) ++ appends (drop n bytes)) (appends bytes) (Err halt)
    (sym (appends-append (take n bytes) (drop n bytes)) ∙ ap appends (take-append-drop n bytes)) (stops_early name f sink g sink (appends (take n bytes)) (appends (drop n bytes)) halt step)

pub pour_ok : (name : List ℕ) (f g : FilesNow) (sink : SinkNow) (all bytes left : List ℕ) (n : ℕ) → bytes ≡ all → left ≡ drop n all → Step name f sink g sink (appends (take n bytes)) (Ok tt) → Flows name f g sink all left
pour_ok name f g sink all bytes left n same rest step =
    subst (λ (x : List ℕ). Flows name f g sink all x) (sym rest) (piece_gone name f g sink all n (subst (λ (x : List ℕ). Step name f sink g sink (appends (take n x)) (Ok tt)) same step))

pub pour_err : (name : List ℕ) (f g : FilesNow) (sink : SinkNow) (all bytes : List ℕ) (n : ℕ) (halt : Halt) → bytes ≡ all → Step name f sink g sink (appends (take n bytes)) (Err halt) → Step name f sink g sink (appends all) (Err halt)
pour_err name f g sink all bytes n halt same step = piece_broken name f g sink all n halt (subst (λ (x : List ℕ). Step name f sink g sink (appends (take n x)) (Err halt)) same step)

-- all pieces went
pub all_gone : (name : List ℕ) (f g : FilesNow) (sink : SinkNow) (all left : List ℕ) → left ≡ [] → Flows name f g sink all left → Step name f sink g sink (appends all) (Ok tt)
all_gone name f g sink all left none flows =
    flows_end name f g g sink all left (Ok tt) flows (step_same name g sink g sink [] (appends left) (Ok tt) (sym (ap appends none ∙ appends-none)) (step_none name g sink tt))

-- ---- the end mark

end_marks : 0 < length (appends end_bytes)
end_marks = appends_some end_bytes end_some

pub closing_some : (v : VerdictValue) → 0 < length (closing_trace v)
unfolding closing_trace
closing_some v = behind_some (prints (verdict_report v)) (appends end_bytes) end_marks
  where
    behind_some : (a b : List Mark) → 0 < length b → 0 < length (a ++ b)
    behind_some [] b some = some
    behind_some (m ∷ a) b some = omega arith

-- ---- the closing

-- memory was refused for the report
pub closes_untold : (v : VerdictValue) (name : List ℕ) (f : FilesNow) (s : SinkNow) → Closes name f s f s (closing_trace v) (Err OutOfMemory)
closes_untold v name f s = closes_refused name f s (closing_trace v) (closing_some v)

-- it stopped in the report
pub closes_early : (v : VerdictValue) (text : List ℕ) (name : List ℕ) (f : FilesNow) (s : SinkNow) (g : FilesNow) (t : SinkNow) (halt : Halt)
    → text ≡ verdict_report v → Step name f s g t (prints text) (Err halt) → Closes name f s g t (closing_trace v) (Err halt)
unfolding closing_trace
closes_early v text name f s g t halt is first =
    let step = subst (λ (x : List ℕ). Step name f s g t (prints x) (Err halt)) is first in
    record {
      step = stops_early name f s g t (prints (verdict_report v)) (appends end_bytes) halt step;
      less = λ err. less_of_front (streams name f s) (streams name g t) (prints (verdict_report v)) (appends end_bytes) end_marks step.does;
    }

-- the end mark behind the report
pub closes_behind : (v : VerdictValue) (text : List ℕ) (name : List ℕ) (f : FilesNow) (s : SinkNow) (g : FilesNow) (t : SinkNow) (h : FilesNow) (u : SinkNow) (r : Result (Unit {0}) Halt)
    → text ≡ verdict_report v → Step name f s g t (prints text) (Ok tt) → Closes name g t h u (appends end_bytes) r → Closes name f s h u (closing_trace v) r
unfolding closing_trace
closes_behind v text name f s g t h u r is first closes =
    let step = subst (λ (x : List ℕ). Step name f s g t (prints x) (Ok tt)) is first in
    record {
      step = then_step name f s g t h u (prints (verdict_report v)) (appends end_bytes) tt r step closes.step;
      less = λ err. less_behind (streams name f s) (streams name g t) (streams name h u) (prints (verdict_report v)) (appends end_bytes) step.does (closes.less err);
    }
