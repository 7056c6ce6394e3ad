-- What comes before the weights.
use Rattle.std.proofs.Common.{◌≡◌, ℕ, List, ◌++◌, length, Result, Ok, Err, sym, ap, subst}
use Rattle.gap_files.specs.Outside.{FilesNow, SinkNow}
use Rattle.gap_psd.specs.Shifts.{ShiftValue}
use Rattle.gap_files.specs.Marks.{Mark, appends, prints}
use Rattle.gap_files.specs.Steps.{Step}
use Rattle.gap_files.specs.declared.halt.Halt.{Halt}
use Rattle.gap_files.proofs.StepLaws.{then_step, stops_early}
use Rattle.gap_sweep.specs.Asked.{Asked}
use Rattle.gap_sweep.specs.Texts.{head_bytes, market_text}
use Rattle.gap_sweep.specs.Traces.{opening_trace}

-- it stopped at the head
pub opens_stopped : (asked : Asked) (shift : ShiftValue) (count : ℕ) → count ≡ length asked.weights
    → (name : List ℕ) (f g : FilesNow) (s : SinkNow) (halt : Halt)
    → Step name f s g s (appends (head_bytes asked.instance shift asked.nodes count)) (Err halt) → Step name f s g s (opening_trace asked shift) (Err halt)
unfolding opening_trace
opens_stopped asked shift count same name f g s halt step =
    stops_early name f s g s (appends (head_bytes asked.instance shift asked.nodes (length asked.weights))) (prints (market_text asked.style asked.instance asked.rounded shift)) halt
    (subst (λ (n : ℕ). Step name f s g s (appends (head_bytes asked.instance shift asked.nodes n)) (Err halt)) same step)

-- the head was appended, and then the line of the market printed, or it stopped there
pub opens_both : (asked : Asked) (shift : ShiftValue) (count : ℕ) → count ≡ length asked.weights
    → (name : List ℕ) (f g : FilesNow) (s t : SinkNow) (r : Result (Unit {0}) Halt)
    → Step name f s g s (appends (head_bytes asked.instance shift asked.nodes count)) (Ok tt)
    → Step name g s g t (prints (market_text asked.style asked.instance asked.rounded shift)) r → Step name f s g t (opening_trace asked shift) r
unfolding opening_trace
opens_both asked shift count same name f g s t r first next =
    then_step name f s g s g t (appends (head_bytes asked.instance shift asked.nodes (length asked.weights))) (prints (market_text asked.style asked.instance asked.rounded shift)) tt r
    (subst (λ (n : ℕ). Step name f s g s (appends (head_bytes asked.instance shift asked.nodes n)) (Ok tt)) same first) next
