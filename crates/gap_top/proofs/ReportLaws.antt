-- What a run has written is its report, or a front of it.
use Rattle.std.proofs.Common.{◌≡◌, ◌≢◌, ℕ, ◌+◌, List, [], ◌∷◌, ◌++◌, length, append_assoc, append-nil, Option, Some, None, refl, sym, ap, ◌∙◌}
use Rattle.gap_base.specs.declared.job.Job.{Job}
use Rattle.gap_base.specs.declared.weight.Weight.{Weight}
use Rattle.gap_base.specs.Markets.{MarketValue}
use Rattle.gap_files.specs.Outside.{SinkNow}
use Rattle.gap_valid.specs.Said.{said_market}
use Rattle.gap_valid.proofs.SaidLaws.{risk_said, return_said}
use Rattle.gap_instance.specs.Instances.{InstanceValue, instance_of}
use Rattle.gap_instance.specs.Objective.{risk_of, return_of}
use Rattle.gap_model.specs.declared.front.FrontRow.{FrontRow}
use Rattle.gap_model.specs.declared.outcome.Best.{Best}
use Rattle.gap_psd.specs.Shifts.{ShiftValue, total_of}
use Rattle.gap_report.specs.Report.{market_line}
use Rattle.gap_writer.specs.Filled.{section_bytes}
use Rattle.gap_solve.specs.Ends.{best_in}
use Rattle.gap_sweep.specs.declared.style.Style.{Style}
use Rattle.gap_sweep.specs.declared.style.Style.TheVariants.{Whole, Single}
use Rattle.gap_sweep.specs.Asked.{Asked, Done}
use Rattle.gap_sweep.specs.Texts.{head_bytes, market_text, weight_text, portfolio_text, own_row, front_rows, front_numbers, front_text, frontier_text}
use Rattle.gap_sweep.specs.Traces.{opening_trace, weight_trace, weights_trace, closing_trace, begun_trace, whole_trace}
use Rattle.gap_files.specs.Marks.{Mark, appends, prints, printed, Streams, Did, DidFront}
use Rattle.gap_files.proofs.MarkLaws.{printed-append, printed-appends, printed-prints}
use Rattle.gap_writer.specs.Writing.{end_bytes}
use Rattle.gap_top.specs.Reporting.{weights_text, report, IsReported}

printed_weight : (lots : ℕ) (d : Done) → printed (weight_trace lots d) ≡ weight_text lots d.solved ++ portfolio_text (best_in d.solved.outcome)
unfolding weight_trace
printed_weight lots d =
    let line : List ℕ = weight_text lots d.solved in
    let text : List ℕ = portfolio_text (best_in d.solved.outcome) in
    let a : List Mark = appends (section_bytes d.section) in
    let b : List Mark = prints line in
    let c : List Mark = prints text in
    printed-append (a ++ b) c
    ∙ ap (λ (x : List ℕ). x ++ printed c) (printed-append a b ∙ ap (λ (x : List ℕ). x ++ printed b) (printed-appends (section_bytes d.section)) ∙ printed-prints line)
    ∙ ap (λ (x : List ℕ). line ++ x) (printed-prints text)

printed_weights : (lots : ℕ) (done : List Done) → printed (weights_trace lots done) ≡ weights_text lots done
printed_weights lots [] = refl
printed_weights lots (d ∷ done) =
    printed-append (weight_trace lots d) (weights_trace lots done) ∙ ap (λ (x : List ℕ). x ++ printed (weights_trace lots done)) (printed_weight lots d)
    ∙ ap (λ (x : List ℕ). (weight_text lots d.solved ++ portfolio_text (best_in d.solved.outcome)) ++ x) (printed_weights lots done)

printed_opening : (asked : Asked) (shift : ShiftValue) → printed (opening_trace asked shift) ≡ market_text asked.style asked.instance asked.rounded shift
unfolding opening_trace
printed_opening asked shift =
    let bytes : List ℕ = head_bytes asked.instance shift asked.nodes (length asked.weights) in
    let text : List ℕ = market_text asked.style asked.instance asked.rounded shift in
    printed-append (appends bytes) (prints text) ∙ ap (λ (x : List ℕ). x ++ printed (prints text)) (printed-appends bytes) ∙ printed-prints text

printed_closing : (I : InstanceValue) (style : Style) (done : List Done) → printed (closing_trace I style done) ≡ frontier_text I style done
unfolding closing_trace
printed_closing I style done =
    let text : List ℕ = frontier_text I style done in
    printed-append (prints text) (appends end_bytes) ∙ ap (λ (x : List ℕ). printed (prints text) ++ x) (printed-appends end_bytes)
    ∙ append-nil (printed (prints text)) ∙ printed-prints text

-- the report before its frontier
abbrev begun_text : Asked → ShiftValue → List Done → List ℕ
begun_text asked shift done = market_text asked.style asked.instance asked.rounded shift ++ weights_text asked.instance.lots done

printed_begun : (asked : Asked) (shift : ShiftValue) (done : List Done) → printed (begun_trace asked shift done) ≡ begun_text asked shift done
printed_begun asked shift done =
    printed-append (opening_trace asked shift) (weights_trace asked.instance.lots done)
    ∙ ap (λ (x : List ℕ). x ++ printed (weights_trace asked.instance.lots done)) (printed_opening asked shift)
    ∙ ap (λ (x : List ℕ). market_text asked.style asked.instance asked.rounded shift ++ x) (printed_weights asked.instance.lots done)

printed_whole : (asked : Asked) (shift : ShiftValue) (done : List Done)
    → printed (whole_trace asked shift done) ≡ begun_text asked shift done ++ frontier_text asked.instance asked.style done
printed_whole asked shift done =
    printed-append (begun_trace asked shift done) (closing_trace asked.instance asked.style done)
    ∙ ap (λ (x : List ℕ). x ++ printed (closing_trace asked.instance asked.style done)) (printed_begun asked shift done)
    ∙ ap (λ (x : List ℕ). begun_text asked shift done ++ x) (printed_closing asked.instance asked.style done)

-- ---- the report over the market of a file and over the market as a certificate says it

own_said : (m : MarketValue) (job : Job) (w : Weight) (best : Option Best) → own_row (instance_of (said_market m) job) w best ≡ own_row (instance_of m job) w best
own_said m job w None = refl
own_said m job w (Some best) =
    ap (λ (r : _). record { weight = w; risk = r; ret = return_of (said_market m) best.lots } ∷ []) (risk_said m best.lots)
    ∙ ap (λ (r : _). record { weight = w; risk = risk_of m best.lots; ret = r } ∷ []) (return_said m best.lots)

pub rows_said : (m : MarketValue) (job : Job) (done : List Done) → front_rows (instance_of (said_market m) job) done ≡ front_rows (instance_of m job) done
rows_said m job [] = refl
rows_said m job (d ∷ done) =
    ap (λ (x : List FrontRow). x ++ front_rows (instance_of (said_market m) job) done) (own_said m job d.solved.weight (best_in d.solved.outcome))
    ∙ ap (λ (x : List FrontRow). own_row (instance_of m job) d.solved.weight (best_in d.solved.outcome) ++ x) (rows_said m job done)

report_said : (style : Style) (m : MarketValue) (job : Job) (rounded : ℕ) (shift : ShiftValue) (done : List Done)
    → report style (instance_of (said_market m) job) rounded shift done ≡ report style (instance_of m job) rounded shift done
unfolding said_market
report_said Whole m job rounded shift done =
    ap (λ (rows : List FrontRow). market_line m.assets rounded (total_of shift) ++ (weights_text job.lots done ++ front_text job.lots rows (front_numbers 1 done) rows)) (rows_said m job done)
report_said Single m job rounded shift done = refl

-- ---- what was written

-- all that was printed is this text
pub reported_all : (text : List ℕ) (old new : Streams) (s t : SinkNow) (trace : List Mark) → old.sink ≡ s.written → new.sink ≡ t.written → printed trace ≡ text → Did old new trace
    → IsReported text s t 0
reported_all text old new s t trace before after is did = record {
  front = λ was told. record { part = text; rest = []; split = sym (append-nil text); now = all was told };
  whole = λ zero was told. all was told;
}
  where
    all : (was : List ℕ) → s.written ≡ Some was → t.written ≡ Some (was ++ text)
    all was told = sym after ∙ did.sink was (before ∙ told) ∙ ap (λ (x : List ℕ). Some (was ++ x)) is

-- a front of what is due was printed, and that is a front of this text
pub reported_front : (text more : List ℕ) (old new : Streams) (s t : SinkNow) (due : List Mark) (status : ℕ) → status ≢ 0 → old.sink ≡ s.written → new.sink ≡ t.written → printed due ++ more ≡ text
    → DidFront old new due → IsReported text s t status
reported_front text more old new s t due status not before after is front = record {
  front = λ was told. record {
    part = printed front.part;
    rest = printed front.rest ++ more;
    split = sym is ∙ ap (λ (x : List Mark). printed x ++ more) front.split ∙ ap (λ (x : List ℕ). x ++ more) (printed-append front.part front.rest)
        ∙ append_assoc (printed front.part) (printed front.rest) more;
    now = sym after ∙ front.did.sink was (before ∙ told);
  };
  whole = λ zero. absurd (not zero);
}

-- the report of a whole sweep, over the market of a file
pub whole_text : (style : Style) (m : MarketValue) (job : Job) (nodes rounded : ℕ) (weights : List Weight) (shift : ShiftValue) (done : List Done)
    → printed (whole_trace (record { instance = instance_of (said_market m) job; rounded = rounded; weights = weights; nodes = nodes; style = style }) shift done)
    ≡ report style (instance_of m job) rounded shift done
whole_text style m job nodes rounded weights shift done =
    let asked : Asked = record { instance = instance_of (said_market m) job; rounded = rounded; weights = weights; nodes = nodes; style = style } in
    printed_whole asked shift done
    ∙ append_assoc (market_text style asked.instance rounded shift) (weights_text job.lots done) (frontier_text asked.instance style done)
    ∙ report_said style m job rounded shift done

-- and what is printed before its frontier is a front of it
pub begun_front : (style : Style) (m : MarketValue) (job : Job) (nodes rounded : ℕ) (weights : List Weight) (shift : ShiftValue) (done : List Done)
    → printed (begun_trace (record { instance = instance_of (said_market m) job; rounded = rounded; weights = weights; nodes = nodes; style = style }) shift done)
    ++ frontier_text (instance_of (said_market m) job) style done ≡ report style (instance_of m job) rounded shift done
begun_front style m job nodes rounded weights shift done =
    let asked : Asked = record { instance = instance_of (said_market m) job; rounded = rounded; weights = weights; nodes = nodes; style = style } in
    ap (λ (x : List ℕ). x ++ frontier_text asked.instance style done) (printed_begun asked shift done)
    ∙ append_assoc (market_text style asked.instance rounded shift) (weights_text job.lots done) (frontier_text asked.instance style done)
    ∙ report_said style m job rounded shift done
