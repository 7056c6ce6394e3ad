-- What a sweep puts out, in its order. Own to portgap.

use Rattle.std.specs.Prelude.{ℕ, List, [], ◌∷◌, ◌++◌, length}
use Rattle.gap_instance.specs.Instances.{InstanceValue}
use Rattle.gap_psd.specs.Shifts.{ShiftValue}
use Rattle.gap_writer.specs.Filled.{section_bytes}
use Rattle.gap_solve.specs.Ends.{best_in}
use Rattle.gap_files.specs.Marks.{Mark, appends, prints}
use Rattle.gap_writer.specs.Writing.{end_bytes}
use Rattle.gap_sweep.specs.declared.style.Style.{Style}
use Rattle.gap_sweep.specs.Asked.{Asked, Done}
use Rattle.gap_sweep.specs.Texts.{head_bytes, market_text, weight_text, portfolio_text, frontier_text}

-- before any weight: the head into the file, then the line of the market
unfoldable pub opening_trace : Asked → ShiftValue → List Mark
opening_trace asked shift =
    appends (head_bytes asked.instance shift asked.nodes (length asked.weights))
    ++ prints (market_text asked.style asked.instance asked.rounded shift)

-- for a weight: its section into the file, then its line, then the line of its lots
unfoldable pub weight_trace : ℕ → Done → List Mark
weight_trace lots d =
    (appends (section_bytes d.section) ++ prints (weight_text lots d.solved))
    ++ prints (portfolio_text (best_in d.solved.outcome))

-- the weights one after the other
abbrev pub weights_trace : ℕ → List Done → List Mark
weights_trace lots [] = []
weights_trace lots (d ∷ done) = weight_trace lots d ++ weights_trace lots done

-- behind all weights: the lines of the frontier, then the end mark into the file
unfoldable pub closing_trace : InstanceValue → Style → List Done → List Mark
closing_trace I style done = prints (frontier_text I style done) ++ appends end_bytes

-- all weights, and what comes before them
abbrev pub begun_trace : Asked → ShiftValue → List Done → List Mark
begun_trace asked shift done = opening_trace asked shift ++ weights_trace asked.instance.lots done

-- a whole sweep
abbrev pub whole_trace : Asked → ShiftValue → List Done → List Mark
whole_trace asked shift done = begun_trace asked shift done ++ closing_trace asked.instance asked.style done
