-- A line that was made and then printed.
use Rattle.std.proofs.Common.{◌≡◌, ℕ, ℤ, List, [], ◌++◌, Option, Some, None, Result, Ok, Err, refl, sym, ap, ◌∙◌, subst}
use Rattle.gap_files.specs.Outside.{FilesNow, SinkNow}
use Rattle.gap_instance.specs.Instances.{InstanceValue}
use Rattle.gap_psd.specs.Shifts.{ShiftValue, total_of}
use Rattle.gap_model.specs.declared.outcome.Best.{Best}
use Rattle.gap_model.specs.declared.outcome.Told.{Told}
use Rattle.gap_model.specs.declared.front.FrontRow.{FrontRow}
use Rattle.gap_model.specs.Nodes.{splits_of}
use Rattle.gap_report.specs.Report.{market_line, weight_line, lots_line}
use Rattle.gap_solved.specs.Solveds.{SolvedValue}
use Rattle.gap_files.specs.Marks.{prints}
use Rattle.gap_files.specs.Steps.{Step}
use Rattle.gap_files.specs.declared.halt.Halt.{Halt}
use Rattle.gap_files.proofs.MarkLaws.{prints-none}
use Rattle.gap_files.proofs.StepLaws.{step_same, step_none}
use Rattle.gap_sweep.specs.declared.style.Style.{Style}
use Rattle.gap_sweep.specs.declared.style.Style.TheVariants.{Whole, Single}
use Rattle.gap_sweep.specs.Asked.{Done}
use Rattle.gap_sweep.specs.Texts.{market_text, portfolio_text, weight_text, front_text, frontier_text, front_rows, front_numbers}

-- bytes that are a text were printed
pub printed_as : (bytes text : List ℕ) (name : List ℕ) (files : FilesNow) (s t : SinkNow) (r : Result (Unit {0}) Halt) → bytes ≡ text
    → Step name files s files t (prints bytes) r → Step name files s files t (prints text) r
printed_as bytes text name files s t r same step = step_same name files s files t (prints bytes) (prints text) r (ap prints same) step

-- no text was due
pub printed_none : (text : List ℕ) (name : List ℕ) (files : FilesNow) (s : SinkNow) → text ≡ [] → Step name files s files s (prints text) (Ok tt)
printed_none text name files s none = step_same name files s files s [] (prints text) (Ok tt) (sym prints-none ∙ ap prints (sym none)) (step_none name files s tt)

pub market_whole : (style : Style) (I : InstanceValue) (rounded : ℕ) (shift : ShiftValue) (n : ℕ) (total : ℤ) → style ≡ Whole → n ≡ I.market.assets → total ≡ total_of shift
    → market_line n rounded total ≡ market_text style I rounded shift
market_whole style I rounded shift n total is assets sum =
    ap (λ (x : ℕ). market_line x rounded total) assets ∙ ap (λ (x : ℤ). market_line I.market.assets rounded x) sum
    ∙ sym (ap (λ (x : Style). market_text x I rounded shift) is)

pub market_single : (style : Style) (I : InstanceValue) (rounded : ℕ) (shift : ShiftValue) → style ≡ Single → market_text style I rounded shift ≡ []
market_single style I rounded shift is = ap (λ (x : Style). market_text x I rounded shift) is

pub portfolio_some : (found : Option Best) (best : Best) → found ≡ Some best → lots_line best.lots ≡ portfolio_text found
portfolio_some found best is = sym (ap portfolio_text is)

pub portfolio_none : (found : Option Best) → found ≡ None → portfolio_text found ≡ []
portfolio_none found is = ap portfolio_text is

-- the line of a weight
pub weight_is : (lots : ℕ) (solved : SolvedValue) (told : Told) (n : ℕ) → told ≡ record { weight = solved.weight; outcome = solved.outcome } → n ≡ splits_of solved.nodes
    → weight_line lots told n ≡ weight_text lots solved
weight_is lots solved told n is splits =
    ap (λ (x : Told). weight_line lots x n) is ∙ ap (λ (x : ℕ). weight_line lots (record { weight = solved.weight; outcome = solved.outcome }) x) splits

-- the lines of the frontier, where they come
pub frontier_is : (I : InstanceValue) (style : Style) (done : List Done) (lots : ℕ) (rows : List FrontRow) (numbers : List ℕ) → style ≡ Whole → lots ≡ I.lots
    → rows ≡ front_rows I done → numbers ≡ front_numbers 1 done → front_text lots rows numbers rows ≡ frontier_text I style done
frontier_is I style done lots rows numbers is same rows_are numbers_are =
    ap (λ (x : ℕ). front_text x rows numbers rows) same ∙ ap (λ (x : List FrontRow). front_text I.lots x numbers x) rows_are
    ∙ ap (λ (x : List ℕ). front_text I.lots (front_rows I done) x (front_rows I done)) numbers_are ∙ sym (ap (λ (x : Style). frontier_text I x done) is)

pub frontier_none : (I : InstanceValue) (style : Style) (done : List Done) → style ≡ Single → frontier_text I style done ≡ []
frontier_none I style done is = ap (λ (x : Style). frontier_text I x done) is
