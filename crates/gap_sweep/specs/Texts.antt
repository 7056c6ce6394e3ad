-- The lines and the bytes of a sweep. Own to portgap.

use Rattle.std.specs.Prelude.{ℕ, ◌+◌, List, [], ◌∷◌, ◌++◌, Bool, ◌&&◌, ◌||◌, not, Option, Some, None}
use Rattle.std.specs.Int.Signed.{le_z, lt_z}
use Rattle.std.specs.List.{list_all}
use Rattle.gap_instance.specs.Instances.{InstanceValue}
use Rattle.gap_instance.specs.Objective.{risk_of, return_of}
use Rattle.gap_psd.specs.Shifts.{ShiftValue, total_of}
use Rattle.gap_base.specs.declared.weight.Weight.{Weight}
use Rattle.gap_model.specs.declared.outcome.Best.{Best}
use Rattle.gap_model.specs.declared.front.FrontRow.{FrontRow}
use Rattle.gap_model.specs.Nodes.{splits_of}
use Rattle.gap_cert.specs.declared.field.Version.TheVariants.{Two}
use Rattle.gap_cert.specs.declared.field.Field.TheVariants as field
use Rattle.gap_cert.specs.Certificates.{head_fields, spelled}
use Rattle.gap_valid.specs.HeadOf.{head_of}
use Rattle.gap_report.specs.Report.{market_line, weight_line, lots_line, front_line}
use Rattle.gap_solved.specs.Solveds.{SolvedValue}
use Rattle.gap_solve.specs.Ends.{best_in}
use Rattle.gap_sweep.specs.declared.style.Style.{Style}
use Rattle.gap_sweep.specs.declared.style.Style.TheVariants.{Whole, Single}
use Rattle.gap_sweep.specs.Asked.{Done}

-- the bytes of the head of a certificate, with the number of its sections
unfoldable pub head_bytes : InstanceValue → ShiftValue → ℕ → ℕ → List ℕ
head_bytes I shift nodes count = spelled Two None (head_fields (head_of I shift nodes) ++ (field.Sections count ∷ []))

-- the line of the market, where it comes
abbrev pub market_text : Style → InstanceValue → ℕ → ShiftValue → List ℕ
market_text Whole I rounded shift = market_line I.market.assets rounded (total_of shift)
market_text Single I rounded shift = []

-- the line of the lots where there is a portfolio, and nothing where there is none
abbrev pub portfolio_text : Option Best → List ℕ
portfolio_text None = []
portfolio_text (Some best) = lots_line best.lots

-- the line of a weight
abbrev pub weight_text : ℕ → SolvedValue → List ℕ
weight_text lots solved =
    weight_line lots (record { weight = solved.weight; outcome = solved.outcome }) (splits_of solved.nodes)

-- the row of a portfolio
abbrev pub row_of : InstanceValue → Weight → Best → FrontRow
row_of I weight best = record { weight = weight; risk = risk_of I.market best.lots; ret = return_of I.market best.lots }

-- the row of a weight, where it has a portfolio
abbrev pub own_row : InstanceValue → Weight → Option Best → List FrontRow
own_row I weight None = []
own_row I weight (Some best) = row_of I weight best ∷ []

-- the number of a weight, where it has a portfolio
abbrev pub own_number : ℕ → Option Best → List ℕ
own_number number None = []
own_number number (Some best) = number ∷ []

-- the rows of the weights that have a portfolio, in their order
abbrev pub front_rows : InstanceValue → List Done → List FrontRow
front_rows I [] = []
front_rows I (d ∷ done) = own_row I d.solved.weight (best_in d.solved.outcome) ++ front_rows I done

-- the numbers of the weights that have a portfolio, where the first weight has this number
abbrev pub front_numbers : ℕ → List Done → List ℕ
front_numbers number [] = []
front_numbers number (d ∷ done) = own_number number (best_in d.solved.outcome) ++ front_numbers (number + 1) done

-- does a row dominate another? Its risk isn't greater, its return isn't smaller, and one of the two is better
abbrev pub dominates : FrontRow → FrontRow → Bool
dominates row other =
    (le_z row.risk other.risk && le_z other.ret row.ret) && (lt_z row.risk other.risk || lt_z other.ret row.ret)

-- does none of these rows dominate a row?
abbrev pub is_efficient : List FrontRow → FrontRow → Bool
is_efficient rows row = list_all (λ other. not (dominates other row)) rows

-- the lines of rows by their numbers, each ranked among all rows
abbrev pub front_text : ℕ → List FrontRow → List ℕ → List FrontRow → List ℕ
front_text lots all [] rows = []
front_text lots all (number ∷ numbers) [] = []
front_text lots all (number ∷ numbers) (row ∷ rows) =
    front_line lots number row (is_efficient all row) ++ front_text lots all numbers rows

-- the lines of the frontier, where they come
abbrev pub frontier_text : InstanceValue → Style → List Done → List ℕ
frontier_text I Whole done = front_text I.lots (front_rows I done) (front_numbers 1 done) (front_rows I done)
frontier_text I Single done = []
