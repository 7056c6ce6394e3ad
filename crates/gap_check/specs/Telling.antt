-- The report of a certificate that was accepted. Own to portgap.
use Rattle.std.specs.Prelude.{ℕ, List, [], ◌∷◌, ◌++◌, codes}
use Rattle.gap_model.specs.declared.outcome.Told.{Told}
use Rattle.gap_report.specs.Report.{verdict_line}
use Rattle.gap_valid.specs.Verdicts.{VerdictValue}

-- the lines of what is told of weights one after another, for a budget of this many lots
unfoldable pub verdict_lines : ℕ → List Told → List ℕ
verdict_lines lots [] = []
verdict_lines lots (told ∷ more) = verdict_line lots told ++ verdict_lines lots more

-- the report of a verdict: the line of each weight in order, and then `yes`
abbrev pub verdict_report : VerdictValue → List ℕ
verdict_report v = verdict_lines v.instance.lots v.sections ++ codes "yes\n"
