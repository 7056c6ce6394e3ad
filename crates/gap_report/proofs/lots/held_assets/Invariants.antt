use Rattle.std.proofs.Common.{◌≡◌, ◌+◌, ◌++◌, drop}
use Rattle.std.specs.String.{string_bytes}
use Rattle.gap_report.specs.Report.{held_from}
use Rattle.gap_report.proofs.lots.held_assets.Given as goal

abbrev pub invariant-loop-i : goal.invariant-loop-i
invariant-loop-i l = string_bytes l.text ++ held_from (l.i + 1) (drop l.i l.lots) ≡ held_from 1 l.lots
