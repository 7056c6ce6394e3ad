use Rattle.std.proofs.Common.{◌≡◌, ◌++◌, drop}
use Rattle.gap_check.specs.Telling.{verdict_lines}
use Rattle.gap_check.proofs.telling.verdict_lines.Given as goal

abbrev pub invariant-loop-told : goal.invariant-loop-told
invariant-loop-told l = l.text.items ++ verdict_lines l.lots (drop l.told-index l.sections) ≡ l.fn.text.items ++ verdict_lines l.lots l.sections
