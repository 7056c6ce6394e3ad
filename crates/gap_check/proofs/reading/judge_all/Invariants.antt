use Rattle.std.proofs.Common.{◌≡◌, ℕ, ◌+◌, List, length}
use Rattle.gap_check.specs.Histories.{HasJudged}
use Rattle.gap_check.specs.Going.{IsOn}
use Rattle.gap_check.proofs.reading.judge_all.Given as goal

abbrev pub invariant-loop : goal.invariant-loop
invariant-loop l = record {
  on : IsOn l.scanner l.judge;
  whole : l.scanner.place + length l.scanner.rest ≡ l.fn.scanner.place + length l.fn.scanner.rest;
  seen : (seen : List ℕ) → HasJudged seen l.fn.scanner l.fn.judge → HasJudged seen l.scanner l.judge;
}

abbrev pub decreases-loop : goal.decreases-loop
decreases-loop l = length l.scanner.rest
