use Rattle.std.proofs.Common.{◌≡◌, ℕ, ◌+◌, List, length}
use Rattle.gap_upgrade.specs.Copying.{HasWritten}
use Rattle.gap_upgrade.proofs.copier.copy_items.Given as goal

abbrev pub invariant-loop-turn : goal.invariant-loop-turn
invariant-loop-turn l = record {
  written : (fed gone : List ℕ) → HasWritten l.fn.scanner l.fn.writer fed gone → HasWritten l.scanner l.writer fed gone;
  whole : l.scanner.place + length l.scanner.rest ≡ l.fn.scanner.place + length l.fn.scanner.rest;
}
