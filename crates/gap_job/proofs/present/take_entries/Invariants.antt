use Rattle.std.proofs.Common.{◌≡◌, length, map, take, fold, Ok}
use Rattle.serde_json.specs.View.{view}
use Rattle.gap_job.specs.Entries.{with_present}
use Rattle.gap_job.proofs.present.take_entries.Given as goal

abbrev pub invariant-loop-entry : goal.invariant-loop-entry
invariant-loop-entry l = record {
  so_far : fold (with_present l.n) (Ok l.fn.present) (take l.entry-index (map view l.entries)) ≡ Ok l.present;
  lots : length l.present.lots ≡ l.n;
  named : length l.present.named ≡ l.n;
}
