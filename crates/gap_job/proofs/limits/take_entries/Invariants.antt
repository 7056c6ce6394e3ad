use Rattle.std.proofs.Common.{◌≡◌, length, map, take, fold, Ok}
use Rattle.serde_json.specs.View.{view}
use Rattle.gap_job.specs.Entries.{with_limit}
use Rattle.gap_job.proofs.limits.take_entries.Given as goal

abbrev pub invariant-loop-entry : goal.invariant-loop-entry
invariant-loop-entry l = record {
  so_far : fold (with_limit l.n l.lots) (Ok l.fn.limits) (take l.entry-index (map view l.entries)) ≡ Ok l.limits;
  least : length l.limits.least ≡ l.n;
  greatest : length l.limits.greatest ≡ l.n;
  named : length l.limits.named ≡ l.n;
}
