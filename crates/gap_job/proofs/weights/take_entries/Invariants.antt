use Rattle.std.proofs.Common.{◌≡◌, [], length, map, take, fold, Ok}
use Rattle.serde_json.specs.View.{view}
use Rattle.gap_job.specs.Entries.{with_weight}
use Rattle.gap_job.proofs.weights.take_entries.Given as goal

abbrev pub invariant-loop-entry : goal.invariant-loop-entry
invariant-loop-entry l = record {
  so_far : fold (with_weight) (Ok []) (take l.entry-index (map view l.entries)) ≡ Ok l.weights;
  length : length l.weights ≡ l.entry-index;
}
