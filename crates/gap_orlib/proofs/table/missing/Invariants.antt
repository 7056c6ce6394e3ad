use Rattle.std.proofs.Common.{◌≡◌, ◌*◌, ◌-◌}
use Rattle.gap_orlib.specs.Ports.{first_from, is_missing}
use Rattle.gap_orlib.proofs.table.missing.Given as goal

abbrev pub invariant-loop-at : goal.invariant-loop-at
invariant-loop-at l = first_from (l.n * l.n - l.at) l.at (is_missing l.n l.seen) ≡ first_from (l.n * l.n) 0 (is_missing l.n l.seen)
