-- What was read and the entries still to come are the witness.
use Rattle.std.proofs.Common.{◌≡◌, ◌-◌, ◌≤◌, length}
use Rattle.gap_cert.specs.Formats.{read}
use Rattle.gap_cert.specs.Contexts.{eighths_format, witness_tail, witness_end, entries_format}
use Rattle.gap_scan.proofs.groups.eighths_entries.Given as goal

abbrev pub invariant-loop-entry : goal.invariant-loop-entry
invariant-loop-entry l =
    (read (eighths_format l.fn.context.n l.fn.context.lots l.fn.context.turnover (witness_end l.fn.context l.fn.leaf) l.fn.count) l.fn.cursor
    ≡ read (entries_format (l.count - l._entry) l.context.n 4 4294967295 l.most l.last l.total l.y (witness_tail l.context.turnover (witness_end l.context l.leaf) l.count)) l.cursor)
    × (length l.y ≡ l.context.n) × (l.total ≤ l.most)
