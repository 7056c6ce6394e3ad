-- What was read and the entries still to come are the portfolio.
use Rattle.std.proofs.Common.{◌≡◌, ◌-◌, ◌≤◌, length}
use Rattle.gap_cert.specs.Formats.{read}
use Rattle.gap_cert.specs.Contexts.{lots_format, lots_end, entries_format}
use Rattle.gap_scan.proofs.groups.lots_entries.Given as goal

abbrev pub invariant-loop-entry : goal.invariant-loop-entry
invariant-loop-entry l =
    (read (lots_format l.fn.version l.fn.n l.fn.count) l.fn.cursor ≡ read (entries_format (l.count - l._entry) l.n 2 10000 l.most l.last l.total l.x (lots_end l.version)) l.cursor)
    × (length l.x ≡ l.n) × (l.total ≤ l.most)
