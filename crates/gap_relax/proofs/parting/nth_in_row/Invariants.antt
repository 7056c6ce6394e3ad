use Rattle.std.proofs.Common.{◌≡◌, ◌<◌, length}
use Rattle.gap_base.specs.Sums.{at}
use Rattle.gap_relax.specs.Partings.{IsGreatestAt, HasLeast}
use Rattle.gap_relax.proofs.parting.nth_in_row.Given as goal

abbrev pub invariant-loop-i : goal.invariant-loop-i
invariant-loop-i l = record {
  room : length l.row ≡ l.room;
  there : l.top < length l.row;
  greatest : IsGreatestAt l.row l.top;
  least : HasLeast l.i (at l.numbers) l.row;
}
