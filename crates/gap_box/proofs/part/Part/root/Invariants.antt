use Rattle.std.proofs.Common.{◌≡◌, ℕ, ◌<◌, length, slice_index_or}
use Rattle.gap_box.specs.declared.cell.Cell.TheVariants.{Out}
use Rattle.gap_box.specs.Parts.{root_cell}
use Rattle.gap_box.proofs.part.Part.root.Given as goal

abbrev pub invariant-loop-i : goal.invariant-loop-i
invariant-loop-i l = record {
  same_length : length l.part ≡ length l.lo;
  done : (k : ℕ) → k < l.i → slice_index_or l.part k Out ≡ root_cell (slice_index_or l.lo k 0) (slice_index_or l.hi k 0);
}
