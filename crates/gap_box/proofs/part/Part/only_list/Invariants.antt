use Rattle.std.proofs.Common.{◌≡◌, ℕ, ◌<◌, length, slice_index_or, Some}
use Rattle.gap_box.specs.declared.cell.Cell.TheVariants.{Out}
use Rattle.gap_box.specs.Only.{only_number}
use Rattle.gap_box.proofs.part.Part.only_list.Given as goal

abbrev pub invariant-loop-i : goal.invariant-loop-i
invariant-loop-i l = record {
  same_length : length l.x ≡ length l.self;
  done : (k : ℕ) → k < l.i → only_number l.free_held (slice_index_or l.self k Out) ≡ Some (slice_index_or l.x k 0);
}
